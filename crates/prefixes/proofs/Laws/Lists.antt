-- The list of a range's prefixes: of an empty range, of one address, of more, and what follows by going through the pairs.
-- Assumes nothing.
use Prim.Native.Nat.{ℕ, zero, suc, ◌+◌, ◌^◌, ◌≤◌, ◌<◌}
use mathlib.Core.Path.{◌≡◌, refl, sym, subst}
use mathlib.Core.Bool.{Bool, true, false}
use mathlib.Core.List.Memᴰ
use mathlib.Core.List.{List, [], ◌∷◌, ◌++◌, map, Memᴰ}
use native.Mathlib.Decide.{dec_lt}
use native.Mathlib.Omega.{arith}
use native.Mathlib.Nat.{pow-suc}
use borrow.Author.Tests.{lt-ltb, le-ltb, eq-eqb, ne_eqb}
use lib.ListN.{length, length-append, length-map}
use Rattle.base.specs.Truths.{bit}
use Rattle.policy.specs.Model.{Range}
use Rattle.prefixes.specs.Prefixes.{Prefix, alone_if, raised, is_first, is_second, pairs, prefixes}
use Rattle.prefixes.proofs.Laws.Steps.{alone}

-- A prefix that is there if a test holds.
pub of_alone : (b : Bool) (width a : ℕ) (p : Prefix) → Memᴰ p (alone_if b width a) → (b ≡ true) × (p ≡ alone width a)
of_alone true width a p m = (refl, Memᴰ.eq_of_singleton m)
of_alone false width a p m = absurd (Memᴰ.not-nil m)

-- The list, where the range has more than one address: around that of the pairs.
abbrev pub around : ℕ → Range → List Prefix → List Prefix
around width r ps =
    alone_if (is_second r.low) (suc width) r.low ++ (map (raised 1) ps ++ alone_if (is_first r.high) (suc width) r.high)

pub length_alone : (b : Bool) (width a : ℕ) → length (alone_if b width a) ≡ bit b
length_alone true width a = refl
length_alone false width a = refl

pub length_parts : (width : ℕ) (r : Range) (ps : List Prefix) → length (around width r ps) ≡ bit (is_second r.low) + (length ps + bit (is_first r.high))
length_parts width r ps =
    let a = length-append (alone_if (is_second r.low) (suc width) r.low) (map (raised 1) ps ++ alone_if (is_first r.high) (suc width) r.high) in
    let b = length-append (map (raised 1) ps) (alone_if (is_first r.high) (suc width) r.high) in
    let c = length_alone (is_second r.low) (suc width) r.low in
    let d = length_alone (is_first r.high) (suc width) r.high in
    let e = length-map ps (raised 1) in
    omega arith

pub prefixes_more : (width : ℕ) (r : Range) → r.low < r.high → prefixes (suc width) r ≡ around width r (prefixes width (pairs r))
unfolding prefixes
prefixes_more width r h = rw (lt-ltb r.low r.high h)

pub prefixes_one : (width : ℕ) (r : Range) → r.low ≡ r.high → prefixes width r ≡ alone width r.low ∷ []
unfolding prefixes
prefixes_one zero r h = rw (eq-eqb r.low r.high h)
prefixes_one (suc width) r h = rw (le-ltb r.low r.high (omega arith), eq-eqb r.low r.high h)

pub prefixes_none : (width : ℕ) (r : Range) → r.high < r.low → prefixes width r ≡ []
unfolding prefixes
prefixes_none zero r h = rw (ne_eqb r.low r.high (λ e. omega arith))
prefixes_none (suc width) r h = rw (le-ltb r.low r.high (omega arith), ne_eqb r.low r.high (λ e. omega arith))

-- What holds of no prefix for an empty range, of one for one address, and around the pairs' if it holds of those, holds of the prefixes of every range.
module _ (P : ℕ → Range → List Prefix → Type 0)
    (none : (width : ℕ) (r : Range) → r.high < r.low → P width r [])
    (one : (width : ℕ) (r : Range) → r.low ≡ r.high → r.high < 2 ^ width → P width r (alone width r.low ∷ []))
    (more : (width : ℕ) (r : Range) → r.low < r.high → r.high < 2 ^ suc width → (pairs r).high < 2 ^ width → P width (pairs r) (prefixes width (pairs r))
    → P (suc width) r (around width r (prefixes width (pairs r))))
  where
    few : (width : ℕ) (r : Range) → r.high ≤ r.low → r.high < 2 ^ width → P width r (prefixes width r)
    few width r h b =
        elim (dec_lt r.high r.low) [
          | yes l ↦ subst (P width r) (sym (prefixes_none width r l)) (none width r l)
          | no l ↦ let e : r.low ≡ r.high = omega arith in subst (P width r) (sym (prefixes_one width r e)) (one width r e b)
        ]

    pub by_pairs : (width : ℕ) (r : Range) → r.high < 2 ^ width → P width r (prefixes width r)
    by_pairs zero r b = few zero r (omega arith) b
    by_pairs (suc width) r b =
        elim (dec_lt r.low r.high) [
          | yes l ↦
              let e = pow-suc 2 width in
              let c : (pairs r).high < 2 ^ width = omega arith in
              subst (P (suc width) r) (sym (prefixes_more width r l)) (more width r l b c (by_pairs width (pairs r) c))
          | no l ↦ few (suc width) r (omega arith) b
        ]
