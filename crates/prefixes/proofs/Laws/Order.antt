-- The prefixes of a range ascend, and are few.
-- Assumes nothing.
use Prim.Native.Nat.{ℕ, zero, suc, ◌+◌, ◌*◌, ◌-◌, ◌%◌, ◌^◌, ◌≤◌, ◌<◌}
use mathlib.Core.Path.{◌≡◌, refl, ap}
use mathlib.Core.Bool.{Bool, true}
use mathlib.Core.Logic.{inl, inr}
use mathlib.Core.List.Memᴰ
use mathlib.Core.List.{List, map, Memᴰ}
use native.Mathlib.Decide.{dec_lt}
use native.Mathlib.Omega.{arith}
use borrow.Author.Tests.{eqb-true}
use lib.ListN.{length}
use Rattle.base.specs.Truths.{bit}
use Rattle.base.specs.Lists.{Ascends}
use Rattle.base.proofs.Laws.Ascending.{append_ascends, one_ascends, map_ascends}
use Rattle.base.proofs.Laws.Passing.{bit_le}
use Rattle.policy.specs.Model.{Range}
use Rattle.relations.specs.Ranges.{Within}
use Rattle.prefixes.specs.Prefixes.{Prefix, alone_if, raised, is_first, is_second, pairs, prefixes}
use Rattle.prefixes.proofs.Laws.Steps.{alone, itself_in}
use Rattle.prefixes.proofs.Laws.Lists.{of_alone, around, length_parts, by_pairs}
use Rattle.prefixes.proofs.Laws.Covers.{Right, prefixes_right}

-- A prefix's own address is in the range.
address_within : {width : ℕ} {r : Range} {ps : List Prefix} → Right width r ps → (p : Prefix) → Memᴰ p ps → Within r p.address
address_within {width} i p m = (i.covers p.address).0 (p, m, itself_in width p (i.each p m).address)

-- ---- ascending

abbrev Lower : Prefix → Prefix → Type 0
Lower p q = p.address < q.address

-- The address of a prefix that is there if a test holds.
address_of : (b : Bool) (width a : ℕ) (p : Prefix) → Memᴰ p (alone_if b width a) → (b ≡ true) × (p.address ≡ a)
address_of b width a p m = let h = of_alone b width a p m in (h.0, ap (λ (q : Prefix). q.address) h.1)

module _ (width : ℕ) (r : Range) (ps : List Prefix) (l : r.low < r.high) (i : Right width (pairs r) ps) where
  -- The address of a prefix of the pairs.
  between : (p : Prefix) → Memᴰ p (map (raised 1) ps) → (r.low ≤ p.address) × (p.address < r.high) × (p.address % 2 ≡ 0)
  between p m =
      let h = Memᴰ.of_map (raised 1) ps m in
      let e : h.0.address * 2 ≡ p.address = ap (λ (q : Prefix). q.address) h.2 in
      let w = address_within i h.0 h.1 in
      let a = w.low in
      let b = w.high in
      (omega arith, omega arith, omega arith)

  around_ascends : Ascends Lower ps → Ascends Lower (around width r ps)
  around_ascends a =
      append_ascends Lower (alone_if (is_second r.low) (suc width) r.low) _ (one_ascends Lower (is_second r.low) (alone (suc width) r.low))
      (append_ascends Lower (map (raised 1) ps) _ (map_ascends Lower Lower (raised 1) (λ p q h. omega arith) ps a)
      (one_ascends Lower (is_first r.high) (alone (suc width) r.high))
      (λ p q m n.
      let c = between p m in
      let d = address_of (is_first r.high) (suc width) r.high q n in
      omega (arith, c.1, d.1)))
      (λ p q m n.
      let c = address_of (is_second r.low) (suc width) r.low p m in
      let o = eqb-true (r.low % 2) 1 c.0 in
      elim (Memᴰ.append_cases (map (raised 1) ps) {t = alone_if (is_first r.high) (suc width) r.high} n) [
        | inl k ↦ let d = between q k in omega (arith, c.1, o, d.0, d.2)
        | inr k ↦ let d = address_of (is_first r.high) (suc width) r.high q k in omega (arith, c.1, d.1, l)
      ])

pub prefixes_ascend : (width : ℕ) (r : Range) → r.high < 2 ^ width → Ascends Lower (prefixes width r)
prefixes_ascend =
    by_pairs (λ width r ps. Ascends Lower ps)
    (λ width r l. tt)
    (λ width r e h. ((λ p m. absurd (Memᴰ.not-nil m)), tt))
    (λ width r l h c a. around_ascends width r (prefixes width (pairs r)) l (prefixes_right width (pairs r) c) a)

-- ---- few

-- The lowest stands alone only if it is the second of its pair, and the highest only if it is the first.
second_counts : (a : ℕ) → bit (is_second a) ≡ a % 2
second_counts a =
    elim (dec_lt (a % 2) 1) [ yes l ↦ let e : a % 2 ≡ 0 = omega arith in rw e refl | no l ↦ let e : a % 2 ≡ 1 = omega arith in rw e refl ]

first_counts : (a : ℕ) → bit (is_first a) ≡ 1 - a % 2
first_counts a =
    elim (dec_lt (a % 2) 1) [ yes l ↦ let e : a % 2 ≡ 0 = omega arith in rw e refl | no l ↦ let e : a % 2 ≡ 1 = omega arith in rw e refl ]

-- How many there are around others.
pub length_around : (width : ℕ) (r : Range) (ps : List Prefix) → length (around width r ps) ≡ r.low % 2 + (length ps + (1 - r.high % 2))
length_around width r ps = omega (arith, length_parts width r ps, second_counts r.low, first_counts r.high)

-- At most two for each bit but the first.
record Few (width : ℕ) (r : Range) (ps : List Prefix) : Type 0 where
  empty : r.high < r.low → length ps ≡ 0
  short : width ≤ 1 → length ps ≤ 1
  long : 2 ≤ width → length ps + 2 ≤ 2 * width

around_few : (width : ℕ) (r : Range) (ps : List Prefix) → r.low < r.high → r.high < 2 ^ suc width → Few width (pairs r) ps → Few (suc width) r (around width r ps)
around_few zero r ps l h f =
    let n = length_around 0 r ps in
    let m = f.short (omega arith) in
    record { empty = λ e. absurd (omega arith); short = λ e. omega arith; long = λ e. absurd (omega arith) }
around_few (suc zero) r ps l h f =
    let n = length_around 1 r ps in
    let m = f.short (omega arith) in
    record {
      empty = λ e. absurd (omega arith);
      short = λ e. absurd (omega arith);
      long = λ e. elim (dec_lt (pairs r).high (pairs r).low) [ yes c ↦ omega (arith, f.empty c) | no c ↦ omega arith ];
    }
around_few (suc (suc width)) r ps l h f =
    let n = length_around (suc (suc width)) r ps in
    let m = f.long (omega arith) in
    record { empty = λ e. absurd (omega arith); short = λ e. absurd (omega arith); long = λ e. omega arith }

few : (width : ℕ) (r : Range) → r.high < 2 ^ width → Few width r (prefixes width r)
few =
    by_pairs Few
    (λ width r l. record { empty = λ e. refl; short = λ e. omega arith; long = λ e. omega arith })
    (λ width r e h. record { empty = λ b. absurd (omega arith); short = λ b. omega arith; long = λ b. omega arith })
    (λ width r l h c f. around_few width r (prefixes width (pairs r)) l h f)

pub prefixes_few : (width : ℕ) (r : Range) → r.high < 2 ^ width → 2 ≤ width → length (prefixes width r) ≤ 2 * width - 2
prefixes_few width r h e = let m = (few width r h).long e in omega arith

-- A bound for any width, whatever stands alone.
pub prefixes_most : (width : ℕ) (r : Range) → r.high < 2 ^ width → length (prefixes width r) ≤ 2 * width + 1
prefixes_most =
    by_pairs (λ width r ps. length ps ≤ 2 * width + 1)
    (λ width r l. omega arith)
    (λ width r e h. omega arith)
    (λ width r l h c m. omega (arith, m, length_parts width r (prefixes width (pairs r)), bit_le (is_second r.low), bit_le (is_first r.high)))
