-- The addresses that the code holds: there is a bit to take away where there is more than one; the pairs are held too, and the prefixes go around theirs;
-- at most one prefix is left where there are no more.
-- Assumes nothing.
use Prim.Native.Nat.{ℕ, zero, suc, ◌+◌, ◌^◌, ◌≤◌, ◌<◌}
use mathlib.Core.Path.{◌≡◌, sym, ap, ◌∙◌}
use mathlib.Core.Bool.{Bool}
use native.Mathlib.Decide.{dec_lt}
use native.Mathlib.Omega.{arith}
use native.Mathlib.Nat.{pow-suc}
use borrow.Author.Tests.{le-leb, lt-leb}
use lib.Dec.{leb}
use Rattle.policy.specs.Model.{Range}
use Rattle.policy.specs.Views.{value, range_of}
use Rattle.prefixes.specs.Prefixes.{alone_if, pairs, prefixes}
use Rattle.prefixes.specs.Bytes.{prefixes_in, Held}
use Rattle.prefixes.specs.declared.Addresses.{Addresses}
use Rattle.prefixes.proofs.Laws.Lists.{around, prefixes_more, prefixes_one, prefixes_none}

pub some_bit : (n bits : ℕ) → 0 < n → n < 2 ^ bits → 1 ≤ bits
some_bit n zero h l = absurd (omega arith)
some_bit n (suc bits) h l = omega arith

-- p has the pairs of a.
module _ (a p : Addresses) (h : Held a) (l : value a.range.low < value a.range.high) (e : range_of p.range ≡ pairs (range_of a.range)) (b : p.bits + 1 ≡ a.bits) where
  pub held_pairs : Held p
  held_pairs =
      let s : a.bits ≡ suc p.bits = omega arith in
      let f = ap (λ (n : ℕ). 2 ^ n) s ∙ pow-suc 2 p.bits in
      let q = ap (λ (r : Range). r.high) e in
      record { high = omega (arith, q, f, h.high, l); few = omega (arith, b, h.few) }

  pub prefixes_around : prefixes_in a ≡ around p.bits (range_of a.range) (prefixes_in p)
  prefixes_around =
      let s : a.bits ≡ suc p.bits = omega arith in
      ap (λ (n : ℕ). prefixes n (range_of a.range)) s
      ∙ prefixes_more p.bits (range_of a.range) l
      ∙ ap (λ (r : Range). around p.bits (range_of a.range) (prefixes p.bits r)) (sym e)

-- One address at most.
pub prefixes_left : (a : Addresses) → value a.range.high ≤ value a.range.low
    → prefixes_in a ≡ alone_if (leb (value a.range.low) (value a.range.high)) a.bits (value a.range.low)
prefixes_left a h =
    elim (dec_lt (value a.range.high) (value a.range.low)) [
      | yes l ↦ prefixes_none a.bits (range_of a.range) l ∙ ap (λ (b : Bool). alone_if b a.bits (value a.range.low)) (sym (lt-leb _ _ l))
      | no l ↦
          let e : value a.range.low ≡ value a.range.high = omega arith in
          prefixes_one a.bits (range_of a.range) e
          ∙ ap (λ (b : Bool). alone_if b a.bits (value a.range.low)) (sym (le-leb (value a.range.low) (value a.range.high) (omega arith)))
    ]
