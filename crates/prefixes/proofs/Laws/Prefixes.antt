-- What document 02, [5], says of prefixes, for addresses of any width:
--   prefix_block: the addresses of a prefix are those from its own on, as many as the bits past its length can say
--   prefixes_of: the prefixes of a range are what is to be written
--   full_range, one_address: of all addresses, and of one
-- That there are few is `prefixes_few` (`Order`).
-- Assumes nothing.
use Prim.Native.Nat.{ℕ, zero, suc, ◌-◌, ◌/◌, ◌%◌, ◌^◌, ◌≤◌, ◌<◌}
use mathlib.Core.Path.{◌≡◌, refl, sym, ap, subst, ◌∙◌}
use mathlib.Core.Logic.{◌↔◌}
use mathlib.Core.List.{[], ◌∷◌}
use native.Mathlib.Decide.{dec_lt}
use native.Mathlib.Omega.{arith}
use native.Mathlib.Nat.{pow-suc}
use lib.Pow.{pow_pos}
use Rattle.policy.specs.Model.{Range}
use Rattle.relations.specs.Ranges.{Within}
use Rattle.prefixes.specs.Prefixes.{Prefix, IsPrefix, InPrefix, block_of, PrefixesOf, pairs, prefixes}
use Rattle.prefixes.proofs.Laws.Bits.{bit_last}
use Rattle.prefixes.proofs.Laws.Steps.{in_whole, itself_in, half, in_half, half_in, half_prefix}
use Rattle.prefixes.proofs.Laws.Lists.{around, prefixes_more, prefixes_one}
use Rattle.prefixes.proofs.Laws.Covers.{prefixes_right}
use Rattle.prefixes.proofs.Laws.Order.{prefixes_ascend}
use Rattle.prefixes.proofs.Laws.Fewest.{prefixes_fewest}

-- ---- the addresses of a prefix

-- A prefix of all bits has one address.
block_one : (width : ℕ) (p : Prefix) → IsPrefix width p → width ≤ p.length → (x : ℕ) → InPrefix width p x ↔ Within (block_of width p) x
block_one width p i h x =
    let z : width - p.length ≡ 0 = omega arith in
    let e = ap (λ (n : ℕ). 2 ^ n) z in (
      (λ j. let q = in_whole width p x i.address h j in record { low = omega arith; high = omega arith }),
      λ w. let q : p.address ≡ x = let a = w.low in let b = w.high in omega arith in subst (InPrefix width p) q (itself_in width p i.address),
    )

pub prefix_block : (width : ℕ) (p : Prefix) → IsPrefix width p → (x : ℕ) → InPrefix width p x ↔ Within (block_of width p) x
prefix_block zero p i x = block_one zero p i (omega arith) x
prefix_block (suc width) p i x = elim (dec_lt width p.length) [
  | yes h ↦ block_one (suc width) p i (omega arith) x
  | no h ↦
      let s : p.length ≤ width = omega arith in
      let even : p.address % 2 ≡ 0 = sym (bit_last width p.address) ∙ i.past width s (omega arith) in
      let m : suc width - p.length ≡ suc (width - p.length) = omega arith in
      let e = ap (λ (n : ℕ). 2 ^ n) m ∙ pow-suc 2 (width - p.length) in
      let some = pow_pos (width - p.length) in
      let half-block = prefix_block width (half p) (half_prefix width p s i) (x / 2) in (
        (λ j. let w = half-block.0 (in_half width p s x j) in let a = w.low in let b = w.high in record { low = omega arith; high = omega arith }),
        λ w. half_in width p s x (half-block.1 (let a = w.low in let b = w.high in record { low = omega arith; high = omega arith })),
      )
]

-- ---- the prefixes of a range

pub prefixes_of_lem : (width : ℕ) (r : Range) → r.high < 2 ^ width → PrefixesOf width r (prefixes width r)
prefixes_of_lem width r h =
    record {
      each = (prefixes_right width r h).each;
      covers = (prefixes_right width r h).covers;
      ascending = prefixes_ascend width r h;
      fewest = prefixes_fewest width r h;
    }

pub full_range : (width : ℕ) → prefixes width (record { low = 0; high = 2 ^ width - 1 }) ≡ record { address = 0; length = 0 } ∷ []
full_range zero = prefixes_one zero (record { low = 0; high = 0 }) refl
full_range (suc width) =
    let e = pow-suc 2 width in
    let some = pow_pos width in
    let r : Range = record { low = 0; high = 2 ^ suc width - 1 } in
    let inner : pairs r ≡ record { low = 0; high = 2 ^ width - 1 } =
    let h : (2 ^ suc width - 1 - 1) / 2 ≡ 2 ^ width - 1 = omega arith in λ i. record { low = 0; high = h i } in
    let odd : (2 ^ suc width - 1) % 2 ≡ 1 = omega arith in
    prefixes_more width r (omega arith)
    ∙ ap (λ (q : Range). around width r (prefixes width q)) inner
    ∙ ap (around width r) (full_range width)
    ∙ rw odd

pub one_address : (width a : ℕ) → prefixes width (record { low = a; high = a }) ≡ record { address = a; length = width } ∷ []
one_address width a = prefixes_one width (record { low = a; high = a }) refl
