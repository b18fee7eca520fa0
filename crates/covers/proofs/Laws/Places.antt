-- The boxes of a list by their places: the set of all of them, and the place of a box that is listed.
-- Assumes nothing.
use Prim.Native.Nat.{ℕ, ◌-◌, ◌^◌, ◌<◌}
use mathlib.Core.Path.{◌≡◌, sym, ap, subst, ◌∙◌}
use mathlib.Core.List.Memᴰ
use mathlib.Core.List.{Memᴰ, map}
use native.Mathlib.Omega.{arith}
use lib.ListN.{length, get_or, take, length-take}
use lib.Pow.{ones_lt}
use lib.Seq.{get_or-take}
use Rattle.base.proofs.Laws.Bits.{small_marked, ones_marked}
use Rattle.base.proofs.Laws.Members.{member_at, at_member}
use Rattle.policy.specs.Model.{Selector}
use Rattle.covers.specs.Sets.{In, Numbered}
use Rattle.covers.specs.Views.{BoxNumbers}
use Rattle.covers.specs.declared.Boxes.{Boxes}

-- The set of the first n boxes has these places alone.
pub of_first : (n k : ℕ) → In (2 ^ n - 1) k → k < n
of_first n k h = small_marked n (2 ^ n - 1) k (ones_lt n) h

pub in_first : (n k : ℕ) → k < n → In (2 ^ n - 1) k
in_first n k h = ones_marked n k h

module _ (cover : Boxes) (ok : BoxNumbers cover) where
  pub first_numbered : Numbered cover.at (2 ^ cover.count - 1)
  first_numbered k h = ok.within k (of_first cover.count k h)

  length_taken : length (take cover.count cover.at) ≡ cover.count
  length_taken = simp length-take (omega (arith, ok.long, ok.few))

  -- What `box` says of the listed numbers: of each place, and no more.
  module _ (box : ℕ → Selector) where
    pub place_listed : (k : ℕ) → k < cover.count → Memᴰ (box (get_or cover.at k 0)) (map box (take cover.count cover.at))
    place_listed k h =
        Memᴰ.map box
        (subst (λ (i : ℕ). Memᴰ i (take cover.count cover.at)) (get_or-take cover.count cover.at k 0 h)
        (at_member 0 (take cover.count cover.at) k (rw length_taken h)))

    pub listed_place : (b : Selector) → Memᴰ b (map box (take cover.count cover.at))
        → (k : ℕ) × (k < cover.count) × (box (get_or cover.at k 0) ≡ b)
    listed_place b m =
        let i = Memᴰ.of_map box (take cover.count cover.at) m in
        let k = member_at 0 i.0 (take cover.count cover.at) i.1 in
        let l : k.0 < cover.count = rw length_taken at k.1 in
        (k.0, l, ap box (sym (get_or-take cover.count cover.at k.0 0 l) ∙ k.2) ∙ i.2)
