-- The test of ⪰ on coefficients is true exactly when no coefficient is smaller, for any number of them.
-- Assumes nothing.
use mathlib.Core.Path.{refl, ap}
use mathlib.Core.List.{[], ◌∷◌}
use Prim.Native.Nat.{ℕ, zero, suc, ◌≤◌, ◌<◌}
use native.Mathlib.Omega.{arith}
use lib.Dec.{leb}
use lib.ListN.{get_or}
use Rattle.policy.specs.Model.{Coefficients}
use Rattle.base.specs.Truths.{Decides}
use Rattle.relations.specs.Coefficients.{AtLeast, at_least}
use Rattle.base.proofs.Laws.Decides.{decides_true, decides_false, decides_as, decides_leb, decides_and}

pub at_least_decides : (c1 c2 : Coefficients) → Decides (at_least c1 c2) (AtLeast c1 c2)
unfolding at_least
at_least_decides [] [] = decides_true (record { count = refl; none_smaller = λ k h. omega arith })
at_least_decides [] (y ∷ c2) = decides_false (λ h. let n = h.count in omega arith)
at_least_decides (x ∷ c1) [] = decides_false (λ h. let n = h.count in omega arith)
at_least_decides (x ∷ c1) (y ∷ c2) =
    decides_as more less (decides_and (leb y x) (at_least c1 c2) (decides_leb y x) (at_least_decides c1 c2))
  where
    none : (y ≤ x) × AtLeast c1 c2 → (k : ℕ) → get_or (x ∷ c1) k 0 < get_or (y ∷ c2) k 0 → ⊥
    none h zero l = let m = h.0 in omega arith
    none h (suc k) l = h.1.none_smaller k l

    more : (y ≤ x) × AtLeast c1 c2 → AtLeast (x ∷ c1) (y ∷ c2)
    more h = record { count = ap suc h.1.count; none_smaller = none h }

    less : AtLeast (x ∷ c1) (y ∷ c2) → (y ≤ x) × AtLeast c1 c2
    less h =
        let n : x < y → ⊥ = h.none_smaller 0 in
        let e = h.count in
        (omega arith, record { count = omega arith; none_smaller = λ k. h.none_smaller (suc k) })
