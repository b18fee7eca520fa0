-- The tests of kinds of two filters agree with their meanings, in a well-formed table.
-- Assumes nothing.
use Prim.Native.Nat.{ℕ}
use Rattle.policy.specs.Model.{Table, filter_at}
use Rattle.policy.specs.Wellformed.{Ordered, Wellformed}
use Rattle.base.specs.Truths.{Decides}
use Rattle.base.proofs.Laws.Decides.{decides_as, decides_and, decides_not, decides_eqb, decides_ltb}
use Rattle.relations.proofs.Laws.Selectors.{contains_decides}
use Rattle.kinds.specs.Meanings.{IsFilter, FilterShadowing, FilterRedundancy}
use Rattle.kinds.specs.Tests.{filter_shadowing, filter_redundancy}

module _ (t : Table) (w : Wellformed t) where
  pub filter_ordered : (k : ℕ) → IsFilter t k → Ordered (filter_at t k).selector
  filter_ordered k h = (w.filter k h).selector.ordered

  module _ (k m : ℕ) (hm : IsFilter t m) where
    pub filter_shadowing_decides : Decides (filter_shadowing k m (filter_at t k) (filter_at t m)) (FilterShadowing t k m)
    unfolding filter_shadowing
    filter_shadowing_decides =
        decides_as
        (λ e. record { earlier = e.0; root = e.1.0; contains = e.1.1.1; actions = e.1.1.0 })
        (λ e. (e.earlier, (e.root, (e.actions, e.contains))))
        (decides_and _ _ (decides_ltb k m)
        (decides_and _ _ (decides_eqb _ _) (decides_and _ _ (decides_not _ (decides_eqb _ _)) (contains_decides _ _ (filter_ordered m hm)))))

    pub filter_redundancy_decides : Decides (filter_redundancy (filter_at t k) (filter_at t m)) (FilterRedundancy t k m)
    unfolding filter_redundancy
    filter_redundancy_decides =
        decides_as
        (λ e. record { drops = e.0; other_drops = e.1.0; roots = e.1.1.0; contains = e.1.1.1 })
        (λ e. (e.drops, (e.other_drops, (e.roots, e.contains))))
        (decides_and _ _ (decides_eqb _ _)
        (decides_and _ _ (decides_eqb _ _) (decides_and _ _ (decides_not _ (decides_eqb _ _)) (contains_decides _ _ (filter_ordered m hm)))))
