-- The tests of kinds of two rows agree with their meanings, in a well-formed table.
-- Assumes nothing.
use Prim.Native.Nat.{ℕ}
use mathlib.Core.Path.{◌≡◌, sym}
use lib.Dec.{eqb}
use Rattle.policy.specs.Model.{Table, row_at, parent_of}
use Rattle.policy.specs.Wellformed.{Wellformed, Ordered}
use Rattle.base.specs.Truths.{Decides}
use Rattle.base.proofs.Laws.Decides.{decides_as, decides_and, decides_or, decides_not, decides_eqb, decides_ltb}
use Rattle.base.proofs.Laws.Members.{among_decides, same_decides}
use Rattle.relations.proofs.Laws.Entities.{at_or_above_decides}
use Rattle.relations.proofs.Laws.Technologies.{dominates_decides}
use Rattle.relations.proofs.Laws.Coefficients.{at_least_decides}
use Rattle.relations.proofs.Laws.Groups.{same_group_decides}
use Rattle.relations.proofs.Laws.Selectors.{contains_decides, overlaps_decides, same_selector_decides}
use Rattle.kinds.specs.Meanings.{IsRow, Meets, Encloses, Stronger, Earlier, EarlierInGroup, Shadowing, Redundancy, SameTraffic, Exception, Correlation, Inclusion, Affinity, Contradiction, Crossing, Skewed, Monitorable}
use Rattle.kinds.specs.Tests.{pair_at, encloses, same_traffic, shadowing, redundancy, exception, correlation, inclusion, inclusion_back, affinity, contradiction, skewed, monitorable}

module _ (t : Table) (w : Wellformed t) where
  pub selector_ordered : (i : ℕ) → IsRow t i → Ordered (row_at t i).selector
  selector_ordered i h = (w.row i h).selector.ordered

  encloses_decides : (i j : ℕ) → IsRow t j → Decides (encloses (parent_of t) (row_at t i) (row_at t j)) (Encloses t i j)
  unfolding encloses
  encloses_decides i j h =
      decides_as (λ e. record { source = e.1.0; destination = e.1.1; selector = e.0 }) (λ e. (e.selector, (e.source, e.destination)))
      (decides_and _ _ (contains_decides _ _ (selector_ordered j h)) (decides_and _ _ (at_or_above_decides (parent_of t) _ _) (at_or_above_decides (parent_of t) _ _)))

  stronger_decides : (i j : ℕ) → Decides (pair_at t i j).stronger (Stronger t i j)
  stronger_decides i j = at_least_decides _ _

  earlier_decides : (i j : ℕ) → Decides (pair_at t i j).earlier (Earlier t i j)
  earlier_decides i j =
      decides_as (λ e. record { holder = e.0; earlier = e.1 }) (λ e. (e.holder, e.earlier))
      (decides_and _ _ (decides_eqb _ _) (decides_ltb i j))

  group_decides : (i j : ℕ) → Decides (pair_at t i j).group (EarlierInGroup t i j)
  group_decides i j =
      decides_as (λ e. record { group = e.0; earlier = e.1 }) (λ e. (e.group, e.earlier))
      (decides_and _ _ (same_group_decides _ _) (decides_ltb i j))

  same_traffic_decides : (i j : ℕ) → Decides (same_traffic (row_at t i) (row_at t j)) (SameTraffic t i j)
  unfolding same_traffic
  same_traffic_decides i j =
      decides_as (λ e. record { source = e.0; destination = e.1.0; selector = e.1.1 }) (λ e. (e.source, (e.destination, e.selector)))
      (decides_and _ _ (decides_eqb _ _) (decides_and _ _ (decides_eqb _ _) (same_selector_decides _ _)))

  null_decides : (i : ℕ) → Decides (eqb (row_at t i).technology 0) ((row_at t i).technology ≡ 0)
  null_decides i = decides_eqb _ _

  module _ (i j : ℕ) (hi : IsRow t i) (hj : IsRow t j) where
    meets_decides : Decides (pair_at t i j).meets (Meets t i j)
    meets_decides =
        decides_as (λ e. record { source = e.0; destination = e.1.0; overlap = e.1.1 }) (λ e. (e.source, (e.destination, e.overlap)))
        (decides_and _ _ (decides_eqb _ _)
        (decides_and _ _ (decides_eqb _ _) (overlaps_decides _ _ (selector_ordered i hi) (selector_ordered j hj))))

    pub shadowing_decides : Decides (shadowing (pair_at t i j)) (Shadowing t i j)
    shadowing_decides =
        decides_as (λ e. record { pair = e.0; encloses = e.1.0; weaker = e.1.1 }) (λ e. (e.pair, (e.encloses, e.weaker)))
        (decides_and _ _ (group_decides i j) (decides_and _ _ (encloses_decides i j hj) (decides_not _ (stronger_decides i j))))

    pub redundancy_decides : Decides (redundancy (pair_at t i j)) (Redundancy t i j)
    redundancy_decides =
        decides_as (λ e. record { pair = e.0; encloses = e.1.0; stronger = e.1.1 }) (λ e. (e.pair, (e.encloses, e.stronger)))
        (decides_and _ _ (group_decides i j) (decides_and _ _ (encloses_decides i j hj) (stronger_decides i j)))

    pub exception_decides : Decides (exception (pair_at t i j)) (Exception t i j)
    exception_decides =
        decides_as (λ e. record { pair = e.0; enclosed = e.1.0; different = e.1.1.0; weaker = e.1.1.1 })
        (λ e. (e.pair, (e.enclosed, (e.different, e.weaker))))
        (decides_and _ _ (group_decides i j)
        (decides_and _ _ (encloses_decides j i hi)
        (decides_and _ _ (decides_not _ (same_traffic_decides i j)) (decides_not _ (stronger_decides i j)))))

    pub correlation_decides : Decides (correlation (pair_at t i j)) (Correlation t i j)
    correlation_decides =
        decides_as (λ e. record { pair = e.0; meets = e.1.0; no_shadowing = e.1.1.0; no_redundancy = e.1.1.1.0; no_exception = e.1.1.1.1 })
        (λ e. (e.pair, (e.meets, (e.no_shadowing, (e.no_redundancy, e.no_exception)))))
        (decides_and _ _ (group_decides i j)
        (decides_and _ _ meets_decides
        (decides_and _ _ (decides_not _ shadowing_decides)
        (decides_and _ _ (decides_not _ redundancy_decides) (decides_not _ exception_decides)))))

    pub inclusion_decides : Decides (inclusion (pair_at t i j)) (Inclusion t i j)
    inclusion_decides =
        decides_as (λ e. record { holder = e.0; dominates = e.1.0; encloses = e.1.1.0; stronger = e.1.1.1.0; gateways = e.1.1.1.1 })
        (λ e. (e.holder, (e.dominates, (e.encloses, (e.stronger, e.gateways)))))
        (decides_and _ _ (decides_eqb _ _)
        (decides_and _ _ (dominates_decides _ _)
        (decides_and _ _ (encloses_decides i j hj) (decides_and _ _ (stronger_decides i j) (same_decides _ _)))))

    inclusion_back_decides : Decides (inclusion_back (pair_at t i j)) (Inclusion t j i)
    inclusion_back_decides =
        decides_as (λ e. record { holder = sym e.0; dominates = e.1.0; encloses = e.1.1.0; stronger = e.1.1.1.0; gateways = sym e.1.1.1.1 })
        (λ e. (sym e.holder, (e.dominates, (e.encloses, (e.stronger, sym e.gateways)))))
        (decides_and _ _ (decides_eqb _ _)
        (decides_and _ _ (dominates_decides _ _)
        (decides_and _ _ (encloses_decides j i hi) (decides_and _ _ (stronger_decides j i) (same_decides _ _)))))

    pub affinity_decides : Decides (affinity (pair_at t i j)) (Affinity t i j)
    affinity_decides =
        decides_as
        (λ e. record { pair = e.0; different = e.1.0; not_null = e.1.1.0; other_not_null = e.1.1.1.0; meets = e.1.1.1.1.0; no_inclusion = e.1.1.1.1.1.0; no_inclusion_back = e.1.1.1.1.1.1 })
        (λ e. (e.pair, (e.different, (e.not_null, (e.other_not_null, (e.meets, (e.no_inclusion, e.no_inclusion_back)))))))
        (decides_and _ _ (earlier_decides i j)
        (decides_and _ _ (decides_not _ (decides_eqb _ _))
        (decides_and _ _ (decides_not _ (null_decides i))
        (decides_and _ _ (decides_not _ (null_decides j))
        (decides_and _ _ meets_decides
        (decides_and _ _ (decides_not _ inclusion_decides) (decides_not _ inclusion_back_decides)))))))

    pub contradiction_decides : Decides (contradiction (pair_at t i j)) (Contradiction t i j)
    contradiction_decides =
        decides_as (λ e. record { pair = e.0; one_null = e.1.0; meets = e.1.1 }) (λ e. (e.pair, (e.one_null, e.meets)))
        (decides_and _ _ (earlier_decides i j)
        (decides_and _ _
        (decides_or _ _ (decides_and _ _ (null_decides i) (decides_not _ (null_decides j)))
        (decides_and _ _ (decides_not _ (null_decides i)) (null_decides j)))
        meets_decides))

    crossing_decides : Decides (pair_at t i j).crossing (Crossing t i j)
    crossing_decides =
        decides_as (λ e. record { different = e.0; overlap = e.1 }) (λ e. (e.different, e.overlap))
        (decides_and _ _ (decides_not _ (decides_eqb i j)) (overlaps_decides _ _ (selector_ordered i hi) (selector_ordered j hj)))

    pub skewed_decides : Decides (skewed (pair_at t i j)) (Skewed t i j)
    skewed_decides =
        decides_as (λ e. record { pair = e.0; not_null = e.1.0; other_not_null = e.1.1.0; source = e.1.1.1.0; destination = e.1.1.1.1 })
        (λ e. (e.pair, (e.not_null, (e.other_not_null, (e.source, e.destination)))))
        (decides_and _ _ crossing_decides
        (decides_and _ _ (decides_not _ (null_decides i))
        (decides_and _ _ (decides_not _ (null_decides j)) (decides_and _ _ (among_decides _ _) (among_decides _ _)))))

    pub monitorable_decides : Decides (monitorable (pair_at t i j)) (Monitorable t i j)
    monitorable_decides =
        decides_as (λ e. record { pair = e.0; through = e.1.0; ends = e.1.1.0; confidential = e.1.1.1.0; other_confidential = e.1.1.1.1 })
        (λ e. (e.pair, (e.through, (e.ends, (e.confidential, e.other_confidential)))))
        (decides_and _ _ crossing_decides
        (decides_and _ _ (decides_eqb _ _)
        (decides_and _ _ (decides_not _ (decides_eqb _ _)) (decides_and _ _ (decides_ltb _ _) (decides_ltb _ _)))))
