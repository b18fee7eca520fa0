-- The test of an anomaly agrees with its meaning, in a well-formed table, for every first number, kind and second number.
-- Assumes nothing.
use Prim.Native.Nat.{ℕ}
use mathlib.Core.Path.{◌≡◌, refl}
use lib.ListN.{length}
use Rattle.policy.specs.Model.{Table, filter_at}
use Rattle.policy.specs.Wellformed.{Wellformed}
use Rattle.base.specs.Truths.{Decides}
use Rattle.base.proofs.Laws.Decides.{decides_false, decides_eqb, decides_ltb, decides_given}
use Rattle.verdicts.proofs.Laws.Verdicts.{dead_decides}
use Rattle.kinds.specs.Meanings.{IsRow, IsFilter}
use Rattle.kinds.specs.Tests.{pair_at}
use Rattle.kinds.specs.Seen.{seen_of}
use Rattle.kinds.specs.Kinds.{Kind, no_kind, alone, paired, of_filters, row_kinds, filter_kinds, row_kind_count, filter_kind_count, numbered, kind_at, no_second, Says, says, Anomaly, anomaly}
use Rattle.base.proofs.Laws.Each.{All, all_at, ◌▹◌}
use Rattle.kinds.proofs.Laws.Rows as rows
use Rattle.kinds.proofs.Laws.Pairs as pairs
use Rattle.kinds.proofs.Laws.Paths as paths
use Rattle.kinds.proofs.Laws.Filters as filters

-- There are as many as are counted.
pub kinds_counted : (length row_kinds ≡ row_kind_count) × (length filter_kinds ≡ filter_kind_count)
kinds_counted = (refl, refl)

-- A kind's test agrees with what it says.
abbrev Agrees : Table → Kind → Type 0
Agrees t no_kind = Unit {0}
Agrees t (alone P b) = (i : ℕ) → IsRow t i → Decides (b (seen_of t) i) (P t i)
Agrees t (paired P b) = (i j : ℕ) → IsRow t i → IsRow t j → Decides (b (pair_at t i j)) (P t i j)
Agrees t (of_filters P b) = (k m : ℕ) → IsFilter t k → IsFilter t m → Decides (b k m (filter_at t k) (filter_at t m)) (P t k m)

module _ (t : Table) (w : Wellformed t) where
  each : All (Agrees t) numbered
  each =
      tt
      ▹ (λ i h. rows.internal_loop_decides t w i)
      ▹ (λ i h. rows.out_of_place_decides t w i)
      ▹ (λ i h. rows.non_enforceable_decides t w i)
      ▹ (λ i h. rows.inadequate_decides t w i)
      ▹ pairs.shadowing_decides t w
      ▹ pairs.redundancy_decides t w
      ▹ pairs.exception_decides t w
      ▹ pairs.correlation_decides t w
      ▹ pairs.inclusion_decides t w
      ▹ pairs.affinity_decides t w
      ▹ pairs.contradiction_decides t w
      ▹ (λ i h. rows.superfluous_decides t w i)
      ▹ pairs.skewed_decides t w
      ▹ rows.filtered_decides t w
      ▹ (λ i h. rows.layer_two_decides t w i)
      ▹ (λ i h. rows.asymmetric_decides t w i)
      ▹ (λ i h. rows.cyclic_decides t w i)
      ▹ pairs.monitorable_decides t w
      ▹ paths.alternative_path_decides t w
      ▹ dead_decides t w
      ▹ (λ k m h. filters.filter_shadowing_decides t w k m)
      ▹ (λ k m h. filters.filter_redundancy_decides t w k m)
      ▹ tt

  agrees : (k : Kind) → Agrees t k → (i j : ℕ) → Decides (says t k i j) (Says t k i j)
  agrees no_kind a i j = decides_false (λ e. e)
  agrees (alone P b) a i j = decides_given _ _ (decides_ltb i (length t.rows)) (λ h. decides_given _ _ (decides_eqb j no_second) (λ e. a i h))
  agrees (paired P b) a i j = decides_given _ _ (decides_ltb i (length t.rows)) (λ h. decides_given _ _ (decides_ltb j (length t.rows)) (a i j h))
  agrees (of_filters P b) a i j = decides_given _ _ (decides_ltb i (length t.filters)) (λ h. decides_given _ _ (decides_ltb j (length t.filters)) (a i j h))

  pub anomaly_decides : (i j kind : ℕ) → Decides (anomaly t i kind j) (Anomaly t i kind j)
  unfolding anomaly
  anomaly_decides i j kind = agrees (kind_at kind) (all_at (Agrees t) no_kind numbered tt each kind) i j
