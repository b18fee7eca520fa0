-- The tests of kinds of one row agree with their meanings, in a well-formed table: all but the alternative path.
-- Assumes nothing.
use Prim.Native.Nat.{ℕ}
use mathlib.Core.Path.{◌≡◌, refl}
use mathlib.Core.Bool.{not, ◌&&◌}
use mathlib.Core.Logic.{inl, inr}
use mathlib.Core.List.{List, [], ◌∷◌, Memᴰ}
use native.Mathlib.Omega.{arith}
use lib.Dec.{eqb}
use lib.ListN.{length}
use Rattle.policy.specs.Model.{Table, dropping, passing, entity_at, filter_at, row_at}
use Rattle.policy.specs.Wellformed.{Wellformed}
use Rattle.base.specs.Truths.{Decides}
use Rattle.relations.specs.Coefficients.{AtLeast, at_least}
use Rattle.relations.specs.Selectors.{Contains, Overlap}
use Rattle.base.proofs.Laws.Decides.{decides_true, decides_false, decides_as, decides_and, decides_or, decides_not, decides_eqb, decided}
use Rattle.base.proofs.Laws.Members.{among_decides, same_decides, Some, some_decides}
use Rattle.relations.proofs.Laws.Technologies.{has_layer}
use Rattle.relations.proofs.Laws.Coefficients.{at_least_decides}
use Rattle.relations.proofs.Laws.Selectors.{contains_decides, overlaps_decides, same_selector_decides}
use Rattle.kinds.specs.Meanings.{IsRow, IsFilter, source_root, destination_root, InternalLoop, OutOfPlace, Lacks, NonEnforceable, Inadequate, Rides, Superfluous, Excepts, Filtered, LayerTwo, Answers, Asymmetric, Cyclic}
use Rattle.kinds.specs.Views.{placed_at}
use Rattle.kinds.specs.Tests.{empty, internal_loop, out_of_place, lacks, non_enforceable, inadequate, rides, superfluous, filters, excepts, excepted, filtered_by, filtered, layer_two, answers, asymmetric, cyclic}
use Rattle.kinds.proofs.Laws.Lists.{in_order_decides, twice_decides}
use Rattle.kinds.proofs.Laws.Pairs.{selector_ordered}
use Rattle.kinds.proofs.Laws.Filters.{filter_ordered}

empty_decides : (l : List ℕ) → Decides (empty l) (l ≡ [])
empty_decides [] = decides_true refl
empty_decides (x ∷ l) = decides_false (λ e. let z : ◌≡◌ {A = ℕ} 0 1 = cc in omega arith)

module _ (t : Table) (w : Wellformed t) where
  pub internal_loop_decides : (i : ℕ) → Decides (internal_loop (placed_at t i)) (InternalLoop t i)
  internal_loop_decides i = decides_eqb _ _

  pub out_of_place_decides : (i : ℕ) → Decides (out_of_place (placed_at t i)) (OutOfPlace t i)
  out_of_place_decides i = decides_not _ (decides_eqb _ _)

  lacks_decides : (root u : ℕ) → Decides (lacks (entity_at t root).mask u) (Lacks t root u)
  unfolding lacks
  lacks_decides root u = decides_eqb _ _

  pub non_enforceable_decides : (i : ℕ)
      → Decides (non_enforceable (entity_at t (source_root t i)).mask (entity_at t (destination_root t i)).mask t.caps (row_at t i)) (NonEnforceable t i)
  unfolding non_enforceable
  non_enforceable_decides i =
      decides_as (λ e. record { not_null = e.0; why = e.1 }) (λ e. (e.not_null, e.why))
      (decides_and _ _ (decides_not _ (decides_eqb _ _))
      (decides_or _ _ (lacks_decides _ _) (decides_or _ _ (lacks_decides _ _) (decides_not _ (at_least_decides _ _)))))

  pub inadequate_decides : (i : ℕ) → Decides (inadequate t.floor (row_at t i)) (Inadequate t i)
  inadequate_decides i = decides_not _ (at_least_decides _ _)

  rides_decides : (j i : ℕ) → IsRow t j → Decides (not (eqb j i) && rides (placed_at t j) (placed_at t i)) (Rides t j i)
  unfolding rides
  rides_decides j i h =
      decides_as (λ e. record { row = h; other = e.0; gateways = e.1.0; selector = e.1.1 }) (λ e. (e.other, (e.gateways, e.selector)))
      (decides_and _ _ (decides_not _ (decides_eqb j i))
      (decides_and _ _ (in_order_decides _ _ _) (contains_decides _ _ (selector_ordered t w j h))))

  pub superfluous_decides : (i : ℕ) → Decides (superfluous (placed_at t) (length t.rows) i) (Superfluous t i)
  unfolding superfluous
  superfluous_decides i =
      decides_as
      (λ e. record { rider = e.0.0; rides = e.0.2; at_least = every e.1 })
      (λ e. ((e.rider, e.rides.row, e.rides), λ s. s.2.1 (e.at_least s.0 s.2.0)))
      (decides_and _ _
      (some_decides (length t.rows) (λ j. not (eqb j i) && rides (placed_at t j) (placed_at t i)) (λ j h. rides_decides j i h))
      (decides_not _
      (some_decides (length t.rows) (λ j. (not (eqb j i) && rides (placed_at t j) (placed_at t i)) && not (at_least (row_at t j).coefficients (row_at t i).coefficients))
      (λ j h. decides_and _ _ (rides_decides j i h) (decides_not _ (at_least_decides _ _))))))
    where
      Weaker : ℕ → Type 0
      Weaker j = Rides t j i × (AtLeast (row_at t j).coefficients (row_at t i).coefficients → ⊥)

      every : (Some (length t.rows) Weaker → ⊥) → (j : ℕ) → Rides t j i → AtLeast (row_at t j).coefficients (row_at t i).coefficients
      every n j r = elim (decided (at_least (row_at t j).coefficients (row_at t i).coefficients) (at_least_decides _ _)) [
        | inl h ↦ h
        | inr s ↦ absurd (n (j, r.row, (r, s)))
      ]

  -- Some filter before filter m excepts packets of row i.
  excepted_decides : (i m : ℕ) → IsRow t i → IsFilter t m
      → Decides (excepted (filter_at t) m (filter_at t m).root (row_at t i)) ((k : ℕ) × Excepts t k m i)
  unfolding excepted excepts
  excepted_decides i m h there =
      decides_as
      (λ e. (e.0, record { earlier = e.1; passes = e.2.0; root = e.2.1.0; overlap = e.2.1.1 }))
      (λ e. (e.0, e.1.earlier, (e.1.passes, (e.1.root, e.1.overlap))))
      (some_decides m (λ k. excepts (row_at t i) (filter_at t m).root (filter_at t k))
      {P = λ k. ((filter_at t k).action ≡ passing) × (((filter_at t k).root ≡ (filter_at t m).root) × Overlap (filter_at t k).selector (row_at t i).selector)}
      (λ k b. decides_and _ _ (decides_eqb _ _)
      (decides_and _ _ (decides_eqb _ _) (overlaps_decides _ _ (filter_ordered t w k (omega arith)) (selector_ordered t w i h)))))

  pub filtered_decides : (i : ℕ) → IsRow t i → Decides (filtered (filter_at t) (length t.filters) (row_at t i)) (Filtered t i)
  unfolding filtered filtered_by filters
  filtered_decides i h =
      decides_as
      (λ e. record { filter = e.0; there = e.1; drops = e.2.0.0; gateway = e.2.0.1.0; contains = e.2.0.1.1; not_excepted = λ k x. e.2.1 (k, x) })
      (λ e. (e.filter, e.there, ((e.drops, (e.gateway, e.contains)), λ x. e.not_excepted x.0 x.1)))
      (some_decides (length t.filters) (λ k. filtered_by (filter_at t) k (row_at t i))
      {P = λ k. (((filter_at t k).action ≡ dropping) × (Memᴰ (filter_at t k).root (row_at t i).gateways × Contains (filter_at t k).selector (row_at t i).selector)) × (((e : ℕ) × Excepts t e k i) → ⊥)}
      (λ k b. decides_and _ _
      (decides_and _ _ (decides_eqb _ _) (decides_and _ _ (among_decides _ _) (contains_decides _ _ (selector_ordered t w i h))))
      (decides_not _ (excepted_decides i k h b))))

  pub layer_two_decides : (i : ℕ) → Decides (layer_two (row_at t i)) (LayerTwo t i)
  unfolding layer_two
  layer_two_decides i =
      let two = has_layer (row_at t i).technology 2 in
      decides_as (λ e. record { layer = two.1 (e.0, λ z. omega arith); gateways = e.1 }) (λ e. ((two.0 e.layer).0, e.gateways))
      (decides_and _ _ (decides_eqb _ 2) (decides_not _ (empty_decides (row_at t i).gateways)))

  answers_decides : (j i : ℕ) → IsRow t j → Decides (answers (row_at t j) (row_at t i)) (Answers t j i)
  unfolding answers
  answers_decides j i h =
      decides_as
      (λ e. record { row = h; source = e.0; destination = e.1.0; coefficients = e.1.1.0; selector = e.1.1.1 })
      (λ e. (e.source, (e.destination, (e.coefficients, e.selector))))
      (decides_and _ _ (decides_eqb _ _)
      (decides_and _ _ (decides_eqb _ _) (decides_and _ _ (same_decides _ _) (same_selector_decides _ _))))

  pub asymmetric_decides : (i : ℕ) → Decides (asymmetric (row_at t) (length t.rows) i) (Asymmetric t i)
  unfolding asymmetric
  asymmetric_decides i =
      decides_as (λ e j a. e (j, a.row, a)) (λ e s. e s.0 s.2)
      (decides_not _ (some_decides (length t.rows) (λ j. answers (row_at t j) (row_at t i)) (λ j h. answers_decides j i h)))

  pub cyclic_decides : (i : ℕ) → Decides (cyclic (placed_at t i)) (Cyclic t i)
  unfolding cyclic
  cyclic_decides i = twice_decides _
