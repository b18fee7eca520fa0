-- The anomalies of a row with the second number FF, with another row, and those of filters: the tests of one row, of two, and of two filters, at the
-- kinds' numbers.
-- Assumes nothing.
use Prim.Native.Nat.{ℕ}
use mathlib.Core.Path.{◌≡◌, refl, sym, ◌∙◌}
use mathlib.Core.Bool.{false, and-false}
use native.Mathlib.Omega.{arith}
use lib.ListN.{length, get_or, get_or-map}
use borrow.Author.Tests.{ne_eqb, lt-ltb, le-ltb}
use Rattle.policy.specs.Model.{Filter, Table, filter_at}
use Rattle.policy.specs.Wellformed.{Wellformed}
use Rattle.kinds.specs.Meanings.{IsRow, IsFilter}
use Rattle.kinds.specs.Tests.{pair_at}
use Rattle.kinds.specs.Seen.{Seen, seen_of}
use Rattle.kinds.specs.Kinds.{Kind, no_kind, alone, paired, of_filters, numbered, kind_at, no_second, says, anomaly, of_one, of_two, of_two_filters, row_tests, pair_tests, filter_tests}
use Rattle.kinds.specs.declared.pair.Pair.{Pair}
use Rattle.kinds.proofs.Laws.Blocks.{OfRows, OfFilters}

module _ (t : Table) (w : Wellformed t) (i kind : ℕ) where
  -- Of row i alone. What is no row's number is no filter's.
  pub anomaly_row : IsRow t i → anomaly t i kind no_second ≡ get_or (row_tests (seen_of t) i) kind false
  unfolding anomaly
  anomaly_row h = one (kind_at kind) ∙ sym (get_or-map (of_one (seen_of t) i) numbered kind no_kind)
    where
      one : (k : Kind) → says t k i no_second ≡ of_one (seen_of t) i k
      one no_kind = refl
      one (alone P b) = rw (lt-ltb i (length t.rows) h)
      one (paired P b) = let n = w.counts.few_rows in rw (le-ltb no_second (length t.rows) (omega arith)) (simp and-false)
      one (of_filters P b) = let n = w.counts.few_filters in rw (le-ltb no_second (length t.filters) (omega arith)) (simp and-false)

  pub anomaly_pair : (j : ℕ) → IsRow t i → IsRow t j → OfRows (kind_at kind) → anomaly t i kind j ≡ get_or (pair_tests (pair_at t i j)) kind false
  unfolding anomaly
  anomaly_pair j h hj o = two (kind_at kind) o ∙ sym (get_or-map (of_two (pair_at t i j)) numbered kind no_kind)
    where
      two : (k : Kind) → OfRows k → says t k i j ≡ of_two (pair_at t i j) k
      two no_kind o = refl
      two (alone P b) o = let n = w.counts.few_rows in rw (ne_eqb j no_second (λ e. absurd (omega arith))) (simp and-false)
      two (paired P b) o = rw (lt-ltb i (length t.rows) h, lt-ltb j (length t.rows) hj)
      two (of_filters P b) o = absurd o

  -- Of filters i and j, and of a filter alone, which has no kinds.
  pub anomaly_filters : (j : ℕ) → IsFilter t i → IsFilter t j → OfFilters (kind_at kind)
      → anomaly t i kind j ≡ get_or (filter_tests i j (filter_at t i) (filter_at t j)) kind false
  unfolding anomaly
  anomaly_filters j h hj o = two (kind_at kind) o ∙ sym (get_or-map (of_two_filters i j (filter_at t i) (filter_at t j)) numbered kind no_kind)
    where
      two : (k : Kind) → OfFilters k → says t k i j ≡ of_two_filters i j (filter_at t i) (filter_at t j) k
      two no_kind o = refl
      two (alone P b) o = absurd o
      two (paired P b) o = absurd o
      two (of_filters P b) o = rw (lt-ltb i (length t.filters) h, lt-ltb j (length t.filters) hj)

  pub anomaly_filter : OfFilters (kind_at kind) → anomaly t i kind no_second ≡ false
  unfolding anomaly
  anomaly_filter o = none (kind_at kind) o
    where
      none : (k : Kind) → OfFilters k → says t k i no_second ≡ false
      none no_kind o = refl
      none (alone P b) o = absurd o
      none (paired P b) o = absurd o
      none (of_filters P b) o = let n = w.counts.few_filters in rw (le-ltb no_second (length t.filters) (omega arith)) (simp and-false)

-- The tests of rows fail at kinds of filters, those of filters at kinds of rows.
pub no_row : (s : Seen) (i kind : ℕ) → OfFilters (kind_at kind) → get_or (row_tests s i) kind false ≡ false
no_row s i kind o = get_or-map (of_one s i) numbered kind no_kind ∙ none (kind_at kind) o
  where
    none : (k : Kind) → OfFilters k → of_one s i k ≡ false
    none no_kind o = refl
    none (alone P b) o = absurd o
    none (paired P b) o = refl
    none (of_filters P b) o = refl

pub no_pair : (p : Pair) (kind : ℕ) → OfFilters (kind_at kind) → get_or (pair_tests p) kind false ≡ false
no_pair p kind o = get_or-map (of_two p) numbered kind no_kind ∙ none (kind_at kind) o
  where
    none : (k : Kind) → OfFilters k → of_two p k ≡ false
    none no_kind o = refl
    none (alone P b) o = refl
    none (paired P b) o = absurd o
    none (of_filters P b) o = refl

pub no_filters : (k m : ℕ) (f g : Filter) (kind : ℕ) → OfRows (kind_at kind) → get_or (filter_tests k m f g) kind false ≡ false
no_filters k m f g kind o = get_or-map (of_two_filters k m f g) numbered kind no_kind ∙ none (kind_at kind) o
  where
    none : (x : Kind) → OfRows x → of_two_filters k m f g x ≡ false
    none no_kind o = refl
    none (alone P b) o = refl
    none (paired P b) o = refl
    none (of_filters P b) o = absurd o
