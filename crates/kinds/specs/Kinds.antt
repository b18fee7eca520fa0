-- Document 01, "The twenty kinds", and document 02, [7], which makes them twenty-two: the list of them, each with what it says and its test, and the
-- anomalies of a table.
-- Assumes nothing.
use Rattle.std.specs.Prelude.{ℕ, ◌+◌, ◌≡◌, Bool, false, ◌&&◌, List, [], ◌∷◌, ◌++◌, map, eqb, ltb, length, get_or}
use Rattle.policy.specs.Model.{Filter, Table, filter_at}
use Rattle.relations.specs.Groups.{Dead}
use Rattle.kinds.specs.Meanings.{IsRow, IsFilter, InternalLoop, OutOfPlace, NonEnforceable, Inadequate, Shadowing, Redundancy, Exception, Correlation, Inclusion, Affinity, Contradiction, Superfluous, Skewed, Filtered, LayerTwo, Asymmetric, Cyclic, Monitorable, AlternativePath, FilterShadowing, FilterRedundancy}
use Rattle.kinds.specs.Tests.{internal_loop, out_of_place, non_enforceable, inadequate, shadowing, redundancy, exception, correlation, inclusion, affinity, contradiction, superfluous, skewed, filtered, layer_two, asymmetric, cyclic, monitorable, alternative_path, filter_shadowing, filter_redundancy, pair_at}
use Rattle.kinds.specs.Seen.{Seen, seen_of}
use Rattle.kinds.specs.declared.pair.Pair.{Pair}

-- A kind is of one row, of two, or of two filters: what it says of them, and its test.
pub data Kind : Type 1 where
  no_kind : Kind
  alone : (Table → ℕ → Type 0) → (Seen → ℕ → Bool) → Kind
  paired : (Table → ℕ → ℕ → Type 0) → (Pair → Bool) → Kind
  of_filters : (Table → ℕ → ℕ → Type 0) → (ℕ → ℕ → Filter → Filter → Bool) → Kind

abbrev pub row_kinds : List Kind
row_kinds =
    alone InternalLoop (λ s i. internal_loop (s.placed i))
    ∷ alone OutOfPlace (λ s i. out_of_place (s.placed i))
    ∷ alone NonEnforceable (λ s i. non_enforceable (s.mask (s.placed i).from) (s.mask (s.placed i).to) s.caps (s.placed i).row)
    ∷ alone Inadequate (λ s i. inadequate s.floor (s.placed i).row)
    ∷ paired Shadowing shadowing
    ∷ paired Redundancy redundancy
    ∷ paired Exception exception
    ∷ paired Correlation correlation
    ∷ paired Inclusion inclusion
    ∷ paired Affinity affinity
    ∷ paired Contradiction contradiction
    ∷ alone Superfluous (λ s i. superfluous s.placed s.rows i)
    ∷ paired Skewed skewed
    ∷ alone Filtered (λ s i. filtered s.filter s.filters (s.placed i).row)
    ∷ alone LayerTwo (λ s i. layer_two (s.placed i).row)
    ∷ alone Asymmetric (λ s i. asymmetric (λ j. (s.placed j).row) s.rows i)
    ∷ alone Cyclic (λ s i. cyclic (s.placed i))
    ∷ paired Monitorable monitorable
    ∷ alone AlternativePath (λ s i. alternative_path (λ j. (s.placed j).from) (λ j. (s.placed j).to) (λ j. (s.placed j).row.selector) s.rows i)
    ∷ alone Dead (λ s i. s.dead i)
    ∷ []

abbrev pub filter_kinds : List Kind
filter_kinds = of_filters FilterShadowing filter_shadowing ∷ of_filters FilterRedundancy (λ k m. filter_redundancy) ∷ []

-- A kind's number is its place, from 1.
abbrev pub kinds : List Kind
kinds = row_kinds ++ filter_kinds

-- How many they are. The last one's number is that of all.
abbrev pub row_kind_count : ℕ
row_kind_count = 20

abbrev pub filter_kind_count : ℕ
filter_kind_count = 2

abbrev pub kind_count : ℕ
kind_count = row_kind_count + filter_kind_count

-- The kinds at their numbers: 0 is no kind's.
abbrev pub numbered : List Kind
numbered = no_kind ∷ kinds

abbrev pub kind_at : ℕ → Kind
kind_at kind = get_or numbered kind no_kind

-- The second number of an entry of one row: FF.
abbrev pub no_second : ℕ
no_second = 255

-- ---- what a kind says of the numbers i and j

abbrev pub Says : Table → Kind → ℕ → ℕ → Type 0
Says t no_kind i j = ⊥
Says t (alone P b) i j = IsRow t i × ((j ≡ no_second) × P t i)
Says t (paired P b) i j = IsRow t i × (IsRow t j × P t i j)
Says t (of_filters P b) i j = IsFilter t i × (IsFilter t j × P t i j)

-- "An anomaly is one of these kinds holding of row i, or of rows i and j". "Its entry is i, the kind, and j or FF." By document 02, [7], it may be one
-- of filters: "Their entries hold filter numbers from 0".
abbrev pub Anomaly : Table → ℕ → ℕ → ℕ → Type 0
Anomaly t i kind j = Says t (kind_at kind) i j

-- ---- its test

abbrev pub says : Table → Kind → ℕ → ℕ → Bool
says t no_kind i j = false
says t (alone P b) i j = ltb i (length t.rows) && (eqb j no_second && b (seen_of t) i)
says t (paired P b) i j = ltb i (length t.rows) && (ltb j (length t.rows) && b (pair_at t i j))
says t (of_filters P b) i j = ltb i (length t.filters) && (ltb j (length t.filters) && b i j (filter_at t i) (filter_at t j))

unfoldable pub anomaly : Table → ℕ → ℕ → ℕ → Bool
anomaly t i kind j = says t (kind_at kind) i j

-- The tests of one row, of two, and of two filters, at the kinds' numbers.
abbrev pub of_one : Seen → ℕ → Kind → Bool
of_one s i no_kind = false
of_one s i (alone P b) = b s i
of_one s i (paired P b) = false
of_one s i (of_filters P b) = false

abbrev pub of_two : Pair → Kind → Bool
of_two p no_kind = false
of_two p (alone P b) = false
of_two p (paired P b) = b p
of_two p (of_filters P b) = false

abbrev pub of_two_filters : (k m : ℕ) → (f g : Filter) → Kind → Bool
of_two_filters k m f g no_kind = false
of_two_filters k m f g (alone P b) = false
of_two_filters k m f g (paired P b) = false
of_two_filters k m f g (of_filters P b) = b k m f g

abbrev pub row_tests : Seen → ℕ → List Bool
row_tests s i = map (of_one s i) numbered

abbrev pub pair_tests : Pair → List Bool
pair_tests p = map (of_two p) numbered

abbrev pub filter_tests : (k m : ℕ) → (f g : Filter) → List Bool
filter_tests k m f g = map (of_two_filters k m f g) numbered
