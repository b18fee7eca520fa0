-- Demands 2 and 3 on the list, with document 02's request [7], and the number that C gets, for every text. Numbers of the documents stand here as they
-- print them.
-- Assumes nothing.
use Rattle.std.specs.Prelude.{ℕ, ◌+◌, ◌*◌, ◌≤◌, ◌<◌, ◌≡◌, ◌↔◌, length, drop, Ok, Err}
use mathlib.Core.List.{List, [], ◌∷◌, ◌++◌, Memᴰ}
use Rattle.base.specs.Answers.{returned}
use Rattle.policy.specs.Model.{Table}
use Rattle.reader.specs.States.{Parsed, parse}
use Rattle.relations.specs.Groups.{Dead}
use Rattle.kinds.specs.Meanings.{InternalLoop, OutOfPlace, NonEnforceable, Inadequate, Shadowing, Redundancy, Exception, Correlation, Inclusion, Affinity, Contradiction, Superfluous, Skewed, Filtered, LayerTwo, Asymmetric, Cyclic, Monitorable, AlternativePath, FilterShadowing, FilterRedundancy}
use Rattle.kinds.specs.Kinds.{Anomaly}
use Rattle.kinds.specs.Entries.{Entry, entry, entries, Ascending}
use Rattle.listing.specs.Bytes.{bytes}
use Rattle.analyser.specs.Calls.{list_of, list_written, packed}
use Rattle.analyser.specs.CallAnswers.{Only, ListAnswers}
use Rattle.calls.specs.Views.{refusal}

-- The anomalies of a kind of one row, and of one of two rows: "Its entry is i, the kind, and j or FF."
abbrev pub OfOne : Table → ℕ → (ℕ → Type 0) → Type 0
OfOne t kind P = (i j : ℕ) → Anomaly t i kind j ↔ ((i < length t.rows) × (j ≡ 255) × P i)

abbrev pub OfTwo : Table → ℕ → (ℕ → ℕ → Type 0) → Type 0
OfTwo t kind P = (i j : ℕ) → Anomaly t i kind j ↔ ((i < length t.rows) × (j < length t.rows) × P i j)

-- Request [7]: those of two filters. "Their entries hold filter numbers from 0".
abbrev pub OfTwoFilters : Table → ℕ → (ℕ → ℕ → Type 0) → Type 0
OfTwoFilters t kind P = (k m : ℕ) → Anomaly t k kind m ↔ ((k < length t.filters) × (m < length t.filters) × P k m)

-- "An anomaly is one of these kinds holding of row i, or of rows i and j", or of filters, by the kinds' numbers.
pub record KindNumbers (t : Table) : Type 0 where
  pub internal_loop : OfOne t 1 (InternalLoop t)
  pub out_of_place : OfOne t 2 (OutOfPlace t)
  pub non_enforceable : OfOne t 3 (NonEnforceable t)
  pub inadequate : OfOne t 4 (Inadequate t)
  pub shadowing : OfTwo t 5 (Shadowing t)
  pub redundancy : OfTwo t 6 (Redundancy t)
  pub exception : OfTwo t 7 (Exception t)
  pub correlation : OfTwo t 8 (Correlation t)
  pub inclusion : OfTwo t 9 (Inclusion t)
  pub affinity : OfTwo t 10 (Affinity t)
  pub contradiction : OfTwo t 11 (Contradiction t)
  pub superfluous : OfOne t 12 (Superfluous t)
  pub skewed : OfTwo t 13 (Skewed t)
  pub filtered : OfOne t 14 (Filtered t)
  pub layer_two : OfOne t 15 (LayerTwo t)
  pub asymmetric : OfOne t 16 (Asymmetric t)
  pub cyclic : OfOne t 17 (Cyclic t)
  pub monitorable : OfTwo t 18 (Monitorable t)
  pub alternative_path : OfOne t 19 (AlternativePath t)
  pub dead : OfOne t 20 (Dead t)
  pub filter_shadowing : OfTwoFilters t 21 (FilterShadowing t)
  pub filter_redundancy : OfTwoFilters t 22 (FilterRedundancy t)
  -- there is no other kind
  pub no_other : (i kind j : ℕ) → Anomaly t i kind j → (1 ≤ kind) × (kind ≤ 22)

-- Of what was read of an accepted text:
module _ (r : Parsed) where
  abbrev t : Table
  t = r.table

  -- "The list is the one that the twenty kinds .. define: no entry more, none less." By request [7] this means twenty-two kinds, "as altered here and in this
  -- order: nobody can name one that it lacks, and it has no entry more".
  pub record ListPromise : Type 0 where
    -- given space, List writes the entries and returns their count
    pub written : (out : List ℕ) → 3 * length (entries t) ≤ length out
        → Only (ListAnswers (returned r) out) (Ok (length (entries t)))
        × (list_written (returned r) out ≡ bytes (entries t) ++ drop (3 * length (entries t)) out)
    -- "three bytes an entry (first row, kind, second number)", with filter numbers in those of filters
    pub three : (bytes [] ≡ []) × ((i kind j : ℕ) (l : List Entry) → bytes (entry i kind j ∷ l) ≡ i ∷ kind ∷ j ∷ bytes l)
    -- "List's entries are exactly the table's anomalies of the twenty kinds, each once, in document 01's order", those of filters "after all row entries,
    -- ascending"
    pub exact : (i kind j : ℕ) → Memᴰ (entry i kind j) (entries t) ↔ Anomaly t i kind j
    pub kinds : KindNumbers t
    pub ascending : Ascending (entries t)
    -- "The list has at most 13,792 entries"
    pub few : length (entries t) ≤ 13792

-- ---- List for C

-- "a number in return: the count, or 65,536 × refusal + line". It tells the count from a refusal, and a refusal's number from its line.
pub record PackedPromise (text out : List ℕ) : Type 0 where
  pub count : (n : ℕ) → ListAnswers (parse text) out (Ok n) → (packed (list_of (parse text) out) ≡ n) × (n < 65536)
  pub refusals : (number line : ℕ) → ListAnswers (parse text) out (Err (refusal number line))
      → (packed (list_of (parse text) out) ≡ 65536 * number + line) × (1 ≤ number) × (number ≤ 10) × (line < 65536)
