-- Document 01, "Witness, of a row: either dead, or the least packet": the verdict on a row.
-- Assumes nothing.
use Rattle.std.specs.Prelude.{ℕ, Bool, true, false, List, take}
use Rattle.policy.specs.Model.{Row, Table, row_at, parent_of}
use Rattle.policy.specs.Views.{parent_in, row_in, rows_in}
use Rattle.covers.specs.Least.{SearchResult, found, none}
use Rattle.covers.specs.Covers.{cover_of}
use Rattle.search.specs.Search.{search}

-- The least packet of r that its cover leaves, after the rows before it.
unfoldable pub verdict_after : (ℕ → ℕ) → List Row → Row → SearchResult
verdict_after up before r = search r.selector (cover_of up r before)

-- The verdict on row i of a table.
abbrev pub verdict_on : Table → ℕ → SearchResult
verdict_on t i = verdict_after (parent_of t) (take i t.rows) (row_at t i)

-- The verdict is dead.
abbrev pub is_none : SearchResult → Bool
is_none none = true
is_none (found p) = false

-- Whether row i of a table is dead.
abbrev pub dead : Table → ℕ → Bool
dead t i = is_none (verdict_on t i)

-- The verdict on row i of the runs that a table lends.
abbrev pub verdict_in : List ℕ → List ℕ → List ℕ → ℕ → SearchResult
verdict_in parents heads bounds i = verdict_after (parent_in parents) (rows_in heads bounds i) (row_in heads bounds i)
