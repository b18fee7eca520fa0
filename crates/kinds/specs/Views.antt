-- A row with the roots of its two ends, which most kinds look at, and what the code's structs and the runs that it lends stand for.
-- Assumes nothing.
use Rattle.std.specs.Prelude.{ℕ, ◌+◌, ◌*◌, ◌/◌, ◌%◌, ◌<◌, ◌≡◌, Bool, true, false, List, eqb, get_or}
use Rattle.policy.specs.Limits.{most_entities, most_rows}
use Rattle.policy.specs.Model.{Row, Table, row_at}
use Rattle.policy.specs.Views.{parent_in, row_of, row_in}
use Rattle.relations.specs.Entities.{root_of}
use Rattle.relations.specs.Selectors.{overlaps}
use Rattle.base.specs.Lists.{filled}
use Rattle.kinds.specs.Meanings.{source_root, destination_root}
use Rattle.kinds.specs.declared.placed.Placed.{Placed as PlacedStruct}

-- A row, root(s) and root(d).
pub record Placed : Type 0 where
  pub row : Row
  pub from : ℕ
  pub to : ℕ

abbrev pub placed_at : Table → ℕ → Placed
placed_at t i = record { row = row_at t i; from = source_root t i; to = destination_root t i }

abbrev pub placed_of : PlacedStruct → Placed
placed_of p = record { row = row_of p.row; from = p.from; to = p.to }

-- Rows whose ends are entities' numbers and whose boxes overlap.
pub record Comparable (p q : Placed) : Type 0 where
  pub source : p.row.source < most_entities
  pub destination : p.row.destination < most_entities
  pub other_source : q.row.source < most_entities
  pub other_destination : q.row.destination < most_entities
  pub overlap : overlaps p.row.selector q.row.selector ≡ true

-- ---- the roots of all rows, two for each: root(s), then root(d)

abbrev pub from_in : List ℕ → ℕ → ℕ
from_in roots i = get_or roots (2 * i) 0

abbrev pub to_in : List ℕ → ℕ → ℕ
to_in roots i = get_or roots (2 * i + 1) 0

-- Row i of the runs that are lent.
abbrev pub placed_in : (heads bounds roots : List ℕ) → ℕ → Placed
placed_in heads bounds roots i = record { row = row_in heads bounds i; from = from_in roots i; to = to_in roots i }

-- A row's source, or its destination.
abbrev pub end_of : Bool → Row → ℕ
end_of true r = r.source
end_of false r = r.destination

-- The root at place k.
abbrev pub root_in : (parents heads bounds : List ℕ) → ℕ → ℕ
root_in parents heads bounds k = root_of (parent_in parents) (end_of (eqb (k % 2) 0) (row_in heads bounds (k / 2)))

-- The run has the roots of the first `rows` rows, and then zeros.
pub record Rooted (parents heads bounds : List ℕ) (rows : ℕ) (roots : List ℕ) : Type 0 where
  pub whole : roots ≡ filled 0 (root_in parents heads bounds) (2 * most_rows) (2 * rows)

-- The ends of the rows that are lent are entities' numbers.
pub record Ends (heads bounds : List ℕ) (rows : ℕ) : Type 0 where
  pub source : (i : ℕ) → i < rows → (row_in heads bounds i).source < most_entities
  pub destination : (i : ℕ) → i < rows → (row_in heads bounds i).destination < most_entities
