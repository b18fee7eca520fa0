-- The boxes that could cover a row, said once for Witness and for the mesh of document 02, [8]: "the earlier boxes that could cover it".
-- Assumes nothing.
use Rattle.std.specs.Prelude.{ℕ, ◌<◌, ◌≡◌, Bool, ◌&&◌, ◌↔◌, take}
use mathlib.Core.List.{List, Memᴰ}
use Rattle.policy.specs.Model.{Selector, Row, Table, row_at, parent_of}
use Rattle.policy.specs.Limits.{most_rows}
use Rattle.policy.specs.Views.{parent_in, row_in, rows_in}
use Rattle.relations.specs.Entities.{TwoEntities, AtOrAbove, at_or_above}
use Rattle.relations.specs.Groups.{SameGroup, same_group}
use Rattle.base.specs.Lists.{passing}

-- The row q is of r's group, and ⪰ it in source and destination.
unfoldable pub covers : (ℕ → ℕ) → Row → Row → Bool
covers up r q =
    same_group q r && (at_or_above up q.source r.source && at_or_above up q.destination r.destination)

-- The cover of r: the selectors of the rows before it that are of its group and ⪰ it in source and destination.
unfoldable pub cover_of : (ℕ → ℕ) → Row → List Row → List Selector
cover_of up r before = passing (covers up r) (λ q. q.selector) before

-- The cover of row i of a table.
abbrev pub cover_on : Table → ℕ → List Selector
cover_on t i = cover_of (parent_of t) (row_at t i) (take i t.rows)

-- Row j could cover row i: it is earlier, of its group, and ⪰ it in source and destination.
pub record CouldCover (t : Table) (j i : ℕ) : Type 0 where
  pub earlier : j < i
  pub group : SameGroup (row_at t j) (row_at t i)
  pub source : AtOrAbove (parent_of t) (row_at t j).source (row_at t i).source
  pub destination : AtOrAbove (parent_of t) (row_at t j).destination (row_at t i).destination

-- The boxes of the cover are the selectors of just these rows.
abbrev pub CoverExact : Table → ℕ → Type 0
CoverExact t i = (b : Selector) → Memᴰ b (cover_on t i) ↔ ((j : ℕ) × CouldCover t j i × (b ≡ (row_at t j).selector))

-- ---- the runs that a table lends

-- What is asked of them, and of a row's number.
pub record Asked (parents heads bounds : List ℕ) (i : ℕ) : Type 0 where
  pub row : i < most_rows
  pub ends : TwoEntities parents (row_in heads bounds i).source (row_in heads bounds i).destination

-- The cover of row i.
abbrev pub cover_in : List ℕ → List ℕ → List ℕ → ℕ → List Selector
cover_in parents heads bounds i = cover_of (parent_in parents) (row_in heads bounds i) (rows_in heads bounds i)
