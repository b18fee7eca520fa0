-- Document 02, [8], of a row of a table: the mesh of its box by those of its cover.
-- Assumes nothing.
use Rattle.std.specs.Prelude.{ℕ, List}
use Rattle.policy.specs.Model.{Table, row_at}
use Rattle.policy.specs.Views.{selector_in}
use Rattle.covers.specs.Least.{SearchResult}
use Rattle.covers.specs.Covers.{cover_on, cover_in}
use Rattle.mesh.specs.Mesh.{mesh}

-- Of row i of a table.
abbrev pub mesh_on : Table → ℕ → SearchResult
mesh_on t i = mesh (row_at t i).selector (cover_on t i)

-- Of row i of the runs that a table lends.
abbrev pub mesh_in : List ℕ → List ℕ → List ℕ → ℕ → SearchResult
mesh_in parents heads bounds i = mesh (selector_in bounds i) (cover_in parents heads bounds i)
