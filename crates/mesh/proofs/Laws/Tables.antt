-- The mesh from the runs that a table lends is that of the table's row. The row's ranges are ordered, in a well-formed table.
-- Assumes nothing.
use mathlib.Core.Path.{◌≡◌, sym, subst}
use Prim.Native.Nat.{ℕ, ◌<◌}
use native.Mathlib.Omega.{arith}
use Rattle.policy.specs.Model.{Row}
use Rattle.policy.specs.Views.{selector_in, table_of, Held}
use Rattle.policy.specs.Wellformed.{Wellformed, Ordered}
use Rattle.policy.specs.declared.table.Table.{Table as TableStruct}
use Rattle.policy.proofs.Laws.Lists.{length_rows}
use Rattle.policy.proofs.Laws.Tables.{Sized}
use Rattle.covers.proofs.Laws.Tables.{lent_row, lent_cover}
use Rattle.mesh.specs.Mesh.{mesh}
use Rattle.mesh.specs.Verdicts.{mesh_on, mesh_in}

pub lent_mesh : (t : TableStruct) → Sized t → Held t → (i : ℕ) → i < t.rows → mesh_in t.parents t.heads t.bounds i ≡ mesh_on (table_of t) i
lent_mesh t s held i h = λ x. mesh (lent_row t i h x).selector (lent_cover t s held i h x)

pub lent_ordered : (t : TableStruct) → Wellformed (table_of t) → (i : ℕ) → i < t.rows → Ordered (selector_in t.bounds i)
lent_ordered t w i h =
    let n = length_rows t.heads t.bounds t.rows in
    subst (λ (r : Row). Ordered r.selector) (sym (lent_row t i h)) (w.row i (omega arith)).selector.ordered
