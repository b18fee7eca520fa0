-- The verdict from the runs that a table lends is the verdict on the table's row.
-- Assumes nothing.
use mathlib.Core.Path.{◌≡◌}
use Prim.Native.Nat.{ℕ, ◌<◌}
use Rattle.policy.specs.Views.{table_of, Held}
use Rattle.policy.specs.declared.table.Table.{Table as TableStruct}
use Rattle.policy.proofs.Laws.Tables.{Sized}
use Rattle.covers.proofs.Laws.Tables.{lent_row, lent_cover}
use Rattle.search.specs.Search.{search}
use Rattle.verdicts.specs.Verdicts.{verdict_after, verdict_on, verdict_in}

pub lent_verdict : (t : TableStruct) → Sized t → Held t → (i : ℕ) → i < t.rows
    → verdict_in t.parents t.heads t.bounds i ≡ verdict_on (table_of t) i
unfolding verdict_after
lent_verdict t s held i h = λ x. search (lent_row t i h x).selector (lent_cover t s held i h x)
