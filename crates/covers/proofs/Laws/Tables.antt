-- The cover from the runs that a table lends is the cover of the table's row. What is asked of them, a well-formed table keeps.
-- Assumes nothing.
use mathlib.Core.Path.{◌≡◌, sym, ap, ◌∙◌}
use mathlib.Core.List.{List}
use Prim.Native.Nat.{ℕ, ◌≤◌, ◌<◌}
use native.Mathlib.Omega.{arith}
use lib.ListN.{take}
use lib.Seq.{length-take-le, get_or-take}
use Rattle.policy.specs.Model.{Row, no_row, row_at, parent_of}
use Rattle.policy.specs.Views.{row_in, rows_in, table_of, Held}
use Rattle.policy.specs.Wellformed.{Wellformed}
use Rattle.policy.specs.declared.table.Table.{Table as TableStruct}
use Rattle.base.proofs.Laws.Lists.{tabulate_counted}
use Rattle.policy.proofs.Laws.Lists.{length_rows, row_of_rows}
use Rattle.policy.proofs.Laws.Tables.{Sized, parents_same}
use Rattle.relations.proofs.Laws.Tables.{lent_parents}
use Rattle.covers.specs.Covers.{cover_of, cover_on, cover_in, Asked}

-- The first i rows of more.
rows_before : (heads bounds : List ℕ) (i n : ℕ) → i ≤ n → rows_in heads bounds i ≡ take i (rows_in heads bounds n)
rows_before heads bounds i n h =
    let l = length_rows heads bounds n in
    tabulate_counted (row_in heads bounds) i (take i (rows_in heads bounds n)) no_row
    (length-take-le i (rows_in heads bounds n) (omega arith))
    (λ k b. sym (get_or-take i (rows_in heads bounds n) k no_row b ∙ row_of_rows heads bounds n k (omega arith)))

-- Row i is the table's,
pub lent_row : (t : TableStruct) (i : ℕ) → i < t.rows → row_in t.heads t.bounds i ≡ row_at (table_of t) i
lent_row t i h = sym (row_of_rows t.heads t.bounds t.rows i h)

-- and so is its cover.
pub lent_cover : (t : TableStruct) → Sized t → Held t → (i : ℕ) → i < t.rows → cover_in t.parents t.heads t.bounds i ≡ cover_on (table_of t) i
lent_cover t s held i h =
    let n = held.entities in
    let m = s.parents in
    ap (λ (up : ℕ → ℕ). cover_of up (row_in t.heads t.bounds i) (rows_in t.heads t.bounds i)) (parents_same t held (omega arith))
    ∙ ap (λ (before : List Row). cover_of (parent_of (table_of t)) (row_in t.heads t.bounds i) before)
    (rows_before t.heads t.bounds i t.rows (omega arith))
    ∙ ap (λ (r : Row). cover_of (parent_of (table_of t)) r (take i (table_of t).rows)) (lent_row t i h)

pub lent_asked : (t : TableStruct) → Sized t → Held t → Wellformed (table_of t) → (i : ℕ) → i < t.rows → Asked t.parents t.heads t.bounds i
lent_asked t s held w i h =
    let n = length_rows t.heads t.bounds t.rows in
    let e = row_of_rows t.heads t.bounds t.rows i h in
    let r = w.row i (omega arith) in
    let f = ap (λ (q : Row). q.source) e in
    let g = ap (λ (q : Row). q.destination) e in
    record {
      row = omega (arith, held.rows);
      ends = record {
        parents = lent_parents t s held w;
        source = omega (arith, r.source, w.counts.few_entities);
        destination = omega (arith, r.destination, w.counts.few_entities);
      };
    }
