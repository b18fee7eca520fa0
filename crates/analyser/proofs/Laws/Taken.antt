-- What is taken out of an accepted table is the table's.
--   row_own, row_ends: a row, and that its ends are entities
--   parents_own: the parents that the table lends
--   side_own, side_high: the addresses of a row's side
-- Assumes nothing.
use native.Mathlib.Omega.{arith}
use Prim.Native.Nat.{ℕ, ◌^◌, ◌≤◌, ◌<◌}
use mathlib.Core.Path.{◌≡◌, sym, ap, ◌∙◌}
use mathlib.Core.List.{List}
use lib.ListN.{length}
use Rattle.policy.specs.Model.{Range, Row, row_at, parent_of}
use Rattle.policy.specs.Views.{value, range_of, table_of, row_of, row_in, selector_in, parent_in}
use Rattle.policy.specs.declared.row.Row.{Row as RowStruct}
use Rattle.policy.specs.declared.selector.Range.{Range as RangeStruct}
use Rattle.policy.specs.declared.table.Table.{Table as TableStruct}
use Rattle.policy.proofs.Laws.Lists.{row_of_rows}
use Rattle.policy.proofs.Laws.Tables.{parents_same}
use Rattle.relations.specs.Entities.{TwoEntities}
use Rattle.relations.proofs.Laws.Tables.{lent_parents}
use Rattle.prefixes.specs.Sides.{side_of}
use Rattle.calls.proofs.Laws.Texts.{Accepted}
use Rattle.analyser.proofs.Laws.Prefixes.{side_fits}

module _ {text : List ℕ} {t : TableStruct} (a : Accepted text t) where
  pub parents_own : parent_in t.parents ≡ parent_of (table_of t)
  parents_own = let z = a.sized.parents in let n = a.held.entities in parents_same t a.held (omega arith)

  module _ (k : ℕ) (h : k < length (table_of t).rows) where
    row_same : row_at (table_of t) k ≡ row_in t.heads t.bounds k
    row_same = row_of_rows t.heads t.bounds t.rows k (omega (arith, h, a.counted.rows))

    pub row_own : (r : RowStruct) → row_of r ≡ row_in t.heads t.bounds k → row_of r ≡ row_at (table_of t) k
    row_own r own = own ∙ sym row_same

    pub row_ends : (r : RowStruct) → row_of r ≡ row_in t.heads t.bounds k → TwoEntities t.parents r.source r.destination
    row_ends r own =
        let rule = a.well.row k h in
        let few = a.well.counts.few_entities in
        record {
          parents = lent_parents t a.sized a.held a.well;
          source = omega (arith, ap (λ (q : Row). q.source) (row_own r own), rule.source);
          destination = omega (arith, ap (λ (q : Row). q.destination) (row_own r own), rule.destination);
        }

    module _ (side : ℕ) (r : RangeStruct) (own : range_of r ≡ side_of side (selector_in t.bounds k)) where
      pub side_own : range_of r ≡ side_of side (row_at (table_of t) k).selector
      side_own = own ∙ ap (λ (q : Row). side_of side q.selector) (sym row_same)

      pub side_high : side ≤ 1 → value r.high < 2 ^ 32
      side_high s = omega (arith, side_fits (row_at (table_of t) k).selector side s (a.well.row k h).selector, ap (λ (q : Range). q.high) side_own)
