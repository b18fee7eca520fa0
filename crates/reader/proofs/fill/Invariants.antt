-- The lines that were read say the first filters, or all filters and the first rows, and these stand in the table. Assumes nothing.
use Rattle.std.proofs.Common.{◌≡◌}
use Rattle.std.specs.Iterator.Adapters.{enumerate_source, enumerate_count}
use Rattle.reader.specs.Lines.{lines_of}
use Rattle.reader.specs.Views.{Fillable}
use Rattle.reader.proofs.Laws.Filled.{Taken, table_from}
use Rattle.reader.proofs.fill.Given as goal

abbrev pub invariant-loop-n : goal.invariant-loop-n
invariant-loop-n l =
    record {
      others : table_from l.fn.state l.table.filter_roots l.table.filter_actions l.table.heads l.table.bounds ≡ l.table;
      taken : (a : Fillable l.fn.text l.fn.state)
          → Taken a.table l.table.filter_roots l.table.filter_actions l.table.heads l.table.bounds
          (lines_of (enumerate_source l.n-iterator).unread.now) (enumerate_count l.n-iterator);
    }
