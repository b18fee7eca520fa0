-- `table_with` meets its contract: the row is tested by the count of the table that was read. Assumes nothing.
use Rattle.frames.proofs.Laws.Refusals.{number_above_0}
use Rattle.calls.proofs.Laws.Texts.{row_kept, row_missing}
use Rattle.calls.proofs.table_with.Goals as goal

pub returns-in_err-keep : goal.returns-in_err-keep
returns-in_err-keep c =
    row_missing c.args.k (record { same = c.in_ok-t.ensures.same; held = c.in_ok-t.ensures.held }) _ _ (number_above_0 c.in_err-keep.field-0.0)
    (c.in_err-keep.ensures) c.from_residual-in_err-keep.ensures.1

pub returns : goal.returns
returns c = row_kept c.args.k (record { same = c.in_ok-t.ensures.same; held = c.in_ok-t.ensures.held }) c.in_ok-keep.ensures
