-- `rowlist` meets its contract: what is printed of the text, or that the input is too long. Assumes nothing.
use Rattle.printing.proofs.Laws.Printed.{prints_other, rowlist_long, rowlist_text}
use Rattle.printing.proofs.rowlist.Goals as goal

pub returns-then-input-gt-INPUT : goal.returns-then-input-gt-INPUT
returns-then-input-gt-INPUT c = prints_other (rowlist_long _ c.if-input-gt-INPUT.true) c.put.ensures

pub returns : goal.returns
returns c = prints_other (rowlist_text _ c.if-input-gt-INPUT.false) c.put_list.ensures
