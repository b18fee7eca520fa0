-- The bytes written, and those of the lines that are left, are the struck text.
use Rattle.base.proofs.Laws.Copying.{Copying}
use Rattle.policy.specs.Views.{table_of}
use Rattle.reader.specs.Lines.{lines_of, text_of}
use Rattle.striking.specs.Texts.{struck_text}
use Rattle.striking.specs.Lines.{keeps, lines_kept}
use Rattle.striking.proofs.strike.Given as goal

abbrev pub invariant-loop-line : goal.invariant-loop-line
invariant-loop-line l =
    let k = l.line-iterator in
    Copying l.fn.out l.out l.start (struck_text l.fn.text (table_of l.fn.t))
    (text_of (lines_kept (keeps k.dead.now k.others) k.place (lines_of k.left.unread.now)))
