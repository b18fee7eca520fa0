-- The line that ends in a line feed is the first of those that are unread. Assumes nothing.
use Rattle.std.proofs.Common.{◌+◌, refl, arith}
use Rattle.reader.proofs.Laws.Lines.{lines_ended, rest_ended, lines_unended, rest_all}
use Rattle.reader.proofs.lines.LinesIterator.next.Goals as goal

pub returns-then-end-self-clause-steps : goal.returns-then-end-self-clause-steps
returns-then-end-self-clause-steps c =
    (lines_unended c.args.self.now.unread.now c.line_end-end.result (omega arith) (omega arith), refl)

pub returns-clause-steps : goal.returns-clause-steps
returns-clause-steps c =
    let text = c.args.self.now.unread.now in
    let end = c.line_end-end.result in
    rw (rest_all text (end + 1)) (lines_ended text end (omega arith) (omega arith), rest_ended text end (omega arith) (omega arith))
