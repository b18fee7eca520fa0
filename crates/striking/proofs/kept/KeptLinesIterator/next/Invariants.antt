-- No line so far was kept.
use Rattle.std.proofs.Common.{◌≡◌, length}
use Rattle.reader.specs.Lines.{lines_of}
use Rattle.striking.specs.Lines.{keeps, lines_kept}
use Rattle.striking.proofs.kept.KeptLinesIterator.next.Given as goal

abbrev pub invariant-loop-line : goal.invariant-loop-line
invariant-loop-line l =
    lines_kept (keeps l.fn.self.dead.now l.fn.self.others) l.fn.self.place (lines_of l.fn.self.left.unread.now)
    ≡ lines_kept (keeps l.self.dead.now l.self.others) l.self.place (lines_of l.self.left.unread.now)

abbrev pub decreases-loop-line : goal.decreases-loop-line
decreases-loop-line l = length (lines_of l.self.left.unread.now)
