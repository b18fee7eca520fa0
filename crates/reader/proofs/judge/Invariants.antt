-- What the lines that are unread make of the state is what the text is, and it is not refused. Assumes nothing.
use Rattle.std.proofs.Common.{◌≡◌, None}
use Rattle.reader.proofs.Laws.Judged.{Onward}
use Rattle.reader.proofs.judge.Given as goal

abbrev pub invariant-loop-line : goal.invariant-loop-line
invariant-loop-line l =
    record {
      onward : Onward l.text l.lines.unread.now l.state;
      going : l.state.refusal ≡ None;
    }
