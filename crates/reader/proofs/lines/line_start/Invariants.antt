-- The line asked for is the one at place n - counter of those from `start` on. Assumes nothing.
use Rattle.std.proofs.Common.{◌≡◌, ◌+◌, ◌-◌, ◌≤◌, length, drop}
use Rattle.reader.specs.Lines.{line_start}
use Rattle.reader.proofs.lines.line_start.Given as goal

abbrev pub invariant-loop : goal.invariant-loop
invariant-loop l =
    record {
      within : l.start ≤ length l.text;
      same : l.start + line_start (drop l.start l.text) (l.n - l.counter) ≡ line_start l.text l.n;
    }
