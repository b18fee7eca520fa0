use Rattle.std.proofs.Common.{◌≡◌, ◌&&◌, drop}
use Rattle.hexlines.specs.Lines.{all_digits}
use Rattle.hexlines.proofs.is_line.Given as goal

abbrev pub invariant-loop-c : goal.invariant-loop-c
invariant-loop-c l = all_digits l.line ≡ (l.digits && all_digits (drop l.c-index l.line))
