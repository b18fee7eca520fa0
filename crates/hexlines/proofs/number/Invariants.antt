use Rattle.std.proofs.Common.{◌≡◌, take}
use Rattle.hexlines.specs.Lines.{bytes_of}
use Rattle.hexlines.specs.Numbers.{number_of}
use Rattle.hexlines.proofs.number.Given as goal

abbrev pub invariant-loop-i : goal.invariant-loop-i
invariant-loop-i l = l.n ≡ number_of (take l.i (bytes_of l.part))
