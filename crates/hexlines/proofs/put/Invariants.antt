use Rattle.std.proofs.Common.{◌≡◌, ◌+◌, ◌*◌, drop}
use Rattle.std.proofs.lemmas.List.Edits.{sets}
use Rattle.hexlines.specs.Lines.{line_of}
use Rattle.hexlines.proofs.put.Given as goal

abbrev pub invariant-loop-k : goal.invariant-loop-k
invariant-loop-k l = sets l.out (l.at + 2 * l.k) (line_of (drop l.k l.bytes)) ≡ sets l.fn.out l.at (line_of l.bytes)
