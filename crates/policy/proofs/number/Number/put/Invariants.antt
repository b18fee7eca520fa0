use Rattle.std.proofs.Common.{◌≡◌, ◌+◌, ◌-◌}
use Rattle.std.proofs.lemmas.List.Edits.{sets}
use Rattle.hexlines.specs.Numbers.{number_bytes}
use Rattle.policy.specs.Views.{value}
use Rattle.policy.proofs.number.Number.put.Given as goal

abbrev pub invariant-loop-k : goal.invariant-loop-k
invariant-loop-k l = sets l.bytes (l.at + l.k) (number_bytes (l.width - l.k) (value l.self)) ≡ sets l.initial.bytes l.at (number_bytes l.width (value l.self))
