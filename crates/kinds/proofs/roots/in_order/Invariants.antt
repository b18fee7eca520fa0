-- What is left to see.
use Rattle.std.proofs.Common.{◌≡◌, drop}
use Rattle.kinds.specs.Tests.{in_order}
use Rattle.kinds.proofs.Laws.Roots.{after}
use Rattle.kinds.proofs.roots.in_order.Given as goal

abbrev pub invariant-loop-x : goal.invariant-loop-x
invariant-loop-x l = in_order l.a l.b l.at ≡ after l.begun l.a l.b (drop l.x-index l.at)
