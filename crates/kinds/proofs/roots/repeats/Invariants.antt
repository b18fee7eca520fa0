-- No root that was passed stands at a later place.
use Rattle.std.proofs.Common.{◌≡◌, length}
use Rattle.kinds.specs.Tests.{twice}
use Rattle.kinds.proofs.roots.repeats.Given as goal

abbrev pub invariant-loop-rest : goal.invariant-loop-rest
invariant-loop-rest l = twice l.at ≡ twice l.rest

abbrev pub decreases-loop-rest : goal.decreases-loop-rest
decreases-loop-rest l = length l.rest
