-- At each field some of the boxes are left.
use Rattle.mesh.specs.Blocks.{SomeOf}
use Rattle.mesh.proofs.blocks.chosen.Given as goal

abbrev pub invariant-loop-f : goal.invariant-loop-f
invariant-loop-f l = SomeOf l.boxes l.some
