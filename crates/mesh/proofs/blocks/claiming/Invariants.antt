-- The set is of the boxes that have the cell's intervals in the fields so far.
use Rattle.mesh.proofs.Laws.Loops.{ClaimingBefore}
use Rattle.mesh.proofs.blocks.claiming.Given as goal

abbrev pub invariant-loop-f : goal.invariant-loop-f
invariant-loop-f l = ClaimingBefore l.sets l.c l.f l.set
