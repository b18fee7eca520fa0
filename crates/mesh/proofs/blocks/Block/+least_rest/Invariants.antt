-- The blocks have fewer and fewer intervals, and `rest` asks `least` about fewer than it was given. Field by field, the last one first, what the boxes leave of
-- the block is cut off.
use Rattle.std.proofs.Common.{◌+◌, ◌*◌}
use Rattle.mesh.proofs.Laws.Blocks.{size, Cutting}
use Rattle.mesh.proofs.blocks.Block.+least_rest.Given as goal

abbrev pub decreases-least : goal.decreases-least
decreases-least l = 2 * size l.self.lo l.self.hi + 1

abbrev pub decreases-rest : goal.decreases-rest
decreases-rest l = 2 * size l.self.lo l.self.hi

abbrev pub invariant-rest-loop-f : goal.invariant-rest-loop-f
invariant-rest-loop-f l = Cutting l.sets l.lo l.fn.self.hi l.fn.best l.boxes l.hi l.found l.f
