-- The end so far is no later than the block's.
use Rattle.std.proofs.Common.{ℕ, ◌≤◌, ◌<◌}
use Rattle.policy.specs.Limits.{field_count}
use Rattle.mesh.specs.Blocks.{at}
use Rattle.mesh.proofs.blocks.Block.far.Given as goal

abbrev pub invariant-loop : goal.invariant-loop
invariant-loop l = (f : ℕ) → f < field_count → (at l.lo f ≤ at l.hi f) × (at l.hi f ≤ at l.fn.self.hi f)
