-- The boxes have the intervals so far.
use Rattle.std.proofs.Common.{ℕ, ◌≤◌, ◌<◌}
use Rattle.mesh.specs.Blocks.{AllHave}
use Rattle.mesh.proofs.blocks.end.Given as goal

abbrev pub invariant-loop-i : goal.invariant-loop-i
invariant-loop-i l = record {
  most : l.i ≤ l.hi;
  have : (i : ℕ) → l.lo < i → i < l.i → AllHave l.sets l.f l.boxes i;
}
