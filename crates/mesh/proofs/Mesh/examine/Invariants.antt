-- The fields so far have their sets, and the last cell's numbers say how many.
use Rattle.std.proofs.Common.{◌≡◌, length}
use Rattle.policy.specs.Limits.{field_count}
use Rattle.mesh.proofs.Laws.Meshed.{Ready}
use Rattle.mesh.proofs.Mesh.examine.Given as goal

abbrev pub invariant-loop-f : goal.invariant-loop-f
invariant-loop-f l = record {
  rows : length l.sets ≡ field_count;
  fields : length l.hi ≡ field_count;
  ready : Ready l.self l.sets l.hi l.f;
}
