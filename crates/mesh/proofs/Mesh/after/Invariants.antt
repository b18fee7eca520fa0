-- The next cut by the first boxes, one box more at a time.
use Rattle.policy.specs.Views.{value, range_of}
use Rattle.covers.specs.Sets.{field_of}
use Rattle.covers.specs.Views.{next_of}
use Rattle.mesh.specs.Views.{Nearest}
use Rattle.mesh.proofs.Laws.Nearest.{CutBy}
use Rattle.mesh.proofs.Mesh.after.Given as goal

abbrev pub invariant-loop-i : goal.invariant-loop-i
invariant-loop-i l =
    Nearest (CutBy (range_of l.r) (field_of l.self.bounds.now l.self.boxes.at l.f) (value l.v) l.i-index) (value l.v) (next_of l.next)
