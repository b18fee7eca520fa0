-- The sets of the first n intervals are written, and `next` is the next cut. There are no more intervals than cuts.
use Rattle.std.proofs.Common.{length, ◌+◌, ◌-◌}
use Rattle.covers.specs.Views.{next_of}
use Rattle.mesh.specs.Views.{cuts_of}
use Rattle.mesh.proofs.Laws.Filled.{Filling}
use Rattle.mesh.proofs.Mesh.fill.Given as goal

abbrev pub invariant-loop-next : goal.invariant-loop-next
invariant-loop-next l = Filling l.self l.f l.fn.sets l.sets l.n (next_of l.next)

abbrev pub decreases-loop-next : goal.decreases-loop-next
decreases-loop-next l = length (cuts_of l.self l.f) + 1 - l.n
