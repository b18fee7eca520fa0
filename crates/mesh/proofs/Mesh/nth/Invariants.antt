-- After so many steps the number is that cut.
use Rattle.policy.specs.Views.{value}
use Rattle.covers.specs.Views.{comes}
use Rattle.mesh.specs.Views.{cuts_of}
use Rattle.mesh.proofs.Laws.Filled.{AtCut}
use Rattle.mesh.proofs.Mesh.nth.Given as goal

abbrev pub invariant-loop : goal.invariant-loop
invariant-loop l = AtCut (cuts_of l.self l.f) l.counter (comes (value l.v))
