-- The two roots that are stored at i are those of row i.
use mathlib.Core.Path.{ap, ◌∙◌}
use native.Mathlib.Omega.{arith}
use Rattle.policy.specs.Model.{Row}
use Rattle.policy.specs.Views.{parent_in}
use Rattle.relations.specs.Entities.{root_of}
use Rattle.kinds.proofs.Laws.Placed.{rooted_start, rooted_next}
use Rattle.kinds.proofs.placed.roots_of.Goals as goal

pub loop-i-init : goal.loop-i-init
loop-i-init c = rooted_start _ _ _

pub loop-i-preserved : goal.loop-i-preserved
loop-i-preserved c =
    let n = c.requires.1 in
    let h = c.loop-i-test.true in
    let up = parent_in c.args.t.now.parents in
    rooted_next _ _ _ c.loop-i.i (omega arith) c.loop-i.invariant
    (c.root.ensures ∙ ap (λ (q : Row). root_of up q.source) c.row-r.ensures)
    (c.root-in-loop-i.ensures ∙ ap (λ (q : Row). root_of up q.destination) c.row-r.ensures)
