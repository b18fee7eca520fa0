-- x is at the place that is looked at, or among those after it.
use mathlib.Core.Path.{sym, ap, ◌∙◌}
use lib.ListN.{drop_of_length-le}
use Rattle.base.specs.Lists.{among}
use Rattle.base.proofs.Laws.Members.{among_nil}
use Rattle.kinds.proofs.Laws.Roots.{from_place, among_here, among_later}
use Rattle.kinds.proofs.roots.among.Goals as goal

pub returns-then-root-x : goal.returns-then-root-x
returns-then-root-x c =
    let x = c.args.x in
    sym (c.loop-root.invariant ∙ ap (among x) (from_place _ _ c.loop-root-test.true) ∙ among_here x _ _ c.if-root-x.true)

pub loop-root-preserved : goal.loop-root-preserved
loop-root-preserved c =
    let x = c.args.x in
    c.loop-root.invariant ∙ ap (among x) (from_place _ _ c.loop-root-test.true) ∙ among_later x _ _ c.if-root-x.false

pub returns : goal.returns
returns c =
    let x = c.args.x in
    sym (c.loop-root.invariant ∙ ap (among x) (drop_of_length-le _ c.loop-root-test.false) ∙ among_nil x)
