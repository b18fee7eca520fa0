-- b is at the place that is looked at and an a stood before it, or what is left to see is seen of those after it.
use mathlib.Core.Path.{◌≡◌, sym, ap, ◌∙◌}
use mathlib.Core.Bool.{false, ◌&&◌}
use lib.ListN.{get_or, drop_of_length-le}
use Rattle.std.proofs.Common.{arith, eqb}
use Rattle.std.proofs.lemmas.Grind.{common_steps}
use Rattle.kinds.proofs.Laws.Roots.{from_place, after, after_last, after_found, after_next}
use Rattle.kinds.proofs.roots.in_order.Goals as goal

pub returns-then-x-b : goal.returns-then-x-b
returns-then-x-b c =
    let a = c.args.a in
    let b = c.args.b in
    let s = c.loop-x.begun in
    sym
    (c.loop-x.invariant ∙ ap (after s a b) (from_place _ _ c.loop-x-test.true) ∙ after_found s a b _ _ c.if-begun.true c.if-x-b.true)

pub loop-x-preserved : goal.loop-x-preserved
loop-x-preserved c =
    let a = c.args.a in
    let b = c.args.b in
    let s = c.loop-x.begun in
    let other : (s && eqb (get_or c.args.at.now c.loop-x.x-index 0) b) ≡ false = grind (arith, common_steps) in
    c.loop-x.invariant ∙ ap (after s a b) (from_place _ _ c.loop-x-test.true) ∙ after_next s a b _ _ other

pub returns : goal.returns
returns c =
    let a = c.args.a in
    let b = c.args.b in
    let s = c.loop-x.begun in
    sym (c.loop-x.invariant ∙ ap (after s a b) (drop_of_length-le _ c.loop-x-test.false) ∙ after_last s a b)
