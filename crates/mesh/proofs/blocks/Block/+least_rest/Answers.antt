-- `least` and `rest` meet their contracts: `least` finds the boxes of a block's first cell, and `rest` cuts off what they leave, field by field.
use Rattle.std.proofs.Common.{◌≡◌, length, subst, rules, arith}
use Rattle.policy.specs.Limits.{field_count}
use Rattle.covers.proofs.Laws.Sets.{none_left}
use Rattle.mesh.proofs.Laws.Blocks.{first_late, first_own, Cutting, cutting_end, cutting_on, cut_size, cutting_next}
use Rattle.mesh.proofs.blocks.Block.+least_rest.Goals as goal

pub least-returns-then-not-before : goal.least-returns-then-not-before
least-returns-then-not-before t c = first_late _ c.args.self.lo _ c.args.best (c.before-2.ensures.no c.if-not-before.true)

pub least-returns-then-boxes-eq0 : goal.least-returns-then-boxes-eq0
least-returns-then-boxes-eq0 t c =
    first_own _ c.args.self.lo c.args.self.hi c.args.best (c.has_cell.ensures.yes c.if-not-has_cell.false)
    (λ k m. none_left _ k c.if-boxes-eq0.true ((c.claiming-boxes.ensures k).1 m)) (c.before-2.ensures.yes c.if-not-before.false)

pub rest-least-found-requires : goal.rest-least-found-requires
rest-least-found-requires t c =
    let a = c.args in
    let l = c.loop-f in
    let g = c.in-Some.ensures in
    let long : length a.self.lo ≡ field_count = search rules in
    let h = cut_size a.sets.now a.self.lo a.self.hi a.best a.boxes l.hi l.found l.f c.in-Some.e long (λ e. omega arith) l.invariant g.0 in
    (omega arith, tt)

pub rest-loop-f-preserved : goal.rest-loop-f-preserved
rest-loop-f-preserved t c =
    let a = c.args in
    let l = c.loop-f in
    cutting_on a.sets.now a.self.lo a.self.hi a.best a.boxes l.hi l.found l.f (λ e. omega arith) l.invariant c.in_default.ensures

pub rest-loop-f-preserved-in-Some : goal.rest-loop-f-preserved-in-Some
rest-loop-f-preserved-in-Some t c =
    let a = c.args in
    let l = c.loop-f in
    let g = c.in-Some.ensures in
    let long : length a.self.lo ≡ field_count = search rules in
    cutting_next a.sets.now a.self.lo a.self.hi a.best a.boxes l.hi l.found l.f c.in-Some.e long (λ e. omega arith) l.invariant g.0
    c.least-found.result c.least-found.ensures

pub rest-returns : goal.rest-returns
rest-returns t c =
    let a = c.args in
    let l = c.loop-f in
    let e : l.f ≡ 0 = omega arith in
    cutting_end a.sets.now a.self.lo a.self.hi a.best a.boxes l.hi l.found c.ranges.boxes.fits c.requires.2
    (subst (Cutting a.sets.now a.self.lo a.self.hi a.best a.boxes l.hi l.found) e l.invariant)
