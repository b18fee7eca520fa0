-- One box more, by the law of `ReachesBefore`.
use Rattle.std.proofs.Common.{◌≡◌, ap, ◌∙◌, min}
use Rattle.policy.specs.Model.{Range}
use Rattle.policy.specs.Views.{value}
use Rattle.search.specs.Covers.{high_of}
use Rattle.covers.proofs.Laws.Sets.{left_next}
use Rattle.search.proofs.Laws.Reach.{reaches_next}
use Rattle.search.proofs.reach.following.Goals as goal

pub loop-j-preserved : goal.loop-j-preserved
loop-j-preserved c =
    let i = c.loop-j.invariant in
    let n = c.in-Some.ensures.steps in
    let field = c.args.field in
    let m : value c.lesser-m.result ≡ min (high_of field.bounds.now field.at.now field.f c.in-Some.j) (value c.loop-j.m) =
    c.lesser-m.ensures ∙ ap (λ (r : Range). min r.high (value c.loop-j.m)) c.range.ensures in
    (left_next _ _ _ _ i.0 n, rw m (reaches_next _ _ _ _ _ i.0 n _ _ i.1))
