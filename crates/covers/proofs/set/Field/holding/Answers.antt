-- One box more, by the law of `HeldBefore`.
use Rattle.std.proofs.Common.{Bool, true, false, ◌+◌, ◌≡◌, ◌<◌, ◌≤◌, ◌^◌, ap, ◌∙◌, arith}
use Rattle.std.specs.Int.{from_bool}
use lib.Pow.{shl_exact}
use Rattle.policy.specs.Model.{Range}
use Rattle.policy.specs.Views.{value}
use Rattle.relations.specs.Ranges.{within}
use Rattle.covers.specs.Sets.{field_of}
use Rattle.covers.proofs.Laws.Sets.{left_all, left_next, held_start, held_next}
use Rattle.covers.proofs.set.Field.holding.Goals as goal

pub loop-j-init : goal.loop-j-init
loop-j-init c = rw c.into_iter-j-iterator.ensures.into_iter_gives (left_all c.args.set, held_start _ _ _)

small : (b : Bool) → from_bool b < 2 ^ 1
small true = omega arith
small false = omega arith

pub loop-j-preserved : goal.loop-j-preserved
loop-j-preserved c =
    let n = c.in-Some.ensures.steps in
    let field = c.args.self in
    let held : c.holds.result ≡ within (field_of field.bounds.now field.at.now field.f c.in-Some.j) (value c.args.v) =
    c.holds.ensures ∙ ap (λ (r : Range). within r (value c.args.v)) c.range.ensures in
    let s : 1 + c.in-Some.j ≤ 64 = let h = n.small in omega arith in (
      left_next _ _ _ _ c.loop-j.invariant.0 n,
      rw (c.from.ensures, shl_exact 1 c.in-Some.j 64 (small c.holds.result) s, held) (held_next _ _ _ _ _ _ _ c.loop-j.invariant.0 n c.loop-j.invariant.1),
    )
