-- `nth` meets its contract: one cut after another.
use Rattle.std.proofs.Common.{◌+◌, sym, ap, ◌∙◌, arith}
use Rattle.policy.specs.Model.{Range}
use Rattle.policy.specs.Views.{value, range_of}
use Rattle.relations.specs.Ranges.{Within}
use Rattle.covers.specs.Views.{next_of}
use Rattle.mesh.proofs.Laws.Filled.{at_first, at_next, cut_within, next_reached}
use Rattle.mesh.proofs.Mesh.nth.Goals as goal

pub loop-init : goal.loop-init
loop-init c = let a = at_first _ _ c.requires.0 in (a.0, a.1 ∙ sym (ap (λ (r : Range). r.low) c.range_at-r.ensures))

pub after-requires : goal.after-requires
after-requires c =
    let within : Within (range_of c.range_at-r.result) (value c.loop.v) =
    rw c.range_at-r.ensures (cut_within _ _ c.requires.0 c.loop.counter (value c.loop.v) c.loop.invariant) in
    (c.requires.0.field, within)

pub loop-preserved : goal.loop-preserved
loop-preserved c =
    let l = c.loop in
    rw c.unwrap_or-v.ensures
    (next_reached _ _ c.requires.0 (l.counter + 1) l.v c.after.result (omega arith)
    (at_next _ _ c.requires.0 l.counter (value l.v) (next_of c.after.result) l.invariant (rw c.range_at-r.ensures at c.after.ensures)))
