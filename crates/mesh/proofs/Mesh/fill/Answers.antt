-- `fill` meets its contract: the sets of the first n intervals are written, one cut after another.
use Rattle.std.proofs.Common.{ap, arith}
use Rattle.policy.specs.Model.{Range}
use Rattle.policy.specs.Views.{value}
use Rattle.covers.specs.Views.{next_of}
use Rattle.mesh.proofs.Laws.Filled.{cut_within, filling_start, filling_room, filling_next, all_numbered}
use Rattle.mesh.proofs.Mesh.fill.Goals as goal

pub loop-next-init : goal.loop-next-init
loop-next-init c = filling_start _ _ c.requires _ _ c.told-sets (ap (λ (q : Range). q.low) c.range_at-r.ensures)

pub holding-requires : goal.holding-requires
holding-requires c = (c.requires.field, rw c.first-all.ensures (all_numbered _ _ c.requires))

pub offset_bounds-sets-n : goal.offset_bounds-sets-n
offset_bounds-sets-n c =
    let h = filling_room _ _ c.requires _ _ _ _ (rw c.in-Some.is at c.loop-next.invariant) in
    omega arith

pub bounds-sets-n : goal.bounds-sets-n
bounds-sets-n c = filling_room _ _ c.requires _ _ _ _ (rw c.in-Some.is at c.loop-next.invariant)

pub after-next-requires : goal.after-next-requires
after-next-requires c =
    let h = rw c.in-Some.is at c.loop-next.invariant in
    (c.requires.field, rw c.range_at-r.ensures (cut_within _ _ c.requires _ _ h.reached))

pub overflow_add-n : goal.overflow_add-n
overflow_add-n c =
    let h = filling_room _ _ c.requires _ _ _ _ (rw c.in-Some.is at c.loop-next.invariant) in
    omega arith

pub loop-next-preserved : goal.loop-next-preserved
loop-next-preserved c =
    filling_next _ _ c.requires _ _ _ (value c.in-Some.v) _ (next_of c.after-next.result) (rw c.in-Some.is at c.loop-next.invariant)
    (rw c.first-all.ensures at c.holding.ensures) (rw c.range_at-r.ensures at c.after-next.ensures)
