-- `after` meets its contract: the next cut by the first boxes, one box more at a time.
use Rattle.std.proofs.Common.{arith}
use Rattle.policy.specs.Views.{value, range_of}
use Rattle.covers.specs.Views.{next_of}
use Rattle.mesh.proofs.Laws.Nearest.{nearest_both, nearest_all}
use Rattle.mesh.proofs.Mesh.after.Goals as goal

pub loop-i-preserved : goal.loop-i-preserved
loop-i-preserved c =
    let a = c.args in
    let l = c.loop-i in
    nearest_both a.self.now a.f (range_of a.r) (value a.v) c.requires.1 l.i-index (range_of c.range_at-q.result) c.loop-i-test.true c.range_at-q.ensures
    (next_of l.next) (next_of c.with_cut.result) (next_of c.with_high-next.result) c.with_cut.ensures c.with_high-next.ensures l.invariant

pub returns : goal.returns
returns c =
    let a = c.args in
    let l = c.loop-i in
    nearest_all a.self.now a.f (range_of a.r) (value a.v) c.requires.1 l.i-index (next_of l.next) (omega arith) l.invariant
