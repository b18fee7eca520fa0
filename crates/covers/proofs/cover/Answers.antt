-- `cover` meets its contract: the row that is taken or passed over at j is row j. Assumes nothing.
use native.Mathlib.Omega.{arith}
use Rattle.std.proofs.Common.{◌≡◌}
use mathlib.Core.Path.{ap, ◌∙◌}
use Rattle.policy.specs.Model.{Row}
use Rattle.policy.specs.Views.{parent_in, row_of, row_in}
use Rattle.base.specs.Truths.{bit}
use Rattle.base.proofs.Laws.Passing.{keeping_more, keeping_all}
use Rattle.covers.specs.Covers.{covers}
use Rattle.covers.proofs.Laws.Covers.{cover_next, cover_end}
use Rattle.covers.proofs.cover.Goals as goal

pub loop-j-preserved : goal.loop-j-preserved
loop-j-preserved c =
    let t = c.args.t.now in
    let h = c.loop-j-test.true in
    let m = c.requires.row in
    let tested : c.bit-n.result ≡ bit (covers (parent_in t.parents) (row_in t.heads t.bounds c.args.i) (row_in t.heads t.bounds c.loop-j.j)) =
    c.bit-n.ensures
    ∙ ap bit
    (c.covers.ensures
    ∙ ap (λ (x : Row). covers (parent_in t.parents) x (row_of c.row.result)) c.row-r.ensures
    ∙ ap (covers (parent_in t.parents) (row_in t.heads t.bounds c.args.i)) c.row.ensures) in
    keeping_more _ _ _ _ c.loop-j.invariant c.loop-j.j (omega arith) (omega arith) _
    (covers (parent_in t.parents) (row_in t.heads t.bounds c.args.i) (row_in t.heads t.bounds c.loop-j.j))
    (cover_next t.parents t.heads t.bounds _ _ h) _ tested

pub returns : goal.returns
returns c =
    let t = c.args.t.now in
    let w = c.loop-j.invariant in
    let m = c.requires.row in
    record {
      numbers = record { long = w.long; few = omega (arith, w.few); within = w.within };
      same = keeping_all _ _ _ _ w (cover_end t.parents t.heads t.bounds _ _ c.loop-j-test.false);
    }
