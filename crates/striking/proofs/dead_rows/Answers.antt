-- `dead_rows` meets its contract: the verdict that is stored at i is that of row i. Assumes nothing.
use borrow.Author.Rules.{rules}
use native.Mathlib.Omega.{arith}
use Rattle.std.proofs.Common.{false, refl, ◌∙◌}
use lib.ListN.{length-set}
use lib.Seq.{get_or-set_other}
use Rattle.policy.specs.Limits.{most_rows}
use Rattle.policy.specs.Views.{table_of}
use Rattle.base.proofs.Laws.Lists.{get_d_replicated, filled_more}
use Rattle.policy.proofs.Laws.Lists.{length_rows}
use Rattle.policy.proofs.Laws.Tables.{Sized}
use Rattle.verdicts.specs.Verdicts.{dead}
use Rattle.verdicts.proofs.Laws.Lent.{six, six_caps, row_asked, row_dead}
use Rattle.striking.proofs.dead_rows.Goals as goal

pub loop-i-init : goal.loop-i-init
loop-i-init c = record { long = refl; at = λ k h. absurd (omega arith); past = λ k h. get_d_replicated most_rows false k }

pub is_dead-requires : goal.is_dead-requires
is_dead-requires c =
    let e = six_caps c.args.t.now c.requires.0 c.requires.1 in
    row_asked c.args.t.now c.requires.0 c.requires.1 (search rules) c.loop-i.i c.loop-i-test.true

pub loop-i-preserved : goal.loop-i-preserved
loop-i-preserved c =
    let t = c.args.t.now in
    let e = six_caps t c.requires.0 c.requires.1 in
    let z : Sized (six t) = search rules in
    let h = c.loop-i-test.true in
    let n = c.requires.0.rows in
    let w = c.loop-i.invariant in
    let m = w.long in
    record {
      long = length-set c.loop-i.dead c.loop-i.i c.is_dead.result ∙ m;
      at = filled_more false (dead (table_of t)) c.loop-i.dead c.loop-i.i c.is_dead.result (omega arith) w.at
          (c.is_dead.ensures ∙ row_dead t c.requires.0 c.requires.1 z c.loop-i.i h);
      past = λ k b.
          get_or-set_other c.loop-i.dead c.loop-i.i k c.is_dead.result false (λ q. absurd (omega arith))
          ∙ w.past k (omega arith);
    }

pub returns : goal.returns
returns c =
    let t = c.args.t.now in
    let w = c.loop-i.invariant in
    let h = c.loop-i-test.false in
    let i = c.loop-i.auto.i-end in
    let n = length_rows t.heads t.bounds t.rows in
    record { at = λ k b. w.at k (omega arith); past = λ k b. w.past k (omega arith) }
