-- `judged` meets its contract: an accepted table is well-formed, so that the mesh from what it lends is that of its row. Assumes nothing.
use borrow.Author.Rules.{rules}
use native.Mathlib.Omega.{arith}
use Prim.Native.Nat.{◌<◌}
use mathlib.Core.Path.{sym, ap, ◌∙◌}
use mathlib.Core.List.{[]}
use Rattle.base.specs.Answers.{returned}
use Rattle.policy.proofs.Laws.Tables.{Sized, length_mapped}
use Rattle.covers.specs.Views.{result_of}
use Rattle.covers.proofs.Laws.Tables.{lent_asked}
use Rattle.mesh.specs.Verdicts.{mesh_on}
use Rattle.mesh.proofs.Laws.Tables.{lent_mesh, lent_ordered}
use Rattle.calls.proofs.Laws.Cases.{answer_passed}
use Rattle.calls.proofs.Laws.Texts.{accepted, row_taken, row_refused}
use Rattle.mesh_call.proofs.Laws.Calls.{mesh_verdict, mesh_on_row}
use Rattle.mesh_call.proofs.judged.Goals as goal

pub returns-in_err-t : goal.returns-in_err-t
returns-in_err-t c =
    let x = c.args in
    answer_passed result_of c.from_residual.result c.in_err-t.field-0.0 c.from_residual.ensures.1
    ∙ sym (mesh_on_row _ x.k ∙ row_refused x.k (λ r. []) (λ r. mesh_on r.table x.k) _ c.in_err-t.ensures)

pub judge-requires : goal.judge-requires
judge-requires c =
    let z : Sized c.in_ok-t.t = search (length_mapped, rules) in
    let r = row_taken c.args.k c.in_ok-t.ensures in
    let a = accepted c.args.text.now c.in_ok-t.t z r.0 in
    let h : c.args.k < c.in_ok-t.t.rows = omega (arith, r.1, a.counted.rows) in
    (lent_asked _ z a.held a.well _ h, lent_ordered c.in_ok-t.t a.well _ h)

pub returns : goal.returns
returns c =
    let z : Sized c.in_ok-t.t = search (length_mapped, rules) in
    let r = row_taken c.args.k c.in_ok-t.ensures in
    let a = accepted c.args.text.now c.in_ok-t.t z r.0 in
    let h : c.args.k < c.in_ok-t.t.rows = omega (arith, r.1, a.counted.rows) in
    ap returned (c.judge.ensures ∙ lent_mesh c.in_ok-t.t z a.held _ h) ∙ sym (mesh_verdict _ _ a.read _ r.1)
