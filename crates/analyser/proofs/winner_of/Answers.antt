-- `winner_of` meets its contract: each refusal by its test, and the winner from what the table lends is the table's. Assumes nothing.
use borrow.Author.Rules.{rules}
use native.Mathlib.Omega.{arith}
use Prim.Native.Nat.{ℕ}
use mathlib.Core.Path.{sym, ap, ◌∙◌}
use Rattle.base.specs.Answers.{returned, refused_by}
use Rattle.policy.proofs.Laws.Tables.{Sized, length_mapped}
use Rattle.frames.specs.Views.{number_of}
use Rattle.frames.proofs.Laws.Refusals.{number_above_0}
use Rattle.calls.specs.Views.{refusal}
use Rattle.calls.proofs.Laws.Cases.{answer_passed}
use Rattle.calls.proofs.Laws.Texts.{accepted, row_taken, keep_broken, keep_kept}
use lib.Dec.{ltb}
use borrow.Author.Tests.{ltb-true, ltb-false}
use Rattle.policy.specs.Views.{table_of, packet_of, rows_in}
use Rattle.policy.specs.Wellformed.{IsEntity}
use Rattle.frames.specs.Refusals.{no_such_entity}
use Rattle.relations.specs.Groups.{winner_in}
use Rattle.relations.proofs.Laws.Tables.{lent_parents}
use Rattle.analyser.specs.Calls.{outcome_of}
use Rattle.analyser.proofs.Laws.Calls.{winner_away, winner_no_entity, winner_found}
use Rattle.analyser.proofs.Laws.Taken.{parents_own}
use Rattle.analyser.proofs.winner_of.Goals as goal

pub returns-in_err-t : goal.returns-in_err-t
returns-in_err-t c =
    answer_passed outcome_of c.from_residual.result c.in_err-t.field-0.0 c.from_residual.ensures.1 ∙ sym (winner_away _ _ _ _ _ c.in_err-t.ensures)

pub returns-in_err-keep : goal.returns-in_err-keep
returns-in_err-keep c =
    let z : Sized c.in_ok-t.t = search (length_mapped, rules) in
    let x = c.args in
    let there = row_taken x.k c.in_ok-t.ensures in
    let a = accepted x.text.now c.in_ok-t.t z there.0 in
    let q = c.in_err-keep.field-0.0 in
    let w = keep_broken (ltb x.p.source c.in_ok-t.t.entities) (number_of q) no_such_entity (number_above_0 q) c.in_err-keep.ensures in
    let n = a.counted.entities in
    answer_passed outcome_of c.from_residual-in_err-keep.result (refusal (number_of q) 0) c.from_residual-in_err-keep.ensures.1
    ∙ ap (λ (n : ℕ). refused_by n 0) w.1
    ∙ sym (winner_no_entity _ _ a.read x.k x.p.source x.p.destination _ there.1 (λ b. let m = ltb-false _ _ w.0 in let l = b.0 in omega arith))

pub returns-in_err-keep-2 : goal.returns-in_err-keep-2
returns-in_err-keep-2 c =
    let z : Sized c.in_ok-t.t = search (length_mapped, rules) in
    let x = c.args in
    let there = row_taken x.k c.in_ok-t.ensures in
    let a = accepted x.text.now c.in_ok-t.t z there.0 in
    let q = c.in_err-keep-2.field-0.0 in
    let w = keep_broken (ltb x.p.destination c.in_ok-t.t.entities) (number_of q) no_such_entity (number_above_0 q) c.in_err-keep-2.ensures in
    let n = a.counted.entities in
    answer_passed outcome_of c.from_residual-in_err-keep-2.result (refusal (number_of q) 0) c.from_residual-in_err-keep-2.ensures.1
    ∙ ap (λ (n : ℕ). refused_by n 0) w.1
    ∙ sym (winner_no_entity _ _ a.read x.k x.p.source x.p.destination _ there.1 (λ b. let m = ltb-false _ _ w.0 in let l = b.1 in omega arith))

pub winner-requires : goal.winner-requires
winner-requires c =
    let z : Sized c.in_ok-t.t = search (length_mapped, rules) in
    let x = c.args in
    let there = row_taken x.k c.in_ok-t.ensures in
    let a = accepted x.text.now c.in_ok-t.t z there.0 in
    let from : IsEntity (table_of c.in_ok-t.t) x.p.source =
    ltb-true _ _ (ap (ltb x.p.source) a.counted.entities ∙ keep_kept (ltb x.p.source c.in_ok-t.t.entities) no_such_entity (omega arith) c.in_ok-keep.ensures) in
    let to : IsEntity (table_of c.in_ok-t.t) x.p.destination =
    ltb-true _ _
    (ap (ltb x.p.destination) a.counted.entities ∙ keep_kept (ltb x.p.destination c.in_ok-t.t.entities) no_such_entity (omega arith) c.in_ok-keep-2.ensures) in
    let n = a.well.counts.few_entities in
    let m = a.well.counts.few_rows in
    let r = a.counted.rows in
    let h = there.1 in
    (record { parents = lent_parents c.in_ok-t.t z a.held a.well; source = omega arith; destination = omega arith }, omega arith, omega arith)

pub returns : goal.returns
returns c =
    let z : Sized c.in_ok-t.t = search (length_mapped, rules) in
    let x = c.args in
    let there = row_taken x.k c.in_ok-t.ensures in
    let a = accepted x.text.now c.in_ok-t.t z there.0 in
    let from : IsEntity (table_of c.in_ok-t.t) x.p.source =
    ltb-true _ _ (ap (ltb x.p.source) a.counted.entities ∙ keep_kept (ltb x.p.source c.in_ok-t.t.entities) no_such_entity (omega arith) c.in_ok-keep.ensures) in
    let to : IsEntity (table_of c.in_ok-t.t) x.p.destination =
    ltb-true _ _
    (ap (ltb x.p.destination) a.counted.entities ∙ keep_kept (ltb x.p.destination c.in_ok-t.t.entities) no_such_entity (omega arith) c.in_ok-keep-2.ensures) in
    let t = c.in_ok-t.t in
    ap (λ o. returned (outcome_of o))
    (c.winner.ensures
    ∙ ap (λ (up : ℕ → ℕ). winner_in up (rows_in t.heads t.bounds t.rows) x.k x.p.source x.p.destination (packet_of x.p.packet)) (parents_own a))
    ∙ sym (winner_found _ _ a.read _ _ _ _ there.1 from to)
