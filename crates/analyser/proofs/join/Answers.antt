-- `join` meets its contract: each refusal by its test, and the row that is joined from what the table lends is the table's. Assumes nothing.
use borrow.Author.Rules.{rules}
use native.Mathlib.Omega.{arith}
use Prim.Native.Nat.{ℕ, ◌<◌}
use mathlib.Core.Path.{◌≡◌, sym, ap, subst, ◌∙◌}
use mathlib.Core.List.{List}
use lib.ListN.{length}
use Rattle.std.specs.Prelude.{Ok, Err}
use Rattle.base.specs.Answers.{refused_by}
use Rattle.base.specs.Outputs.{short}
use Rattle.policy.proofs.Laws.Tables.{Sized, length_mapped}
use Rattle.frames.specs.Refusals.{short_output}
use Rattle.frames.specs.Views.{number_of}
use Rattle.frames.proofs.Laws.Refusals.{number_above_0}
use Rattle.calls.specs.Views.{refusal}
use Rattle.calls.proofs.Laws.Cases.{answer_passed}
use Rattle.calls.proofs.Laws.Texts.{accepted, row_taken, keep_broken, keep_kept}
use lib.Dec.{ltb}
use borrow.Author.Tests.{ltb-true, ltb-false}
use Rattle.base.specs.Truths.{Decides}
use Rattle.base.specs.Outputs.{Writes}
use Rattle.policy.specs.Model.{row_at, parent_of}
use Rattle.policy.specs.Views.{table_of, row_of}
use Rattle.frames.specs.Refusals.{no_such_row}
use Rattle.frames.specs.Parts.{box_widths}
use Rattle.frames.specs.Rows.{line_of_row}
use Rattle.joining.specs.Joining.{Joinable, joinable, joined}
use Rattle.joining.proofs.Laws.Joining.{joinable_decides}
use Rattle.analyser.specs.Calls.{joined_line}
use Rattle.analyser.proofs.Laws.Joins.{join_away, join_no_row, join_differ, join_writes}
use Rattle.analyser.proofs.Laws.Taken.{row_own, row_ends, parents_own}
use Rattle.analyser.proofs.join.Goals as goal

pub returns-in_err-t : goal.returns-in_err-t
returns-in_err-t c =
    record {
      answers = answer_passed (λ (n : ℕ). n) c.from_residual.result c.in_err-t.field-0.0 c.from_residual.ensures.1 ∙ sym (join_away _ _ _ _ c.in_err-t.ensures).0;
      writes = sym (join_away _ _ _ _ c.in_err-t.ensures).1;
    }

pub returns-in_err-keep : goal.returns-in_err-keep
returns-in_err-keep c =
    let z : Sized c.in_ok-t.t = search (length_mapped, rules) in
    let x = c.args in
    let there = row_taken x.i c.in_ok-t.ensures in
    let a = accepted x.text.now c.in_ok-t.t z there.0 in
    let q = c.in_err-keep.field-0.0 in
    let w = keep_broken (ltb x.j c.in_ok-t.t.rows) (number_of q) no_such_row (number_above_0 q) c.in_err-keep.ensures in
    let n = a.counted.rows in
    record {
      answers = answer_passed (λ (n : ℕ). n) c.from_residual-in_err-keep.result (refusal (number_of q) 0) c.from_residual-in_err-keep.ensures.1
          ∙ ap (λ (n : ℕ). refused_by n 0) w.1
          ∙ sym (join_no_row _ _ a.read x.i x.j _ (λ b. let m = ltb-false _ _ w.0 in let l = b.1 in omega arith)).0;
      writes = sym (join_no_row _ _ a.read x.i x.j _ (λ b. let m = ltb-false _ _ w.0 in let l = b.1 in omega arith)).1;
    }

pub row-a-requires : goal.row-a-requires
row-a-requires c =
    let z : Sized c.in_ok-t.t = search (length_mapped, rules) in
    let x = c.args in
    let there = row_taken x.i c.in_ok-t.ensures in
    let a = accepted x.text.now c.in_ok-t.t z there.0 in
    omega (arith, there.1, a.well.counts.few_rows)

pub joinable-requires : goal.joinable-requires
joinable-requires c =
    let z : Sized c.in_ok-t.t = search (length_mapped, rules) in
    let x = c.args in
    let there = row_taken x.i c.in_ok-t.ensures in
    let a = accepted x.text.now c.in_ok-t.t z there.0 in
    let second : x.j < length (table_of c.in_ok-t.t).rows =
    ltb-true _ _ (ap (ltb x.j) a.counted.rows ∙ keep_kept (ltb x.j c.in_ok-t.t.rows) no_such_row (omega arith) c.in_ok-keep.ensures) in
    (row_ends a x.i there.1 c.row-a.result c.row-a.ensures, row_ends a x.j second c.row-b.result c.row-b.ensures)

pub joined-joined-requires : goal.joined-joined-requires
joined-joined-requires c =
    let z : Sized c.in_ok-t.t = search (length_mapped, rules) in
    let x = c.args in
    let there = row_taken x.i c.in_ok-t.ensures in
    let a = accepted x.text.now c.in_ok-t.t z there.0 in
    let second : x.j < length (table_of c.in_ok-t.t).rows =
    ltb-true _ _ (ap (ltb x.j) a.counted.rows ∙ keep_kept (ltb x.j c.in_ok-t.t.rows) no_such_row (omega arith) c.in_ok-keep.ensures) in
    (row_ends a x.i there.1 c.row-a.result c.row-a.ensures, row_ends a x.j second c.row-b.result c.row-b.ensures)

pub returns-in_err-keep-2 : goal.returns-in_err-keep-2
returns-in_err-keep-2 c =
    let z : Sized c.in_ok-t.t = search (length_mapped, rules) in
    let x = c.args in
    let there = row_taken x.i c.in_ok-t.ensures in
    let a = accepted x.text.now c.in_ok-t.t z there.0 in
    let second : x.j < length (table_of c.in_ok-t.t).rows =
    ltb-true _ _ (ap (ltb x.j) a.counted.rows ∙ keep_kept (ltb x.j c.in_ok-t.t.rows) no_such_row (omega arith) c.in_ok-keep.ensures) in
    let one = row_own a x.i there.1 c.row-a.result c.row-a.ensures in
    let two = row_own a x.j second c.row-b.result c.row-b.ensures in
    let up = parents_own a in
    let tested : Decides c.joinable.result (Joinable (parent_of (table_of c.in_ok-t.t)) (row_at (table_of c.in_ok-t.t) x.i) (row_at (table_of c.in_ok-t.t) x.j)) =
    subst (λ b. Decides b (Joinable (parent_of (table_of c.in_ok-t.t)) (row_at (table_of c.in_ok-t.t) x.i) (row_at (table_of c.in_ok-t.t) x.j)))
    (sym (c.joinable.ensures ∙ (λ k. joinable (up k) (one k) (two k)))) (joinable_decides _ _ _) in
    let q = c.in_err-keep-2.field-0.0 in
    let w = keep_broken c.joinable.result (number_of q) 11 (number_above_0 q) c.in_err-keep-2.ensures in
    record {
      answers = answer_passed (λ (n : ℕ). n) c.from_residual-in_err-keep-2.result (refusal (number_of q) 0) c.from_residual-in_err-keep-2.ensures.1
          ∙ ap (λ (n : ℕ). refused_by n 0) w.1
          ∙ sym (join_differ _ _ a.read x.i x.j _ there.1 second (tested.no w.0)).0;
      writes = sym (join_differ _ _ a.read x.i x.j _ there.1 second (tested.no w.0)).1;
    }

pub returns-in_err-n : goal.returns-in_err-n
returns-in_err-n c =
    let z : Sized c.in_ok-t.t = search (length_mapped, rules) in
    let x = c.args in
    let there = row_taken x.i c.in_ok-t.ensures in
    let a = accepted x.text.now c.in_ok-t.t z there.0 in
    let second : x.j < length (table_of c.in_ok-t.t).rows =
    ltb-true _ _ (ap (ltb x.j) a.counted.rows ∙ keep_kept (ltb x.j c.in_ok-t.t.rows) no_such_row (omega arith) c.in_ok-keep.ensures) in
    let one = row_own a x.i there.1 c.row-a.result c.row-a.ensures in
    let two = row_own a x.j second c.row-b.result c.row-b.ensures in
    let up = parents_own a in
    let tested : Decides c.joinable.result (Joinable (parent_of (table_of c.in_ok-t.t)) (row_at (table_of c.in_ok-t.t) x.i) (row_at (table_of c.in_ok-t.t) x.j)) =
    subst (λ b. Decides b (Joinable (parent_of (table_of c.in_ok-t.t)) (row_at (table_of c.in_ok-t.t) x.i) (row_at (table_of c.in_ok-t.t) x.j)))
    (sym (c.joinable.ensures ∙ (λ k. joinable (up k) (one k) (two k)))) (joinable_decides _ _ _) in
    let line : line_of_row 5 box_widths (row_of c.joined-joined.result) ≡ joined_line x.i x.j (table_of c.in_ok-t.t) =
    ap (line_of_row 5 box_widths) (c.joined-joined.ensures ∙ (λ k. joined (up k) (one k) (two k))) in
    let fit = tested.yes (keep_kept c.joinable.result 11 (omega arith) c.in_ok-keep-2.ensures) in
    let done = join_writes _ _ a.read x.i x.j _ there.1 second fit c.put_line.new.out (Err short)
    (subst (λ (l : List ℕ). Writes l x.out.now c.put_line.new.out (Err short)) line c.in_err-n.ensures) in
    record {
      answers = answer_passed (λ (n : ℕ). n) c.from_residual-in_err-n.result (refusal short_output 0) c.from_residual-in_err-n.ensures.1 ∙ done.0;
      writes = done.1;
    }

pub returns : goal.returns
returns c =
    let z : Sized c.in_ok-t.t = search (length_mapped, rules) in
    let x = c.args in
    let there = row_taken x.i c.in_ok-t.ensures in
    let a = accepted x.text.now c.in_ok-t.t z there.0 in
    let second : x.j < length (table_of c.in_ok-t.t).rows =
    ltb-true _ _ (ap (ltb x.j) a.counted.rows ∙ keep_kept (ltb x.j c.in_ok-t.t.rows) no_such_row (omega arith) c.in_ok-keep.ensures) in
    let one = row_own a x.i there.1 c.row-a.result c.row-a.ensures in
    let two = row_own a x.j second c.row-b.result c.row-b.ensures in
    let up = parents_own a in
    let tested : Decides c.joinable.result (Joinable (parent_of (table_of c.in_ok-t.t)) (row_at (table_of c.in_ok-t.t) x.i) (row_at (table_of c.in_ok-t.t) x.j)) =
    subst (λ b. Decides b (Joinable (parent_of (table_of c.in_ok-t.t)) (row_at (table_of c.in_ok-t.t) x.i) (row_at (table_of c.in_ok-t.t) x.j)))
    (sym (c.joinable.ensures ∙ (λ k. joinable (up k) (one k) (two k)))) (joinable_decides _ _ _) in
    let line : line_of_row 5 box_widths (row_of c.joined-joined.result) ≡ joined_line x.i x.j (table_of c.in_ok-t.t) =
    ap (line_of_row 5 box_widths) (c.joined-joined.ensures ∙ (λ k. joined (up k) (one k) (two k))) in
    let fit = tested.yes (keep_kept c.joinable.result 11 (omega arith) c.in_ok-keep-2.ensures) in
    let done = join_writes _ _ a.read x.i x.j _ there.1 second fit c.put_line.new.out (Ok c.in_ok-n.n)
    (subst (λ (l : List ℕ). Writes l x.out.now c.put_line.new.out (Ok c.in_ok-n.n)) line c.in_ok-n.ensures) in
    record {
      answers = done.0;
      writes = done.1;
    }
