-- `line` meets its contract: the table's counts give the place of the row's line. Assumes nothing.
use borrow.Author.Rules.{rules}
use native.Mathlib.Omega.{arith}
use mathlib.Core.Path.{refl, sym, ap, ◌∙◌}
use mathlib.Core.List.{[]}
use Rattle.policy.proofs.Laws.Tables.{Sized, length_mapped}
use Rattle.calls.proofs.Laws.Texts.{accepted, row_taken, row_refused}
use Rattle.reader.specs.States.{parse}
use Rattle.policy.specs.Views.{table_of}
use Rattle.analyser.specs.Calls.{line_part, line_in}
use Rattle.base.specs.Answers.{value_or}
use Rattle.calls.proofs.Laws.Texts.{row_answered}
use Rattle.analyser.proofs.line.Goals as goal

pub overflow_add-before : goal.overflow_add-before
overflow_add-before c =
    let z : Sized c.in-Ok.t = search (length_mapped, rules) in
    let r = row_taken c.args.k c.in-Ok.ensures in
    let a = accepted c.args.text.now c.in-Ok.t z r.0 in
    let h = a.held in
    omega (arith, c.lines_before-before.ensures, r.1, a.counted.rows, h.entities, h.capped, h.filters, h.rows)

pub returns-in-Ok : goal.returns-in-Ok
unfolding line_part
returns-in-Ok c =
    let z : Sized c.in-Ok.t = search (length_mapped, rules) in
    let x = c.args in
    let r = row_taken x.k c.in-Ok.ensures in
    let a = accepted x.text.now c.in-Ok.t z r.0 in
    c.nth_line.ensures
    ∙ sym
    (ap (value_or []) (row_answered (λ t i. line_in x.text.now i t) x.k (parse x.text.now) (table_of c.in-Ok.t) a.read r.1)
    ∙ rw (a.counted.entities, a.counted.caps, a.counted.filters, ← c.lines_before-before.ensures) refl)

pub returns-in-Err : goal.returns-in-Err
unfolding line_part
returns-in-Err c =
    let x = c.args in
    sym (ap (value_or []) (row_refused x.k (λ r. []) (λ r. line_in x.text.now x.k r.table) (parse x.text.now) c.in-Err.ensures))
