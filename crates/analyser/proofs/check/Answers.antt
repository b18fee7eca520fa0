-- `check` meets its contract: its counts are those of the table's lists. Assumes nothing.
use borrow.Author.Rules.{rules}
use mathlib.Core.Path.{refl, sym, ap, ◌∙◌}
use Rattle.policy.proofs.Laws.Tables.{Sized, length_mapped}
use Rattle.calls.proofs.Laws.Cases.{answer_passed}
use Rattle.calls.proofs.Laws.Texts.{text_refused, accepted}
use Rattle.analyser.specs.Calls.{check_of}
use Rattle.analyser.specs.Views.{table_counts}
use Rattle.analyser.proofs.Laws.Refused.{check_refused_text, check_accepted}
use Rattle.analyser.proofs.check.Goals as goal

pub returns-in_err-t : goal.returns-in_err-t
returns-in_err-t c =
    answer_passed table_counts c.from_residual.result c.in_err-t.field-0.0 c.from_residual.ensures.1
    ∙ sym (ap check_of (text_refused c.in_err-t.ensures) ∙ check_refused_text _ _)

pub returns : goal.returns
returns c =
    let z : Sized c.in_ok-t.t = search (length_mapped, rules) in
    let a = accepted c.args.text.now c.in_ok-t.t z c.in_ok-t.ensures in
    rw (a.read, check_accepted) (rw (a.counted.entities, a.counted.filters, a.counted.rows) refl)
