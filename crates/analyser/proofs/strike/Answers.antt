-- `strike` meets its contract: an accepted table is well-formed, and what it gives is written. Assumes nothing.
use borrow.Author.Rules.{rules}
use Prim.Native.Nat.{ℕ}
use mathlib.Core.Path.{sym, ap, ◌∙◌}
use Rattle.std.specs.Prelude.{Ok, Err}
use Rattle.base.specs.Outputs.{short}
use Rattle.policy.proofs.Laws.Tables.{Sized, length_mapped}
use Rattle.calls.specs.Views.{refusal}
use Rattle.calls.proofs.Laws.Cases.{answer_passed}
use Rattle.calls.proofs.Laws.Texts.{text_refused, accepted}
use Rattle.frames.specs.Refusals.{short_output}
use Rattle.analyser.specs.Calls.{strike_of, strike_written}
use Rattle.analyser.proofs.Laws.Outputs.{strike_writes}
use Rattle.analyser.proofs.Laws.Refused.{strike_refused_text}
use Rattle.analyser.proofs.strike.Goals as goal

pub returns-in_err-t : goal.returns-in_err-t
returns-in_err-t c =
    record {
      answers = answer_passed (λ (n : ℕ). n) c.from_residual.result c.in_err-t.field-0.0 c.from_residual.ensures.1
          ∙ sym (ap (λ x. strike_of c.args.text.now x c.args.out.now) (text_refused c.in_err-t.ensures) ∙ (strike_refused_text _ _ _ _).0);
      writes = sym (ap (λ x. strike_written c.args.text.now x c.args.out.now) (text_refused c.in_err-t.ensures) ∙ (strike_refused_text _ _ _ _).1);
    }

pub returns-in_err-n : goal.returns-in_err-n
returns-in_err-n c =
    let z : Sized c.in_ok-t.t = search (length_mapped, rules) in
    let a = accepted c.args.text.now c.in_ok-t.t z c.in_ok-t.ensures in
    record {
      answers = answer_passed (λ (n : ℕ). n) c.from_residual-in_err-n.result (refusal short_output 0) c.from_residual-in_err-n.ensures.1
          ∙ (strike_writes _ _ _ _ a.read _ (Err short) c.in_err-n.ensures).0;
      writes = (strike_writes _ _ _ _ a.read _ (Err short) c.in_err-n.ensures).1;
    }

pub returns : goal.returns
returns c =
    let z : Sized c.in_ok-t.t = search (length_mapped, rules) in
    let a = accepted c.args.text.now c.in_ok-t.t z c.in_ok-t.ensures in
    record {
      answers = (strike_writes _ _ _ _ a.read _ (Ok c.in_ok-n.n) c.in_ok-n.ensures).0;
      writes = (strike_writes _ _ _ _ a.read _ (Ok c.in_ok-n.n) c.in_ok-n.ensures).1;
    }
