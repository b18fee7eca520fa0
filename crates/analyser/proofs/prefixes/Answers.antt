-- `prefixes` meets its contract: each refusal by its test, and the range of the side is that of the table's row. Assumes nothing.
use borrow.Author.Rules.{rules}
use borrow.Author.Tests.{leb-false}
use native.Mathlib.Omega.{arith}
use Prim.Native.Nat.{ℕ, ◌≤◌}
use mathlib.Core.Path.{◌≡◌, sym, ap, subst, ◌∙◌}
use Rattle.std.specs.Prelude.{Ok, Err}
use Rattle.base.specs.Answers.{refused_by}
use Rattle.base.specs.Outputs.{short}
use Rattle.policy.specs.Model.{Range}
use Rattle.policy.specs.Views.{range_of, selector_in}
use Rattle.policy.proofs.Laws.Tables.{Sized, length_mapped}
use Rattle.frames.specs.Refusals.{short_output}
use Rattle.frames.specs.declared.refusals.Refusal.{Refusal}
use Rattle.prefixes.specs.Bytes.{Puts}
use Rattle.prefixes.specs.Sides.{number_of, side_of}
use Rattle.prefixes.specs.declared.side.Side.{Side}
use Rattle.prefixes.specs.declared.side.Side.TheVariants.{Source, Destination}
use Rattle.calls.specs.Views.{refusal}
use Rattle.calls.proofs.Laws.Cases.{answer_passed}
use Rattle.calls.proofs.Laws.Texts.{accepted, row_taken}
use Rattle.analyser.proofs.Laws.Prefixes.{prefixes_away, prefixes_no_side, prefixes_writes}
use Rattle.analyser.proofs.Laws.Taken.{side_own, side_high}
use Rattle.analyser.proofs.prefixes.Goals as goal

side_few : {n : ℕ} (side : Side) → n ≡ number_of side → n ≤ 1
side_few Source e = omega arith
side_few Destination e = omega arith

pub returns-in_err-t : goal.returns-in_err-t
returns-in_err-t c =
    record {
      answers = answer_passed (λ (n : ℕ). n) c.from_residual.result c.in_err-t.field-0.0 c.from_residual.ensures.1 ∙ sym (prefixes_away _ _ _ _ c.in_err-t.ensures).0;
      writes = sym (prefixes_away _ _ _ _ c.in_err-t.ensures).1;
    }

pub returns-in_default : goal.returns-in_default
returns-in_default c =
    let z : Sized c.in_ok-t.t = search (length_mapped, rules) in
    let x = c.args in
    let there = row_taken x.k c.in_ok-t.ensures in
    let a = accepted x.text.now c.in_ok-t.t z there.0 in
    let away = prefixes_no_side _ _ a.read x.k x.side x.out.now there.1 (leb-false x.side 1 c.in_default.ensures) in
    record {
      answers = ap (λ (r : Refusal). refused_by r.number r.line) c.from.ensures ∙ sym away.0;
      writes = sym away.1;
    }

pub selector_at-requires : goal.selector_at-requires
selector_at-requires c =
    let z : Sized c.in_ok-t.t = search (length_mapped, rules) in
    let x = c.args in
    let there = row_taken x.k c.in_ok-t.ensures in
    let a = accepted x.text.now c.in_ok-t.t z there.0 in
    omega (arith, there.1, a.well.counts.few_rows)

pub put-requires : goal.put-requires
put-requires c =
    let z : Sized c.in_ok-t.t = search (length_mapped, rules) in
    let x = c.args in
    let there = row_taken x.k c.in_ok-t.ensures in
    let a = accepted x.text.now c.in_ok-t.t z there.0 in
    let side : x.side ≡ number_of c.in-Ok.of = c.in-Ok.ensures in
    let own : range_of c.addresses-range.result ≡ side_of x.side (selector_in c.in_ok-t.t.bounds x.k) =
    c.addresses-range.ensures ∙ (λ i. side_of (sym side i) (c.selector_at.ensures i)) in
    (side_high a x.k there.1 x.side c.addresses-range.result own (side_few c.in-Ok.of side), omega arith)

pub returns-in_err-n : goal.returns-in_err-n
returns-in_err-n c =
    let z : Sized c.in_ok-t.t = search (length_mapped, rules) in
    let x = c.args in
    let there = row_taken x.k c.in_ok-t.ensures in
    let a = accepted x.text.now c.in_ok-t.t z there.0 in
    let side : x.side ≡ number_of c.in-Ok.of = c.in-Ok.ensures in
    let own : range_of c.addresses-range.result ≡ side_of x.side (selector_in c.in_ok-t.t.bounds x.k) =
    c.addresses-range.ensures ∙ (λ i. side_of (sym side i) (c.selector_at.ensures i)) in
    let done = prefixes_writes _ _ a.read x.k x.side x.out.now there.1 (side_few c.in-Ok.of side) c.put.new.out (Err short)
    (subst (λ (r : Range). Puts 4 r x.out.now c.put.new.out (Err short)) (side_own a x.k there.1 x.side c.addresses-range.result own) c.in_err-n.ensures) in
    record {
      answers = answer_passed (λ (n : ℕ). n) c.from_residual-in_err-n.result (refusal short_output 0) c.from_residual-in_err-n.ensures.1 ∙ done.0;
      writes = done.1;
    }

pub returns : goal.returns
returns c =
    let z : Sized c.in_ok-t.t = search (length_mapped, rules) in
    let x = c.args in
    let there = row_taken x.k c.in_ok-t.ensures in
    let a = accepted x.text.now c.in_ok-t.t z there.0 in
    let side : x.side ≡ number_of c.in-Ok.of = c.in-Ok.ensures in
    let own : range_of c.addresses-range.result ≡ side_of x.side (selector_in c.in_ok-t.t.bounds x.k) =
    c.addresses-range.ensures ∙ (λ i. side_of (sym side i) (c.selector_at.ensures i)) in
    let done = prefixes_writes _ _ a.read x.k x.side x.out.now there.1 (side_few c.in-Ok.of side) c.put.new.out (Ok c.in_ok-n.n)
    (subst (λ (r : Range). Puts 4 r x.out.now c.put.new.out (Ok c.in_ok-n.n)) (side_own a x.k there.1 x.side c.addresses-range.result own) c.in_ok-n.ensures) in
    record {
      answers = done.0;
      writes = done.1;
    }
