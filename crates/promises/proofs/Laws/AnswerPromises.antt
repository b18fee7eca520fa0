-- Demand 1 holds of the calls, for every text: each answer is one case of its enum.
-- Assumes nothing.
use Prim.Native.Nat.{ℕ}
use native.Mathlib.Omega.{arith}
use mathlib.Core.Path.{◌≡◌, refl, sym, ◌∙◌}
use mathlib.Core.List.{List}
use lib.ListN.{length}
use Rattle.std.specs.Prelude.{Ok, Err}
use Rattle.base.specs.Answers.{Answer, returned, refused_by}
use Rattle.policy.specs.Wellformed.{Wellformed}
use Rattle.policy.specs.Views.{packet_of}
use Rattle.relations.proofs.Laws.Tables.{table_tree}
use Rattle.reader.specs.States.{Parsed}
use Rattle.kinds.specs.Entries.{entries}
use Rattle.covers.specs.Least.{SearchResult}
use Rattle.listing.proofs.Laws.Puts.{length_bytes}
use Rattle.calls.specs.declared.Witness.TheVariants.{Refused as WitnessRefused}
use Rattle.calls.specs.Views.{refusal, witness_answer}
use Rattle.calls.proofs.Laws.Cases.{answer_refused, witness_refused}
use Rattle.mesh_call.proofs.Laws.Calls.{mesh_refused_text, mesh_missing}
use Rattle.analyser.specs.Calls.{RowOrNobody, outcome_of}
use Rattle.analyser.specs.Views.{table_counts, check_answer, winner_answer, count_answer}
use Rattle.analyser.specs.CallAnswers.{Only, SameAnswers}
use Rattle.analyser.proofs.Laws.Calls.{winner_no_row, winner_no_entity}
use Rattle.analyser.proofs.Laws.Cases.{only, check_counts, count_told}
use Rattle.analyser.proofs.Laws.Refused.{check_refused_text, line_refused_text, witness_refused_text, winner_refused_text, list_refused_text}
use Rattle.analyser.proofs.Laws.Refused.{strike_refused_text, join_refused_text, prefixes_refused_text, check_accepted, line_missing, witness_missing}
use Rattle.analyser.proofs.Laws.Outputs.{list_short, strike_short}
use Rattle.promises.specs.AnswerPromises.{RefusedText, AcceptedText, PacketFields}

-- ---- a call whose answer is known admits one case alone

module _ {number line : ℕ} where
  pub refused_witness : {x : Answer SearchResult} → x ≡ refused_by number line → Only (λ r. witness_answer r ≡ x) (WitnessRefused number line)
  refused_witness e = only witness_answer (WitnessRefused number line) e refl (witness_refused number line)

  pub refused_winner : {x : Answer RowOrNobody} → x ≡ refused_by number line → Only (λ r. winner_answer r ≡ x) (Err (refusal number line))
  refused_winner e = only winner_answer (Err (refusal number line)) e refl (answer_refused outcome_of number line)

  -- and, of one that writes, the output is known too
  pub refused_count : {x : Answer ℕ} {after out : List ℕ} → (x ≡ refused_by number line) × (after ≡ out)
      → Only (λ r. count_answer r ≡ x) (Err (refusal number line)) × (after ≡ out)
  refused_count e = (only count_answer (Err (refusal number line)) e.0 refl (answer_refused (λ (m : ℕ). m) number line), e.1)

pub told_count : {n : ℕ} {x : Answer ℕ} {after out : List ℕ} → (x ≡ returned n) × (after ≡ out) → Only (λ r. count_answer r ≡ x) (Ok n) × (after ≡ out)
told_count {n} e = (only count_answer (Ok n) e.0 refl (count_told n), e.1)

-- ---- calls with one answer admit the same

pub same_answers : {A B : Type 0} (view : A → Answer B) {x y : Answer B} → x ≡ y → SameAnswers (λ r. view r ≡ x) (λ r. view r ≡ y)
same_answers view e r = (λ a. a ∙ e, λ a. a ∙ sym e)

-- ---- refused and accepted texts

pub refused_text : (number at : ℕ) → RefusedText number at
refused_text number at =
    record {
      every = λ conditions value. refl;
      check = only check_answer (Err (refusal number at)) (check_refused_text number at) refl (answer_refused table_counts number at);
      line = line_refused_text number at;
      witness = λ k. refused_witness (witness_refused_text number at k);
      mesh = λ k. refused_witness (mesh_refused_text number at k);
      winner = λ k p. refused_winner (winner_refused_text number at k p.source p.destination (packet_of p.packet));
      list = λ out. refused_count (list_refused_text number at out);
      strike = λ text out. refused_count (strike_refused_text number at text out);
      join = λ i j out. refused_count (join_refused_text number at i j out);
      prefixes = λ k side out. refused_count (prefixes_refused_text number at k side out);
    }

pub accepted_text : (r : Parsed) → Wellformed r.table → AcceptedText r
accepted_text r well =
    let t = r.table in
    let n = length t.entities in
    let m = length t.filters in
    let k = length t.rows in
    record {
      check = only check_answer (Ok (record { entities = n; filters = m; rows = k })) (check_accepted r) refl (check_counts (record { entities = n; filters = m; rows = k }));
      parents = table_tree t well;
      no_row = λ k h. (
        line_missing r k h,
        refused_witness (witness_missing r k h),
        refused_witness (mesh_missing r k h),
        λ p. refused_winner (winner_no_row (returned r) t refl k p.source p.destination (packet_of p.packet) h),
      );
      no_entity = λ k p h n. refused_winner (winner_no_entity (returned r) t refl k p.source p.destination (packet_of p.packet) h n);
      short_list = λ out h.
          refused_count (list_short (returned r) out t refl (omega (arith, length_bytes (entries t))));
      short_strike = λ text out h. refused_count (strike_short text (returned r) out t refl h);
    }

pub packet_fields : PacketFields
packet_fields p = refl
