-- What each call's contract says of its answer, x being what reading the text gives. What that comes to, case by case, is promised
-- (crates/promises).
-- Assumes nothing.
use Rattle.std.specs.Prelude.{ℕ, ◌≡◌, ◌↔◌, List, Result, Option}
use Rattle.base.specs.Answers.{Answer}
use Rattle.policy.specs.Views.{packet_of}
use Rattle.relations.specs.declared.group.Probe.{Probe}
use Rattle.frames.specs.declared.refusals.Refusal.{Refusal}
use Rattle.reader.specs.States.{Parsed}
use Rattle.calls.specs.Views.{witness_answer}
use Rattle.calls.specs.declared.Witness.{Witness}
use Rattle.analyser.specs.Calls.{check_of, witness_of, winner_of, list_of, strike_of, join_of, prefixes_of}
use Rattle.analyser.specs.Views.{check_answer, winner_answer, count_answer}
use Rattle.analyser.specs.declared.Counts.{Counts}

abbrev pub CheckAnswers : Answer Parsed → Result Counts Refusal → Type 0
CheckAnswers x r = check_answer r ≡ check_of x

abbrev pub WitnessAnswers : Answer Parsed → ℕ → Witness → Type 0
WitnessAnswers x k r = witness_answer r ≡ witness_of x k

abbrev pub WinnerAnswers : Answer Parsed → ℕ → Probe → Result (Option ℕ) Refusal → Type 0
WinnerAnswers x k p r = winner_answer r ≡ winner_of x k p.source p.destination (packet_of p.packet)

abbrev pub ListAnswers : Answer Parsed → List ℕ → Result ℕ Refusal → Type 0
ListAnswers x out r = count_answer r ≡ list_of x out

abbrev pub StrikeAnswers : List ℕ → Answer Parsed → List ℕ → Result ℕ Refusal → Type 0
StrikeAnswers text x out r = count_answer r ≡ strike_of text x out

abbrev pub JoinAnswers : Answer Parsed → (i j : ℕ) → List ℕ → Result ℕ Refusal → Type 0
JoinAnswers x i j out r = count_answer r ≡ join_of x i j out

abbrev pub PrefixesAnswers : Answer Parsed → (k side : ℕ) → List ℕ → Result ℕ Refusal → Type 0
PrefixesAnswers x k side out r = count_answer r ≡ prefixes_of x k side out

-- ---- what is said of answers

module _ {A : Type 0} where
  -- The contract admits this answer and no other.
  abbrev pub Only : (A → Type 0) → A → Type 0
  Only Admits a = (r : A) → Admits r ↔ (r ≡ a)

  -- Two contracts admit the same answers.
  abbrev pub SameAnswers : (A → Type 0) → (A → Type 0) → Type 0
  SameAnswers P Q = (r : A) → P r ↔ Q r
