-- The cases of the results that the calls answer: each answer is of one case. (Refusals are in `calls`.)
-- Assumes nothing.
use Prim.Native.Nat.{ℕ}
use native.Mathlib.Omega.{arith}
use mathlib.Core.Path.{◌≡◌, sym, ap, ◌∙◌}
use Rattle.std.specs.Prelude.{Option, Some, None, Result, Ok}
use Rattle.base.specs.Answers.{Answer, returned}
use Rattle.frames.specs.declared.refusals.Refusal.{Refusal}
use Rattle.calls.proofs.Laws.Cases.{answer_told}
use Rattle.analyser.specs.Calls.{winning_row, nobody_wins, outcome_of}
use Rattle.analyser.specs.Views.{table_counts, check_answer, winner_answer, count_answer}
use Rattle.analyser.specs.CallAnswers.{Only}
use Rattle.analyser.specs.declared.Counts.{Counts}

-- A call's answer is x, and only the case a says x: then the contract admits a alone.
pub only : {A B : Type 0} (view : A → Answer B) (a : A) {x y : Answer B} → x ≡ y → view a ≡ y → ((r : A) → view r ≡ y → r ≡ a)
    → Only (λ r. view r ≡ x) a
only view a e says one r = (λ h. one r (h ∙ e), λ h. rw h (says ∙ sym e))

-- The value that is told is of one case.
told_once : {A B : Type 0} (value : A → B) (a : A) → ((b : A) → value b ≡ value a → b ≡ a) → (r : Result A Refusal)
    → (b : A) × (r ≡ Ok b) × (value b ≡ value a) → r ≡ Ok a
told_once value a one r (b, e, f) = e ∙ ap Ok (one b f)

pub check_counts : (c : Counts) (r : Result Counts Refusal) → check_answer r ≡ returned (table_counts c) → r ≡ Ok c
check_counts c r h = told_once table_counts c same r (answer_told table_counts (table_counts c) r h)
  where
    same : (d : Counts) → table_counts d ≡ table_counts c → d ≡ c
    same d e = λ i. record { entities = (e i).entities; filters = (e i).filters; rows = (e i).rows }

pub winner_a_row : (k : ℕ) (r : Result (Option ℕ) Refusal) → winner_answer r ≡ returned (winning_row k) → r ≡ Ok (Some k)
winner_a_row k r h = told_once outcome_of (Some k) same r (answer_told outcome_of (winning_row k) r h)
  where
    same : (o : Option ℕ) → outcome_of o ≡ winning_row k → o ≡ Some k
    same (Some j) e = cc
    same None e = let z : ◌≡◌ {A = ℕ} 0 1 = cc in absurd (omega arith)

pub winner_nobody : (r : Result (Option ℕ) Refusal) → winner_answer r ≡ returned nobody_wins → r ≡ Ok None
winner_nobody r h = told_once outcome_of None same r (answer_told outcome_of nobody_wins r h)
  where
    same : (o : Option ℕ) → outcome_of o ≡ nobody_wins → o ≡ None
    same (Some j) e = let z : ◌≡◌ {A = ℕ} 0 1 = cc in absurd (omega arith)
    same None e = λ i. None

pub count_told : (n : ℕ) (r : Result ℕ Refusal) → count_answer r ≡ returned n → r ≡ Ok n
count_told n r h = told_once (λ m. m) n (λ m e. e) r (answer_told (λ m. m) n r h)
