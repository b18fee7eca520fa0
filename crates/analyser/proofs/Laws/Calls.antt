-- Laws of the calls that return a value of an accepted text's row: for a row that is there Line's answer is the line that says the row, as it was
-- written, Witness's the verdict, and Winner's the winner; Winner's other answers, by what is not there.
-- Assumes nothing.
use mathlib.Core.Path.{◌≡◌, refl, ap, ◌∙◌}
use mathlib.Core.Logic.{◌↔◌, inl, inr}
use mathlib.Core.List.{List, [], ◌∷◌}
use Prim.Native.Nat.{ℕ, ◌+◌, ◌-◌, ◌≤◌, ◌<◌}
use native.Mathlib.Decide.{dec_lt}
use native.Mathlib.Omega.{arith}
use lib.ListN.{length, get_or}
use borrow.Author.Tests.{lt-ltb, le-ltb, ltb-true}
use Rattle.std.specs.Prelude.{Option, Some, None, Err}
use Rattle.base.specs.Checks.{Check}
use Rattle.base.specs.Answers.{Answer, returned, refused_by, given}
use Rattle.base.proofs.Laws.Answers.{Broken, given_kept, given_broken, kept_or_broken}
use Rattle.policy.specs.Model.{Packet, Table, row_at, lines_before}
use Rattle.policy.specs.Wellformed.{IsEntity}
use Rattle.relations.specs.Groups.{winner}
use Rattle.frames.specs.Refusals.{no_such_row, no_such_entity}
use Rattle.frames.specs.declared.refusals.Refusal.{Refusal}
use Rattle.reader.specs.Lines.{lines_of}
use Rattle.reader.specs.States.{Parsed, table_read, parse}
use Rattle.reader.proofs.Laws.Rows.{RowLine, accepted_lines, accepted_row}
use Rattle.verdicts.specs.Verdicts.{verdict_on}
use Rattle.reader.specs.Views.{Parses}
use Rattle.calls.specs.Rows.{has_row, on_row, with_row}
use Rattle.calls.proofs.Laws.Texts.{row_answered, row_refused}
use Rattle.analyser.specs.Calls.{has_entity, line_part, witness_of, RowOrNobody, winning_row, nobody_wins, outcome_of, winner_of}

-- ---- Line

module _ (text : List ℕ) (t : Table) (e : parse text ≡ returned (table_read t)) (k : ℕ) (h : k < length t.rows) where
  row_place_lem : lines_before 1 t + k ≡ length (lines_of text) - length t.rows + k
  row_place_lem = let n = accepted_lines text t e in omega arith

  -- It is the line as it was written.
  pub line_written : line_part text (parse text) k ≡ get_or (lines_of text) (length (lines_of text) - length t.rows + k) []
  unfolding line_part
  line_written = rw e (rw (lt-ltb k (length t.rows) h, row_place_lem))

  pub line_row : RowLine t (line_part text (parse text) k) (row_at t k)
  line_row = rw line_written (accepted_row text t e k h)

-- ---- Witness and Winner

pub witness_on_row : (x : Answer Parsed) (k : ℕ) → witness_of x k ≡ on_row verdict_on x k
unfolding witness_of
witness_on_row x k = refl

-- A text's refusal, or that of the row, is the call's.
pub winner_away : (x : Answer Parsed) (k a b : ℕ) (p : Packet) {r : Refusal} → Parses (Err r) (with_row x k) → winner_of x k a b p ≡ refused_by r.number r.line
unfolding winner_of
winner_away x k a b p w =
    row_refused k (λ q. has_entity a q.table ∷ has_entity b q.table ∷ []) (λ q. outcome_of (winner q.table k a b p)) x w

module _ (x : Answer Parsed) (t : Table) (e : x ≡ returned (table_read t)) (k : ℕ) where
  pub witness_verdict : k < length t.rows → witness_of x k ≡ returned (verdict_on t k)
  unfolding witness_of
  witness_verdict h = row_answered verdict_on k x t e h

  module _ (a b : ℕ) (p : Packet) where
    -- What Winner asks.
    abbrev pub asks : List Check
    asks = has_row k t ∷ has_entity a t ∷ has_entity b t ∷ []

    winner_asks : winner_of x k a b p ≡ given asks (outcome_of (winner t k a b p))
    unfolding winner_of
    winner_asks = rw e

    pub winner_broken : (n : ℕ) → Broken asks n → winner_of x k a b p ≡ refused_by n 0
    winner_broken n h = winner_asks ∙ given_broken (outcome_of (winner t k a b p)) asks n h

    -- Who is told a winner, or nobody, named a row and two entities.
    pub winner_told : (o : RowOrNobody) → winner_of x k a b p ≡ returned o → (k < length t.rows) × IsEntity t a × IsEntity t b
    winner_told o w = elim (kept_or_broken asks) [
      | inl h ↦ (ltb-true _ _ h.0, ltb-true _ _ h.1.0, ltb-true _ _ h.1.1.0)
      | inr h ↦ let r = winner_broken h.0 h.1 in
          let z : ◌≡◌ {A = ℕ} 0 1 = cc in absurd (omega arith)
    ]

    pub winner_no_row : length t.rows ≤ k → winner_of x k a b p ≡ refused_by no_such_row 0
    winner_no_row h = winner_broken no_such_row (inl (le-ltb _ _ h, refl))

    module _ (h : k < length t.rows) where
      pub winner_no_entity : (IsEntity t a × IsEntity t b → ⊥) → winner_of x k a b p ≡ refused_by no_such_entity 0
      winner_no_entity n =
          winner_broken no_such_entity
          (inr (
            lt-ltb _ _ h,
            elim (dec_lt a (length t.entities)) [
              | yes l ↦ inr (lt-ltb _ _ l, elim (dec_lt b (length t.entities)) [ yes m ↦ absurd (n (l, m)) | no m ↦ inl (le-ltb b (length t.entities) (omega arith), refl) ])
              | no l ↦ inl (le-ltb a (length t.entities) (omega arith), refl)
            ],
          ))

      pub winner_found : IsEntity t a → IsEntity t b → winner_of x k a b p ≡ returned (outcome_of (winner t k a b p))
      winner_found l m = winner_asks ∙ given_kept (outcome_of (winner t k a b p)) asks (lt-ltb _ _ h, (lt-ltb _ _ l, (lt-ltb _ _ m, tt)))

      -- Winner's answer says who won.
      module _ (l : IsEntity t a) (m : IsEntity t b) where
        pub winner_row : (i : ℕ) → (winner_of x k a b p ≡ returned (winning_row i)) ↔ (winner t k a b p ≡ Some i)
        winner_row i = let f = winner_found l m in (λ w. won (winner t k a b p) (cc), λ o. f ∙ ap (λ q. returned (outcome_of q)) o)
          where
            won : (o : Option ℕ) → outcome_of o ≡ winning_row i → o ≡ Some i
            won (Some j) q = cc
            won None q = let z : ◌≡◌ {A = ℕ} 0 1 = cc in absurd (omega arith)

        pub winner_none : (winner_of x k a b p ≡ returned nobody_wins) ↔ (winner t k a b p ≡ None)
        winner_none = let f = winner_found l m in (λ w. lost (winner t k a b p) (cc), λ o. f ∙ ap (λ q. returned (outcome_of q)) o)
          where
            lost : (o : Option ℕ) → outcome_of o ≡ nobody_wins → o ≡ None
            lost (Some j) q = let z : ◌≡◌ {A = ℕ} 0 1 = cc in absurd (omega arith)
            lost None q = refl
