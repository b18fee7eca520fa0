-- The calls that write a result:
--   room, no_room: their condition, kept and broken
--   call_broken: what such a call does, of a text that is accepted, where another condition is broken
--   call_asked, call_writes: where none is, and the result is written if it fits
--   call_short, call_whole: its answer and output, for an output too short, and for one with room
--   list_short, list_whole, list_writes, strike_short, strike_whole, strike_writes: the same of List and Strike
--   list_told, list_refused, strike_told, strike_refused: why List and Strike answer as they do
--   list_wrote, strike_wrote, strike_left: what they leave in the output, where they tell a number, and where they refuse
--   count_fits: as many entries as are counted have room
-- Assumes nothing.
use Prim.Native.Nat.{ℕ, ◌*◌, ◌≤◌, ◌<◌}
use native.Mathlib.Omega.{arith}
use mathlib.Core.Path.{◌≡◌, refl, sym, ap, ◌∙◌}
use mathlib.Core.Bool.{Bool, true, false}
use mathlib.Core.Logic.{inl, inr}
use mathlib.Core.List.{List, [], ◌∷◌, ◌++◌}
use lib.ListN.{length, drop}
use borrow.Author.Tests.{leb-true, leb-false}
use Rattle.base.specs.Truths.{pick}
use Rattle.std.specs.Prelude.{Result, Ok, Err}
use Rattle.base.specs.Outputs.{fits, written, short, WritesCounted}
use Rattle.base.specs.declared.Short.{Short}
use Rattle.base.specs.Checks.{Check}
use Rattle.base.specs.Answers.{Answer, returned, refused_by, told, wrote, given}
use Rattle.base.proofs.Laws.Outputs.{fits_not, fits_all}
use Rattle.base.proofs.Laws.Answers.{Kept, Broken, given_broken, given_after, broken_first, Told, told_why, Why, refused_why, told_room, wrote_room, wrote_refused}
use Rattle.policy.specs.Model.{Table}
use Rattle.frames.specs.Refusals.{short_output}
use Rattle.reader.specs.States.{Parsed, table_read}
use Rattle.kinds.specs.Entries.{Entry, entries}
use Rattle.listing.specs.Bytes.{bytes, entry_bytes}
use Rattle.listing.proofs.Laws.Puts.{length_bytes}
use Rattle.striking.specs.Texts.{struck_text}
use Rattle.analyser.specs.Calls.{has_room, writing, no_conditions, list_of, list_written, strike_of, strike_written}
use Rattle.analyser.specs.Views.{count_answer, room_answer}
use Rattle.frames.specs.declared.refusals.Refusal.{Refusal}

-- ---- the condition

module _ (result out : List ℕ) where
  pub room : Kept (has_room result out ∷ []) → length result ≤ length out
  room h = leb-true (length result) (length out) h.0

  pub no_room : (n : ℕ) → Broken (has_room result out ∷ []) n → (n ≡ short_output) × (length out < length result)
  no_room n (inl h) = (h.1, leb-false (length result) (length out) h.0)
  no_room n (inr h) = absurd h.1

-- ---- a call

-- Its answer and its output, each the other way round.
pub turned : {A B : Type 0} {a b : A} {c d : B} → (a ≡ b) × (c ≡ d) → (b ≡ a) × (d ≡ c)
turned p = (sym p.0, sym p.1)

module _ {A : Type 0} (conditions : Table → List Check) (result : A → List ℕ) (tell : A → ℕ) (value : Table → A) (out : List ℕ) where
  abbrev pub answer_to : Answer Parsed → Answer ℕ
  answer_to x = told tell (writing conditions result value out x)

  abbrev pub output_after : Answer Parsed → List ℕ
  output_after x = wrote result (writing conditions result value out x) out

  module _ (x : Answer Parsed) (t : Table) (e : x ≡ returned (table_read t)) where
    -- A condition that is broken.
    pub call_broken : (n : ℕ) → Broken (conditions t) n → (answer_to x ≡ refused_by n 0) × (output_after x ≡ out)
    call_broken n h =
        let b = given_broken (value t) (conditions t ++ (has_room (result (value t)) out ∷ [])) n (broken_first (conditions t) _ n h) in
        (ap answer_to e ∙ ap (told tell) b, ap output_after e ∙ ap (λ y. wrote result y out) b)

    -- All of them are kept.
    module _ (kept : Kept (conditions t)) where
      pub call_asked : writing conditions result value out x ≡ given (has_room (result (value t)) out ∷ []) (value t)
      call_asked = ap (writing conditions result value out) e ∙ given_after (value t) (conditions t) (has_room (result (value t)) out ∷ []) kept

      answer_accepted : answer_to x ≡ pick (fits (result (value t)) out) (returned (tell (value t))) (refused_by short_output 0)
      answer_accepted = ap (told tell) call_asked ∙ told_room (value t) short_output tell (fits (result (value t)) out)

      output_accepted : output_after x ≡ written (result (value t)) out
      output_accepted = ap (λ y. wrote result y out) call_asked ∙ wrote_room (value t) short_output result out

      -- Where the result is written if it fits.
      pub call_writes : (after : List ℕ) (r : Result ℕ Short) → WritesCounted (tell (value t)) (result (value t)) out after r → (room_answer r ≡ answer_to x) × (after ≡ output_after x)
      call_writes after r w = (ap room_answer w.answer ∙ picked (fits (result (value t)) out) ∙ sym answer_accepted, w.output ∙ sym output_accepted)
        where
          picked : (b : Bool) → room_answer (pick b (Ok (tell (value t))) (Err short)) ≡ pick b (returned (tell (value t))) (refused_by short_output 0)
          picked true = refl
          picked false = refl

      pub call_short : length out < length (result (value t)) → (answer_to x ≡ refused_by short_output 0) × (output_after x ≡ out)
      call_short h = let n = fits_not (result (value t)) out h in (answer_accepted ∙ rw n, output_accepted ∙ rw n)

      pub call_whole : length (result (value t)) ≤ length out
          → (answer_to x ≡ returned (tell (value t))) × (output_after x ≡ result (value t) ++ drop (length (result (value t))) out)
      call_whole h = let n = fits_all (result (value t)) out h in (answer_accepted ∙ rw n, output_accepted ∙ rw n)

-- ---- List

module _ (x : Answer Parsed) (out : List ℕ) where
  -- The entries of what was read, and that they have room.
  abbrev pub entries_read : Parsed → List Entry
  entries_read r = entries r.table

  abbrev pub list_conditions : Parsed → List Check
  list_conditions r = has_room (bytes (entries_read r)) out ∷ []

  module _ (t : Table) (e : x ≡ returned (table_read t)) where
    pub list_short : length out < length (bytes (entries t)) → (list_of x out ≡ refused_by short_output 0) × (list_written x out ≡ out)
    unfolding list_of list_written
    list_short h = call_short no_conditions bytes length entries out x t e tt h

    pub list_whole : length (bytes (entries t)) ≤ length out
        → (list_of x out ≡ returned (length (entries t))) × (list_written x out ≡ bytes (entries t) ++ drop (length (bytes (entries t))) out)
    unfolding list_of list_written
    list_whole h = call_whole no_conditions bytes length entries out x t e tt h

    pub list_writes : (after : List ℕ) (r : Result ℕ Short) → WritesCounted (length (entries t)) (bytes (entries t)) out after r
        → (room_answer r ≡ list_of x out) × (after ≡ list_written x out)
    unfolding list_of list_written
    list_writes after r w = call_writes no_conditions bytes length entries out x t e tt after r w

  pub list_told : (n : ℕ) → list_of x out ≡ returned n → Told list_conditions entries_read length x n
  unfolding list_of
  list_told n e = told_why list_conditions entries_read length x n e

  pub list_refused : (number line : ℕ) → list_of x out ≡ refused_by number line → Why list_conditions x number line
  unfolding list_of
  list_refused number line e = refused_why list_conditions entries_read length x number line e

  pub list_wrote : {n : ℕ} (w : Told list_conditions entries_read length x n)
      → list_written x out ≡ bytes (entries_read w.of) ++ drop (length (bytes (entries_read w.of))) out
  unfolding list_written
  list_wrote w = (call_whole no_conditions bytes length entries out x w.of.table w.read tt (room (bytes (entries_read w.of)) out w.keeps)).1

  -- As many entries as are counted have room.
  pub count_fits : (r : Result ℕ Refusal) (n : ℕ) → count_answer r ≡ list_of x out → r ≡ Ok n → entry_bytes * n ≤ length out
  count_fits r n a e =
      let w = list_told n (sym a ∙ ap count_answer e) in
      omega (arith, w.tells, room (bytes (entries_read w.of)) out w.keeps, length_bytes (entries_read w.of))

-- ---- Strike

module _ (text : List ℕ) (x : Answer Parsed) (out : List ℕ) where
  -- The struck text of what was read, and that it has room.
  abbrev pub struck_read : Parsed → List ℕ
  struck_read r = struck_text text r.table

  abbrev pub strike_conditions : Parsed → List Check
  strike_conditions r = has_room (struck_read r) out ∷ []

  module _ (t : Table) (e : x ≡ returned (table_read t)) where
    pub strike_short : length out < length (struck_text text t) → (strike_of text x out ≡ refused_by short_output 0) × (strike_written text x out ≡ out)
    unfolding strike_of strike_written
    strike_short h = call_short no_conditions (λ l. l) length (struck_text text) out x t e tt h

    pub strike_whole : length (struck_text text t) ≤ length out
        → (strike_of text x out ≡ returned (length (struck_text text t)))
        × (strike_written text x out ≡ struck_text text t ++ drop (length (struck_text text t)) out)
    unfolding strike_of strike_written
    strike_whole h = call_whole no_conditions (λ l. l) length (struck_text text) out x t e tt h

    pub strike_writes : (after : List ℕ) (r : Result ℕ Short) → WritesCounted (length (struck_text text t)) (struck_text text t) out after r
        → (room_answer r ≡ strike_of text x out) × (after ≡ strike_written text x out)
    unfolding strike_of strike_written
    strike_writes after r w = call_writes no_conditions (λ l. l) length (struck_text text) out x t e tt after r w

  pub strike_told : (n : ℕ) → strike_of text x out ≡ returned n → Told strike_conditions struck_read length x n
  unfolding strike_of
  strike_told n e = told_why strike_conditions struck_read length x n e

  pub strike_refused : (number line : ℕ) → strike_of text x out ≡ refused_by number line → Why strike_conditions x number line
  unfolding strike_of
  strike_refused number line e = refused_why strike_conditions struck_read length x number line e

  pub strike_wrote : {n : ℕ} (w : Told strike_conditions struck_read length x n)
      → strike_written text x out ≡ struck_read w.of ++ drop (length (struck_read w.of)) out
  unfolding strike_written
  strike_wrote w = (call_whole no_conditions (λ l. l) length (struck_text text) out x w.of.table w.read tt (room (struck_read w.of) out w.keeps)).1

  pub strike_left : (number line : ℕ) → strike_of text x out ≡ refused_by number line → strike_written text x out ≡ out
  unfolding strike_of strike_written
  strike_left number line e = wrote_refused length (λ l. l) out (writing no_conditions (λ l. l) (struck_text text) out x) number line e
