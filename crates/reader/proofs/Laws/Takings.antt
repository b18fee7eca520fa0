-- What a state comes to by a line:
--   Tested, has_form, has_room: the tests of a frame's form and its place; a frame that passes them has its length and its place
--   Content, content_by: the number that refuses a frame for its content
--   takes_misfit, takes_broken, takes_value: by them the frame is refused, or its value is taken
--   line_kept, takes_no_line, takes_kind, takes_no_kind: so a line is judged, by whether it is pairs of digits, and by its kind byte
--   moves_refused, moves_taken, moves_broken: by whether the state is refused, and what is judged of the line
-- Assumes nothing.
use mathlib.Core.Path.{◌≡◌, refl, sym, ap, subst, ◌∙◌}
use mathlib.Core.Bool.{Bool, true, false, true≢false}
use mathlib.Core.Logic.{inl, inr}
use mathlib.Core.List.{List}
use Prim.Native.Nat.{ℕ, ◌-◌}
use native.Mathlib.Omega.{arith}
use lib.ListN.{length, get_or, take, drop}
use Rattle.std.specs.Prelude.{Option, Some, None, Result, Ok, Err}
use Rattle.std.specs.Option.{is_some}
use Rattle.std.specs.Result.{IsErrAnd}
use Rattle.std.proofs.lemmas.Result.{err_from_is_err_and}
use Rattle.base.specs.Checks.{Check, refusal}
use Rattle.base.specs.Truths.{pick}
use Rattle.base.proofs.Laws.Checks.{refusal_holds, refusal_broken, refusal_none}
use Rattle.hexlines.specs.Lines.{is_line, bytes_of}
use Rattle.hexlines.proofs.Laws.Lines.{bytes_of_line}
use Rattle.policy.specs.Model.{Table}
use Rattle.frames.specs.Refusals.{no_line, wrong_form}
use Rattle.frames.specs.Progress.{Progress, lines_read, misfit_of}
use Rattle.frames.specs.Kinds.{FrameName, describe}
use Rattle.frames.specs.Views.{number_of}
use Rattle.frames.specs.declared.refusals.Reason.{Reason}
use Rattle.frames.specs.declared.refusals.Refusal.{Refusal}
use Rattle.frames.proofs.Laws.Refusals.{number_above_0}
use Rattle.reader.specs.Frames.{no_frame, frame_of_kind, frame_of, frame_in}
use Rattle.reader.specs.States.{State, reading, refused, checks, line_checks, grown, step}
use Rattle.reader.specs.Views.{Ready, Has, Reads, Goes, Refuses, Judges, Takes, TakesLine, Moves}
use Rattle.reader.specs.declared.state.State.{State as StateStruct}
use Rattle.reader.proofs.Laws.Lines.{rest_all}
use Rattle.reader.proofs.Laws.States.{fit_of, fitted, frame_misfit, frame_content, frame_grown, no_frame_fault, kind_own, kind_cases}
use Rattle.reader.proofs.Laws.States.{step_taken, step_refused}
use Rattle.reader.proofs.Laws.Readers.{progress_of, has_own}
use Rattle.reader.proofs.Laws.Wellformed.{one_line}

-- ---- a frame of the kind k with the bytes bs after its kind byte, after what the state r has

-- The tests of its form and its place.
pub record Tested (r : StateStruct) (k : FrameName) (bs : List ℕ) (long placed : Bool) : Type 0 where
  pub form : long ≡ (describe k).long bs
  pub place : (p : Progress) → Has r p → placed ≡ (describe k).placed p ((describe k).value bs)

-- The number n refuses it for its content, or is 0.
pub record Content (r : StateStruct) (k : FrameName) (bs : List ℕ) (n : ℕ) : Type 0 where
  pub same : (p : Progress) → Has r p → refusal ((describe k).content p.table ((describe k).value bs)) ≡ n

-- By rules over numbers that are the table's, of what the value stands for.
pub content_by : (r : StateStruct) (k : FrameName) (bs : List ℕ) {A : Type 0} {m : List ℕ} {v w : A} {n : ℕ} (f : List ℕ → A → ℕ) (l : Table → List ℕ)
    → ((p : Progress) → Has r p → l p.table ≡ m)
    → w ≡ v → n ≡ f m w → ((p : Progress) → f (l p.table) v ≡ refusal ((describe k).content p.table ((describe k).value bs))) → Content r k bs n
content_by r k bs f l e g h q = record { same = λ p a. let x = e p a in let y = q p in cc }

-- The exit of a `?`: the reason is that of the conditions, and nothing has changed.
judged_broken : (r : StateStruct) (c : Progress → List Check) (f : Progress → Progress) (reason : Reason) (result : Result Unit Reason)
    → IsErrAnd result (λ e. e ≡ reason) → ((p : Progress) → Has r p → refusal (c p) ≡ number_of reason) → Judges r c f result r
judged_broken r c f reason result e h = let x = err_from_is_err_and result e in rw (x.1, x.2) (refl, h)

module _ {r : StateStruct} {k : FrameName} {bs : List ℕ} {long placed : Bool} (t : Tested r k bs long placed) where
  fit : (n : ℕ) → n ≡ misfit_of long placed → (p : Progress) → Has r p → fit_of p k bs ≡ n
  fit n h p a = rw (← t.form, ← t.place p a) (sym h)

  pub takes_misfit : (reason : Reason) → number_of reason ≡ misfit_of long placed → (result : Result Unit Reason) → IsErrAnd result (λ e. e ≡ reason)
      → Takes r k bs result r
  takes_misfit reason h result e =
      let z = number_above_0 reason in
      judged_broken r (λ p. checks p (frame_in k bs)) (λ p. grown p (frame_in k bs)) reason result e
      (λ p a. let x = fit (number_of reason) h p a in frame_misfit p k bs (λ y. omega arith) ∙ x)

  module _ (h : 0 ≡ misfit_of long placed) where
    pub has_form : (describe k).long bs ≡ true
    has_form = (fitted (progress_of r) k bs (fit 0 h (progress_of r) (has_own r))).0

    pub has_room : (describe k).placed (progress_of r) ((describe k).value bs) ≡ true
    has_room = (fitted (progress_of r) k bs (fit 0 h (progress_of r) (has_own r))).1

    pub takes_broken : (reason : Reason) → Content r k bs (number_of reason) → (result : Result Unit Reason) → IsErrAnd result (λ e. e ≡ reason)
        → Takes r k bs result r
    takes_broken reason c result e =
        judged_broken r (λ p. checks p (frame_in k bs)) (λ p. grown p (frame_in k bs)) reason result e
        (λ p a. frame_content p k bs (fit 0 h p a) ∙ c.same p a)

    pub takes_value : {q : StateStruct} → Content r k bs 0 → Ready q → q.refusal ≡ r.refusal
        → ((p : Progress) → Has r p → Has q ((describe k).grown ((describe k).value bs) p)) → Takes r k bs (Ok tt) q
    takes_value {q} c ready going has =
        record {
          ready = ready;
          going = going;
          kept = λ p a. frame_content p k bs (fit 0 h p a) ∙ c.same p a;
          has = λ p a. subst (Has q) (sym (frame_grown p k bs (fit 0 h p a))) (has p a);
        }

-- ---- a line

-- What is judged by conditions is judged by those that are refused alike.
judged_as : (r q : StateStruct) (c d : Progress → List Check) (f g : Progress → Progress) (result : Result Unit Reason)
    → ((p : Progress) → refusal (c p) ≡ refusal (d p)) → ((p : Progress) → f p ≡ g p) → Judges r c f result q → Judges r d g result q
judged_as r q c d f g (Ok u) e k h =
    record { ready = h.ready; going = h.going; kept = λ p a. sym (e p) ∙ h.kept p a; has = λ p a. subst (Has q) (k p) (h.has p a) }
judged_as r q c d f g (Err reason) e k h = (h.0, λ p a. sym (e p) ∙ h.1 p a)

-- The test of whether a line is pairs of digits.
pub line_kept : (line : List ℕ) (b : Bool) → b ≡ is_line line → 0 ≡ pick b 0 no_line → is_line line ≡ true
line_kept line true e h = sym e
line_kept line false e h = absurd (omega arith)

line_broken : (b : Bool) (reason : Reason) → number_of reason ≡ pick b 0 no_line → (b ≡ false) × (number_of reason ≡ no_line)
line_broken true reason h = let z = number_above_0 reason in absurd (omega arith)
line_broken false reason h = (refl, h)

module _ (r : StateStruct) (line : List ℕ) where
  -- What is no line is refused as that.
  pub takes_no_line : (b : Bool) (reason : Reason) → b ≡ is_line line → number_of reason ≡ pick b 0 no_line → (result : Result Unit Reason)
      → IsErrAnd result (λ e. e ≡ reason) → TakesLine r line result r
  takes_no_line b reason h n result e =
      let x = line_broken b reason n in
      judged_broken r (λ p. line_checks p line) (λ p. grown p (frame_of (bytes_of line))) reason result e
      (λ p a. refusal_broken (is_line line) no_line (checks p (frame_of (bytes_of line))) (sym h ∙ x.0) ∙ sym x.1)

  -- The first byte is the kind, and the frame's bytes are those of the line after its first two characters.
  module _ (h : is_line line ≡ true) (byte : ℕ) (e : byte ≡ get_or (bytes_of line) 0 0) where
    frame_line : frame_of (bytes_of line) ≡ frame_of_kind byte (bytes_of (drop 2 line))
    unfolding frame_of
    frame_line = rw (bytes_of_line line h, ← e)

    refusal_line : (p : Progress) → refusal (line_checks p line) ≡ refusal (checks p (frame_of_kind byte (bytes_of (drop 2 line))))
    refusal_line p = refusal_holds (is_line line) no_line (checks p (frame_of (bytes_of line))) h ∙ ap (λ f. refusal (checks p f)) frame_line

    pub takes_kind : (k : FrameName) → byte ≡ (describe k).byte → (result : Result Unit Reason) (q : StateStruct)
        → Takes r k (bytes_of (take (length line - 2) (drop 2 line))) result q → TakesLine r line result q
    takes_kind k b result q t =
        let bs = bytes_of (drop 2 line) in
        let read = bytes_of (take (length line - 2) (drop 2 line)) in
        let own : frame_of_kind byte bs ≡ frame_in k read =
        ap (λ n. frame_of_kind n bs) b ∙ kind_own k bs ∙ ap (λ l. frame_in k (bytes_of l)) (sym (rest_all line 2)) in
        judged_as r q (λ p. checks p (frame_in k read)) (λ p. line_checks p line) (λ p. grown p (frame_in k read))
        (λ p. grown p (frame_of (bytes_of line))) result
        (λ p. sym (refusal_line p ∙ ap (λ f. refusal (checks p f)) own)) (λ p. sym (ap (grown p) (frame_line ∙ own))) t

    pub takes_no_kind : ((k : FrameName) → byte ≡ (describe k).byte → ⊥) → (p : Progress) → refusal (line_checks p line) ≡ wrong_form
    takes_no_kind n p =
        let bs = bytes_of (drop 2 line) in
        let none : frame_of_kind byte bs ≡ no_frame = elim (kind_cases byte) [ inl x ↦ absurd (n x.0 x.1) | inr none ↦ none bs ] in
        refusal_line p ∙ ap (λ f. refusal (checks p f)) none ∙ no_frame_fault p

-- A refusal stays.
pub moves_refused : (r : StateStruct) (line : List ℕ) → true ≡ is_some r.refusal → Ready r → Moves r (λ s. step s line) r
unfolding step
moves_refused r line e ready = record { ready = ready; reads = stays }
  where
    stays : (s : State) → Reads r s → Reads r (step s line)
    stays (reading n p) h = absurd (true≢false (e ∙ ap is_some h.0))
    stays (refused number at) h = h

none_there : (o : Option Refusal) → false ≡ is_some o → o ≡ None
none_there (Some x) e = absurd (true≢false (sym e))
none_there None e = refl

-- A state that is not refused goes on with what it has.
module _ (r : StateStruct) (line : List ℕ) (e : false ≡ is_some r.refusal) {q : StateStruct} where
  moves_going : Goes r (λ p. step (reading (lines_read p) p) line) q → Moves r (λ s. step s line) q
  moves_going g = record { ready = g.ready; reads = goes }
    where
      goes : (s : State) → Reads r s → Reads q (step s line)
      goes (reading n p) h = subst (λ m. Reads q (step (reading m p) line)) (sym h.1) (g.reads p h.2)
      goes (refused number at) h = absurd (true≢false (sym (e ∙ ap is_some h.is)))

  pub moves_taken : TakesLine r line (Ok tt) q → Moves r (λ s. step s line) q
  moves_taken t =
      moves_going (record {
        ready = t.ready;
        reads = λ p a.
            let kept = t.kept p a in
            let f = frame_of (bytes_of line) in
            let fit = (refusal_none (is_line line) no_line (checks p f) (λ e. omega arith) kept).1 in
            subst (Reads q) (sym (step_taken (lines_read p) p line kept)) (t.going ∙ none_there r.refusal e, sym (one_line p f fit), t.has p a);
      })

  pub moves_broken : (s : StateStruct) (reason : Reason) → TakesLine r line (Err reason) s → Refuses s (number_of reason) q
      → Moves r (λ s. step s line) q
  moves_broken s reason t g =
      moves_going (record {
        ready = g.ready;
        reads = λ p a.
            let h = number_above_0 reason in
            subst (Reads q) (sym (step_refused (lines_read p) p line (number_of reason) (t.1 p a) (λ e. omega arith)))
            (g.reads p (subst (λ x. Has x p) (sym t.0) a));
      })
