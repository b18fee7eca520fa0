-- Laws of the reader's states:
--   faultless, faulty: what a frame does, by whether a condition is broken
--   step_taken, step_refused: the same of a line
--   fit_of, fitted, frame_misfit, frame_content, frame_grown: the conditions of a frame of any kind, and what it adds
--   kind_own, kind_cases, byte_in: which kind a kind byte is, and that of a frame
--   run_refused: a refusal stays
-- Assumes nothing.
use mathlib.Core.Path.{◌≡◌, refl, sym, ap, ◌∙◌}
use mathlib.Core.Logic.{◌⊎◌, inl, inr}
use mathlib.Core.Bool.{Bool, true, false}
use mathlib.Core.List.{List, [], ◌∷◌}
use Prim.Native.Nat.{ℕ, suc}
use native.Mathlib.Decide.{ℕ_discrete}
use native.Mathlib.Omega.{arith}
use borrow.Author.Tests.{ne_eqb}
use Rattle.base.specs.Checks.{refusal}
use Rattle.base.proofs.Laws.Checks.{refusal_first, refusal_holds, refusal_broken, refusal_none}
use Rattle.hexlines.specs.Lines.{is_line, bytes_of}
use Rattle.frames.specs.Refusals.{no_line, wrong_form}
use Rattle.frames.specs.Progress.{Progress, misfit_of}
use Rattle.frames.specs.Kinds.{FrameName, of_entity, of_cap, of_floor, of_filter, of_row, describe, frame_names}
use Rattle.frames.proofs.Laws.Parts.{misfit_none}
use Rattle.reader.specs.Frames.{Frame, a_frame, no_frame, frame_in, frame_among, frame_of_kind, frame_of}
use Rattle.reader.specs.States.{reading, refused, checks, line_checks, grown, take_frame, step, run}

-- ---- a frame

module _ (n : ℕ) (p : Progress) (f : Frame) where
  pub faultless : refusal (checks p f) ≡ 0 → take_frame n p f ≡ reading (suc n) (grown p f)
  unfolding take_frame
  faultless h = rw h

  pub faulty : (m : ℕ) → refusal (checks p f) ≡ m → (m ≡ 0 → ⊥) → take_frame n p f ≡ refused m (suc n)
  unfolding take_frame
  faulty m h z = rw (h, ne_eqb m 0 z)

-- A line that is no frame.
pub no_frame_fault : (p : Progress) → refusal (checks p no_frame) ≡ wrong_form
unfolding checks
no_frame_fault p = refusal_broken false wrong_form [] refl

pub no_frame_lem : (n : ℕ) (p : Progress) → take_frame n p no_frame ≡ refused wrong_form (suc n)
no_frame_lem n p = faulty n p no_frame wrong_form (no_frame_fault p) (λ z. omega arith)

-- A line.
module _ (n : ℕ) (p : Progress) (l : List ℕ) where
  pub step_taken : refusal (line_checks p l) ≡ 0 → step (reading n p) l ≡ reading (suc n) (grown p (frame_of (bytes_of l)))
  unfolding step
  step_taken z =
      let k = refusal_none (is_line l) no_line (checks p (frame_of (bytes_of l))) (λ e. omega arith) z in
      rw k.0 (faultless n p (frame_of (bytes_of l)) k.1)

  pub step_refused : (m : ℕ) → refusal (line_checks p l) ≡ m → (m ≡ 0 → ⊥) → step (reading n p) l ≡ refused m (suc n)
  unfolding step
  step_refused m e z = go (is_line l) refl
    where
      go : (b : Bool) → is_line l ≡ b → step (reading n p) l ≡ refused m (suc n)
      go true h = rw h (faulty n p (frame_of (bytes_of l)) m (sym (refusal_holds (is_line l) no_line (checks p (frame_of (bytes_of l))) h) ∙ e) z)
      go false h = rw h (ap (λ k. refused k (suc n)) (sym (refusal_broken (is_line l) no_line (checks p (frame_of (bytes_of l))) h) ∙ e))

-- ---- a frame of some kind, from the bytes after its kind byte

module _ (p : Progress) (k : FrameName) (bs : List ℕ) where
  -- The number that refuses it for its form or its place, or 0.
  abbrev pub fit_of : ℕ
  fit_of = misfit_of ((describe k).long bs) ((describe k).placed p ((describe k).value bs))

  -- What is not refused so has its length and its place.
  pub fitted : fit_of ≡ 0 → ((describe k).long bs ≡ true) × ((describe k).placed p ((describe k).value bs) ≡ true)
  fitted h = misfit_none ((describe k).long bs) ((describe k).placed p ((describe k).value bs)) h

  pub frame_misfit : (fit_of ≡ 0 → ⊥) → refusal (checks p (frame_in k bs)) ≡ fit_of
  unfolding checks
  frame_misfit n = go ((describe k).long bs) ((describe k).placed p ((describe k).value bs)) refl refl
    where
      go : (l b : Bool) → (describe k).long bs ≡ l → (describe k).placed p ((describe k).value bs) ≡ b → refusal (checks p (frame_in k bs)) ≡ fit_of
      go false b e f = rw (e, refusal_first)
      go true false e f = rw (e, f, refusal_first)
      go true true e f = absurd (n (rw (e, f)))

  pub frame_content : fit_of ≡ 0 → refusal (checks p (frame_in k bs)) ≡ refusal ((describe k).content p.table ((describe k).value bs))
  unfolding checks
  frame_content h = let fit = fitted h in rw (fit.0, fit.1, refusal_first)

  pub frame_grown : fit_of ≡ 0 → grown p (frame_in k bs) ≡ (describe k).grown ((describe k).value bs) p
  unfolding grown
  frame_grown h = rw (fitted h).0

-- ---- kind bytes

pub kind_own : (k : FrameName) (bs : List ℕ) → frame_of_kind (describe k).byte bs ≡ frame_in k bs
unfolding frame_of_kind
kind_own of_entity bs = refl
kind_own of_cap bs = refl
kind_own of_floor bs = refl
kind_own of_filter bs = refl
kind_own of_row bs = refl

-- The byte is that of one of these kinds, or no frame's of them.
among_cases : (ks : List FrameName) (b : ℕ) → ((k : FrameName) × (b ≡ (describe k).byte)) ⊎ ((bs : List ℕ) → frame_among ks b bs ≡ no_frame)
among_cases [] b = inr (λ bs. refl)
among_cases (k ∷ ks) b = elim (ℕ_discrete b (describe k).byte) [
  | yes e ↦ inl (k, e)
  | no n ↦ elim (among_cases ks b) [ inl h ↦ inl h | inr h ↦ inr (λ bs. rw (ne_eqb b (describe k).byte n) (h bs)) ]
]

pub kind_cases : (b : ℕ) → ((k : FrameName) × (b ≡ (describe k).byte)) ⊎ ((bs : List ℕ) → frame_of_kind b bs ≡ no_frame)
unfolding frame_of_kind
kind_cases b = among_cases frame_names b

-- The kind byte of a frame, 0 where there is no frame.
abbrev pub byte_in : Frame → ℕ
byte_in (a_frame k v) = (describe k).byte
byte_in no_frame = 0

-- ---- runs of lines

pub run_refused : (k n : ℕ) (lines : List (List ℕ)) → run (refused k n) lines ≡ refused k n
unfolding run step
run_refused k n [] = refl
run_refused k n (line ∷ lines) = run_refused k n lines
