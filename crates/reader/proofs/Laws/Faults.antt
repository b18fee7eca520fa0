-- Document 01's table of returns, number by number:
--   Reached, line_rising, line_faults, line_breaks: after the lines before it, the conditions of a line are its faults
-- Assumes nothing.
use mathlib.Core.Path.{◌≡◌, refl, sym, ap, ◌∙◌}
use mathlib.Core.Bool.{Bool, true, false, false≢true, true≢false}
use mathlib.Core.Logic.{inl, inr}
use mathlib.Core.List.{List, [], ◌∷◌, ◌++◌, append_assoc}
use Prim.Native.Nat.{ℕ}
use native.Mathlib.Omega.{arith}
use Rattle.base.specs.Checks.{or_else}
use Rattle.base.proofs.Laws.Checks.{Rising, Faults, Breaks, faults_as}
use Rattle.base.proofs.Laws.Decides.{not_holds}
use Rattle.hexlines.specs.Lines.{is_line, bytes_of}
use Rattle.hexlines.proofs.Laws.Lines.{no_line_decides}
use Rattle.frames.specs.Refusals.{no_line}
use Rattle.frames.specs.Faults.{ContentFault}
use Rattle.frames.specs.Progress.{Progress, nothing, all_read}
use Rattle.frames.specs.Kinds.{describe}
use Rattle.frames.proofs.Laws.Claims.{nothing_faulty}
use Rattle.frames.proofs.Laws.Growing.{Growing, growing_nothing, few_so_far}
use Rattle.frames.proofs.Laws.Kinds.{lawful}
use Rattle.reader.specs.Frames.{Frame, a_frame, no_frame}
use Rattle.reader.specs.States.{checks, line_checks, grown}
use Rattle.reader.specs.Rules.{frames_so_far, frames_of}
use Rattle.reader.specs.Faults.{Begins, read_frames, judged_of, Fault, not_line, no_form, no_place, bad_content}
use Rattle.reader.proofs.Laws.Forms.{is_frame, form_decides}
use Rattle.reader.proofs.Laws.Sequence.{so_far_more, begins_so_far}
use Rattle.reader.proofs.Laws.Leads.{Leads, placed_frame, InPlace, places_lead}
use Rattle.reader.proofs.Laws.Rules.{line_frame}

-- ---- what has been read before a line

pub record Reached (before : List Frame) (p : Progress) : Type 0 where
  pub growing : Growing p
  pub frames : frames_so_far p ≡ before
  pub read : read_frames nothing before ≡ p

pub reached_nothing : Reached [] nothing
reached_nothing = record { growing = growing_nothing; frames = refl; read = refl }

pub read_more : (p : Progress) (fs : List Frame) (f : Frame) → read_frames p (fs ++ (f ∷ [])) ≡ grown (read_frames p fs) f
read_more p [] f = refl
read_more p (g ∷ fs) f = read_more (grown p g) fs f

-- ---- 3: the sequence can go on

-- A frame among others that all have their places has its place.
placed_among : (p : Progress) (before : List Frame) (f : Frame) (further : List Frame) (q : Progress) → Leads InPlace p (before ++ (f ∷ further)) q
    → placed_frame (read_frames p before) f ≡ true
placed_among p [] f further q h = h.0
placed_among p (g ∷ before) f further q h = placed_among (grown p g) before f further q h.1

module _ (before : List Frame) (p : Progress) (r : Reached before p) where
  place_begins : (f : Frame) → placed_frame p f ≡ true → Begins (before ++ (f ∷ []))
  place_begins (a_frame k v) m =
      let q = r.growing.sequenced in
      rw (← r.frames, ← so_far_more p k v q m) (begins_so_far ((describe k).grown v p) ((lawful k).sequenced p v m q))
  place_begins no_frame m = absurd (false≢true m)

  begins_placed : (f : Frame) → Begins (before ++ (f ∷ [])) → placed_frame p f ≡ true
  begins_placed f b =
      let whole : before ++ (f ∷ b.further) ≡ frames_of b.table = sym (append_assoc before (f ∷ []) b.further) ∙ b.sequence in
      let l : Leads InPlace nothing (before ++ (f ∷ b.further)) (all_read b.table) = rw whole (places_lead b.table b.counts) in
      rw r.read at (placed_among nothing before f b.further _ l)

  -- ---- the conditions of a line

  module _ (l : List ℕ) where
    frame_rising : (f : Frame) → Rising no_line (checks p f)
    unfolding checks
    frame_rising (a_frame k v) = (omega arith, ((lawful k).numbered p.table v).0)
    frame_rising no_frame = omega arith

    pub line_rising : Rising 0 (line_checks p l)
    line_rising = (omega arith, frame_rising (line_frame l))

    frame_faults : (f : Frame) → line_frame l ≡ f → Faults (Fault before l) (checks p f)
    unfolding checks
    frame_faults (a_frame k v) e = (
      λ b. no_place (λ h. true≢false (sym (begins_placed (a_frame k v) (rw e at h)) ∙ b)),
      faults_as content ((describe k).content p.table v) ((lawful k).judges p.table v (few_so_far r.growing.sequenced)).faults,
    )
      where
        content : (n : ℕ) → ContentFault p.table ((describe k).judged v) n → Fault before l n
        content n h = bad_content n (rw (r.read, e) h)
    frame_faults no_frame e = ((λ b. no_form (λ h. (form_decides (bytes_of l)).no (ap is_frame e) h)), tt)

    pub line_faults : Faults (Fault before l) (line_checks p l)
    line_faults = ((λ b. not_line ((no_line_decides l).yes (rw b))), frame_faults (line_frame l) refl)

    frame_breaks : (f : Frame) → line_frame l ≡ f → (n : ℕ) → Fault before l n → Breaks n (or_else (is_line l) no_line ∷ checks p f)
    unfolding checks
    frame_breaks f e n (not_line h) = inl (not_holds (is_line l) (no_line_decides l) h, omega arith)
    frame_breaks (a_frame k v) e n (no_form h) = absurd (h ((form_decides (bytes_of l)).yes (ap is_frame e)))
    frame_breaks no_frame e n (no_form h) = inr (inl (refl, omega arith))
    frame_breaks (a_frame k v) e n (no_place h) = inr (inl (unplaced ((describe k).placed p v) refl, omega arith))
      where
        unplaced : (b : Bool) → (describe k).placed p v ≡ b → b ≡ false
        unplaced true m = absurd (h (rw e (place_begins (a_frame k v) m)))
        unplaced false m = refl
    frame_breaks no_frame e n (no_place h) = inr (inl (refl, omega arith))
    frame_breaks (a_frame k v) e n (bad_content m h) =
        let h' : ContentFault p.table ((describe k).judged v) m = rw (r.read, e) at h in
        inr (inr (((lawful k).judges p.table v (few_so_far r.growing.sequenced)).breaks m h'))
    frame_breaks no_frame e n (bad_content m h) =
        let h' : ContentFault p.table (judged_of no_frame) m = rw (r.read, e) at h in
        absurd (nothing_faulty p.table m h')

    pub line_breaks : (n : ℕ) → Fault before l n → Breaks n (line_checks p l)
    line_breaks n h = frame_breaks (line_frame l) refl n h
