-- What the bytes of a line say:
--   is_frame, form_decides: they are read as a frame exactly when they have the form of one
--   frame_said: they are read as just the frame that they say
-- Assumes nothing.
use mathlib.Core.Path.{◌≡◌, refl, sym, ap, ◌∙◌}
use mathlib.Core.Logic.{inl, inr, ◌↔◌}
use mathlib.Core.Bool.{Bool, true, false, false≢true, true≢false}
use mathlib.Core.List.{List, [], ◌∷◌}
use Prim.Native.Nat.{ℕ, ◌+◌}
use native.Mathlib.Omega.{arith}
use borrow.Author.Tests.{eq-eqb, lt-ltb, le-leb, eqb-true}
use lib.ListN.{length, get_or, get_or-eq_default}
use Rattle.base.specs.Truths.{pick, Decides}
use Rattle.frames.specs.Parts.{box_widths}
use Rattle.frames.specs.Kinds.{FrameName, of_entity, of_cap, of_floor, of_filter, of_row, describe}
use Rattle.base.proofs.Laws.Decides.{decides_holds}
use Rattle.frames.proofs.Laws.Filters.{filter_length_decides}
use Rattle.frames.proofs.Laws.Rows.{row_counted}
use Rattle.frames.proofs.Laws.Kinds.{lawful}
use Rattle.reader.specs.Frames.{Frame, a_frame, no_frame, frame_in, frame_of}
use Rattle.reader.specs.Forms.{HasForm, entity_form, cap_form, floor_form, filter_form, action_form, row_form, SaysFrame}
use Rattle.reader.proofs.Laws.States.{kind_own, kind_cases}

-- ---- the form of a frame

abbrev pub is_frame : Frame → Bool
is_frame (a_frame k v) = true
is_frame no_frame = false

frame_long : (k : FrameName) (bs : List ℕ) → is_frame (frame_in k bs) ≡ (describe k).long bs
frame_long k bs = go ((describe k).long bs)
  where
    go : (b : Bool) → is_frame (pick b (a_frame k ((describe k).value bs)) no_frame) ≡ b
    go true = refl
    go false = refl

-- The frame of a line with a kind's byte.
own_frame : (k : FrameName) (b : ℕ) (bs : List ℕ) → b ≡ (describe k).byte → frame_of (b ∷ bs) ≡ frame_in k bs
unfolding frame_of
own_frame k b bs e = rw (e, kind_own k bs)

-- It is one where it has the kind's length.
own_long : (k : FrameName) (b : ℕ) (bs : List ℕ) → b ≡ (describe k).byte → is_frame (frame_of (b ∷ bs)) ≡ (describe k).long bs
own_long k b bs e = ap is_frame (own_frame k b bs e) ∙ frame_long k bs

form_framed : (b : ℕ) (bs : List ℕ) → HasForm (b ∷ bs) → is_frame (frame_of (b ∷ bs)) ≡ true
form_framed b bs (entity_form e l) = own_long of_entity b bs e ∙ eq-eqb (length bs) 3 (omega arith)
form_framed b bs (cap_form e l) = own_long of_cap b bs e ∙ eq-eqb (length bs) 4 (omega arith)
form_framed b bs (floor_form e l) = own_long of_floor b bs e ∙ eq-eqb (length bs) 3 (omega arith)
form_framed b bs (filter_form e l) =
    let none : get_or bs 27 0 ≡ 0 = get_or-eq_default bs 0 (omega arith) in
    own_long of_filter b bs e ∙ decides_holds _ (filter_length_decides bs) (inl (omega arith), omega arith)
form_framed b bs (action_form e l a) = own_long of_filter b bs e ∙ decides_holds _ (filter_length_decides bs) (inr (omega arith), a)
form_framed b bs (row_form n e m few l) =
    own_long of_row b bs e
    ∙ rw (lt-ltb 33 (length bs) (omega arith), le-leb (get_or bs 33 0) 8 (omega arith)) (eq-eqb (length bs) (34 + get_or bs 33 0) (omega arith))

long_form : (k : FrameName) (b : ℕ) (bs : List ℕ) → b ≡ (describe k).byte → (describe k).long bs ≡ true → HasForm (b ∷ bs)
long_form of_entity b bs e h = let l = eqb-true (length bs) 3 h in entity_form e (omega arith)
long_form of_cap b bs e h = let l = eqb-true (length bs) 4 h in cap_form e (omega arith)
long_form of_floor b bs e h = let l = eqb-true (length bs) 3 h in floor_form e (omega arith)
long_form of_filter b bs e h =
    let l = (filter_length_decides bs).yes h in
    elim l.0 [ inl n ↦ filter_form e (omega arith) | inr n ↦ action_form e (omega arith) l.1 ]
long_form of_row b bs e h = let c = row_counted box_widths bs h in row_form (get_or bs 33 0) e refl c.0 (omega (arith, c.1))

framed_form : (b : ℕ) (bs : List ℕ) → is_frame (frame_of (b ∷ bs)) ≡ true → HasForm (b ∷ bs)
unfolding frame_of
framed_form b bs h = elim (kind_cases b) [
  | inl k ↦ long_form k.0 b bs k.1 (sym (own_long k.0 b bs k.1) ∙ h)
  | inr n ↦ absurd (false≢true (sym (ap is_frame (n bs)) ∙ h))
]

pub form_decides : (bs : List ℕ) → Decides (is_frame (frame_of bs)) (HasForm bs)
unfolding frame_of
form_decides [] = record { yes = λ e. absurd (false≢true e); no = λ e h. nothing_form h }
  where
    nothing_form : HasForm [] → ⊥
    nothing_form (entity_form e l) = omega arith
    nothing_form (cap_form e l) = omega arith
    nothing_form (floor_form e l) = omega arith
    nothing_form (filter_form e l) = omega arith
    nothing_form (action_form e l a) = omega arith
    nothing_form (row_form n e m few l) = omega arith
form_decides (b ∷ bs) = record { yes = framed_form b bs; no = λ e h. true≢false (sym (form_framed b bs h) ∙ e) }

-- ---- what they say

-- Bytes without a form.
no_frame_there : (bs : List ℕ) → (HasForm bs → ⊥) → frame_of bs ≡ no_frame
no_frame_there bs n = go (frame_of bs) refl
  where
    go : (f : Frame) → frame_of bs ≡ f → f ≡ no_frame
    go (a_frame k v) e = absurd (n ((form_decides bs).yes (ap is_frame e)))
    go no_frame e = refl

said_frame : (bs : List ℕ) (f : Frame) → SaysFrame bs f → frame_of bs ≡ f
said_frame [] (a_frame k v) s = absurd s
said_frame (b ∷ bs) (a_frame k v) s =
    let r = (lawful k).read bs v s.1 in
    own_frame k b bs s.0
    ∙ ap (λ (c : Bool). pick c (a_frame k ((describe k).value bs)) no_frame) r.0
    ∙ ap (a_frame k) r.1
said_frame [] no_frame s = no_frame_there [] s
said_frame (b ∷ bs) no_frame s = no_frame_there (b ∷ bs) s

frame_says : (b : ℕ) (bs : List ℕ) (f : Frame) → frame_of (b ∷ bs) ≡ f → SaysFrame (b ∷ bs) f
unfolding frame_of
frame_says b bs f q = elim (kind_cases b) [
  | inl h ↦ own h.0 h.1 ((describe h.0).long bs) refl
  | inr h ↦ rw (← q, h bs) (λ s. (form_decides (b ∷ bs)).no (ap is_frame (h bs)) s)
]
  where
    says : (k : FrameName) → b ≡ (describe k).byte → (c : Bool) → (describe k).long bs ≡ c
        → SaysFrame (b ∷ bs) (pick c (a_frame k ((describe k).value bs)) no_frame)
    says k e true l = (e, (lawful k).said bs l)
    says k e false l = λ s. (form_decides (b ∷ bs)).no (own_long k b bs e ∙ l) s

    own : (k : FrameName) → b ≡ (describe k).byte → (c : Bool) → (describe k).long bs ≡ c → SaysFrame (b ∷ bs) f
    own k e c l =
        let read : frame_of (b ∷ bs) ≡ pick c (a_frame k ((describe k).value bs)) no_frame =
        own_frame k b bs e ∙ ap (λ (x : Bool). pick x (a_frame k ((describe k).value bs)) no_frame) l in
        rw (← q, read) (says k e c l)

pub frame_said : (bs : List ℕ) (f : Frame) → (frame_of bs ≡ f) ↔ SaysFrame bs f
unfolding frame_of
frame_said [] f = (nothing_says f, said_frame [] f)
  where
    nothing_says : (g : Frame) → frame_of [] ≡ g → SaysFrame [] g
    nothing_says (a_frame k v) e = absurd (true≢false (sym (ap is_frame e)))
    nothing_says no_frame e = λ s. (form_decides []).no (ap is_frame e) s
frame_said (b ∷ bs) f = (frame_says b bs f, said_frame (b ∷ bs) f)
