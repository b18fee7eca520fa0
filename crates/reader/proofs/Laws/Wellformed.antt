-- What holds of everything that a reader has read, and so of a text:
--   InFrame, in_range: the numbers of a line's frame are in range
--   kept, never_none: a frame that is not refused has its place in the sequence and keeps its rules, and is a frame
--   growing_frame: what has been read keeps its rules with each frame that is not refused
--   one_line: such a frame is one line
--   Read, run_read: after n lines the table has n, and they keep the rules
--   accepted_wellformed: an accepted table is well-formed
--   refused_line: a refusal's number is from 1 to the last of a text's, and its line is below 256
-- Assumes nothing.
use mathlib.Core.Path.{◌≡◌, refl}
use mathlib.Core.Bool.{true, false, false≢true}
use mathlib.Core.List.{List, [], ◌∷◌}
use Prim.Native.Nat.{ℕ, suc, ◌<◌, ◌≤◌}
use native.Mathlib.Omega.{arith}
use borrow.Author.Tests.{eqb-true, eqb-false}
use lib.Dec.{eqb}
use lib.ListN.{length}
use Rattle.base.specs.Answers.{Answer, returned, refused_by}
use Rattle.base.specs.Checks.{refusal}
use Rattle.base.proofs.Laws.Checks.{refusal_none, Numbered, refusal_most}
use Rattle.hexlines.specs.Digits.{byte_of}
use Rattle.hexlines.specs.Lines.{is_line, bytes_of}
use Rattle.policy.specs.Model.{Table}
use Rattle.policy.specs.Wellformed.{Wellformed}
use Rattle.frames.specs.Refusals.{wrong_form, out_of_sequence, last_of_text}
use Rattle.frames.specs.Progress.{Progress, nothing, lines_read}
use Rattle.frames.specs.Kinds.{FrameName, Value, describe, frame_names}
use Rattle.frames.proofs.Laws.Growing.{Growing, growing_nothing, whole, few_lines}
use Rattle.frames.proofs.Laws.Kinds.{InRange, lawful}
use Rattle.reader.specs.Lines.{lines_of, rest_of}
use Rattle.reader.specs.Frames.{Frame, a_frame, no_frame, frame_among, frame_of_kind, frame_of}
use Rattle.reader.specs.States.{Parsed, table_read, State, reading, refused, checks, grown, take_frame, step, run, finish, parse}
use Rattle.reader.proofs.Laws.Runs.{pick_either, run_keeps}

-- ---- the numbers of a line's frame

abbrev pub InFrame : Frame → Type 0
InFrame (a_frame k v) = InRange k v
InFrame no_frame = Unit {0}

among_in_range : (ks : List FrameName) (byte : ℕ) (l : List ℕ) → InFrame (frame_among ks byte (bytes_of l))
among_in_range [] byte l = tt
among_in_range (k ∷ ks) byte l =
    pick_either InFrame (eqb byte (describe k).byte) _ _
    (λ e. pick_either InFrame ((describe k).long (bytes_of l)) _ _ ((lawful k).in_range l) (λ h. tt))
    (λ e. among_in_range ks byte l)

pub in_range : (l : List ℕ) → InFrame (frame_of (bytes_of l))
unfolding frame_of frame_of_kind
in_range [] = tt
in_range (a ∷ []) = tt
in_range (a ∷ b ∷ l) = among_in_range frame_names (byte_of a b) l

-- ---- a frame that is not refused

module _ (p : Progress) where
  pub kept : (k : FrameName) (v : Value k) → refusal (checks p (a_frame k v)) ≡ 0
      → ((describe k).placed p v ≡ true) × (refusal ((describe k).content p.table v) ≡ 0)
  unfolding checks
  kept k v h = refusal_none ((describe k).placed p v) out_of_sequence ((describe k).content p.table v) (λ z. omega arith) h

  -- A line that is no frame is refused.
  pub never_none : refusal (checks p no_frame) ≡ 0 → ⊥
  unfolding checks
  never_none h = false≢true (refusal_none false wrong_form [] (λ z. omega arith) h).0

  pub growing_frame : (f : Frame) → InFrame f → Growing p → refusal (checks p f) ≡ 0 → Growing (grown p f)
  unfolding grown
  growing_frame (a_frame k v) i g h = let q = kept k v h in (lawful k).growing p v i g q.0 q.1
  growing_frame no_frame i g h = absurd (never_none h)

  -- It is one line.
  pub one_line : (f : Frame) → refusal (checks p f) ≡ 0 → lines_read (grown p f) ≡ suc (lines_read p)
  unfolding grown
  one_line (a_frame k v) h = (lawful k).one_line p v (kept k v h).0
  one_line no_frame h = absurd (never_none h)

  checks_numbered : (f : Frame) → Numbered last_of_text (checks p f)
  unfolding checks
  checks_numbered (a_frame k v) = (omega arith, ((lawful k).numbered p.table v).1)
  checks_numbered no_frame = omega arith

-- ---- a text

-- A refusal by the number k at line n.
abbrev Small : ℕ → ℕ → Type 0
Small k n = (n < 256) × ((1 ≤ k) × (k ≤ last_of_text))

-- After n lines: what has been read has as many, and keeps its rules.
pub record Read (n : ℕ) (p : Progress) : Type 0 where
  pub lines : n ≡ lines_read p
  pub growing : Growing p

-- What holds of a state: of what is read, or of the refusal.
abbrev Sound : State → Type 0
Sound (reading n p) = Read n p
Sound (refused k n) = Small k n

-- The next line is a small number.
next_small : (n : ℕ) (p : Progress) → Read n p → suc n < 256
next_small n p r = omega (arith, r.lines, few_lines r.growing.sequenced)

frame_sound : (n : ℕ) (p : Progress) (f : Frame) → InFrame f → Read n p → Sound (take_frame n p f)
unfolding take_frame
frame_sound n p f i r =
    pick_either Sound (eqb (refusal (checks p f)) 0) _ _
    (λ e.
    let z = eqb-true (refusal (checks p f)) 0 e in
    record { lines = cc (r.lines, one_line p f z); growing = growing_frame p f i r.growing z })
    (λ e.
    let z = eqb-false (refusal (checks p f)) 0 e in
    omega (arith, next_small n p r, refusal_most last_of_text (checks p f) (checks_numbered p f)))

line_sound : (s : State) (line : List ℕ) → Sound s → Sound (step s line)
unfolding step
line_sound (reading n p) line r =
    pick_either Sound (is_line line) _ _ (λ e. frame_sound n p (frame_of (bytes_of line)) (in_range line) r)
    (λ e. omega (arith, next_small n p r))
line_sound (refused k n) line r = r

-- What holds of every state that lines lead to.
run_sound : (lines : List (List ℕ)) → Sound (run (reading 0 nothing) lines)
run_sound lines =
    run_keeps Sound line_sound (reading 0 nothing) lines (record { lines = refl; growing = growing_nothing })

-- The same of lines that are not refused.
pub run_read : (lines : List (List ℕ)) (n : ℕ) (p : Progress) → run (reading 0 nothing) lines ≡ reading n p → Read n p
run_read lines n p e = rw e at (run_sound lines)

growing_wellformed : (p : Progress) → Growing p → p.floored ≡ 1 → Wellformed p.table
growing_wellformed p g f =
    let c = whole g.sequenced f in
    record {
      counts = c;
      entity = g.entity;
      cap = λ k h. g.cap k (omega (arith, c.six_caps));
      floor = g.floor f;
      filter = g.filter;
      row = g.row;
    }

-- What holds of what a text is.
abbrev Ended : Answer Parsed → Type 0
Ended (returned r) = Wellformed r.table
Ended (refused_by k n) = Small k n

end_sound : (s : State) (rest : List ℕ) → Sound s → Ended (finish s rest)
unfolding finish
end_sound (reading n p) rest r =
    pick_either Ended (eqb (length rest) 0) _ _
    (λ e. pick_either Ended (eqb p.floored 1) _ _ (λ f. growing_wellformed p r.growing (eqb-true _ _ f))
    (λ f. omega (arith, next_small n p r)))
    (λ e. omega (arith, next_small n p r))
end_sound (refused k n) rest r = r

parse_sound : (text : List ℕ) → Ended (parse text)
unfolding parse
parse_sound text = end_sound (run (reading 0 nothing) (lines_of text)) (rest_of text) (run_sound (lines_of text))

pub accepted_wellformed : (text : List ℕ) (t : Table) → parse text ≡ returned (table_read t) → Wellformed t
accepted_wellformed text t e = rw e at (parse_sound text)

pub refused_line : (text : List ℕ) (k n : ℕ) → parse text ≡ refused_by k n → (n < 256) × ((1 ≤ k) × (k ≤ last_of_text))
refused_line text k n e = rw e at (parse_sound text)
