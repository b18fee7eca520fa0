-- Document 01, "The table text" and the table of refusals: the reader's states, what each line does, and a whole text.
-- Assumes nothing.
use Rattle.std.specs.Prelude.{ℕ, suc, false, List, [], ◌∷◌, eqb, length}
use Rattle.base.specs.Answers.{Answer, returned, refused_by}
use Rattle.base.specs.Checks.{Check, or_else, refusal}
use Rattle.base.specs.Truths.{pick}
use Rattle.hexlines.specs.Lines.{is_line, bytes_of}
use Rattle.policy.specs.Model.{Table}
use Rattle.frames.specs.Refusals.{no_line, wrong_form, out_of_sequence}
use Rattle.frames.specs.Progress.{Progress, nothing}
use Rattle.frames.specs.Kinds.{describe}
use Rattle.reader.specs.Lines.{lines_of, rest_of}
use Rattle.reader.specs.Frames.{Frame, a_frame, no_frame, frame_of}

-- What was read of a text that is accepted. Calls are defined on it.
pub record Parsed : Type 0 where
  pub table : Table

abbrev pub table_read : Table → Parsed
table_read t = record { table = t }

-- After n lines, or refused at a line.
pub data State : Type 0 where
  reading : ℕ → Progress → State
  refused : ℕ → ℕ → State

-- What a frame must keep here: 2 its form, 3 its place in the sequence, 4 to 7 its content.
unfoldable pub checks : Progress → Frame → List Check
checks p (a_frame k v) = or_else ((describe k).placed p v) out_of_sequence ∷ (describe k).content p.table v
checks p no_frame = or_else false wrong_form ∷ []

-- What a line must keep here: 1 that it is one, and what its frame must keep.
abbrev pub line_checks : Progress → List ℕ → List Check
line_checks p line = or_else (is_line line) no_line ∷ checks p (frame_of (bytes_of line))

-- With the frame's value.
unfoldable pub grown : Progress → Frame → Progress
grown p (a_frame k v) = (describe k).grown v p
grown p no_frame = p

-- A frame after n lines.
unfoldable pub take_frame : ℕ → Progress → Frame → State
take_frame n p f =
    pick (eqb (refusal (checks p f)) 0) (reading (suc n) (grown p f)) (refused (refusal (checks p f)) (suc n))

-- One line, without its line feed. The first faulty line counts.
unfoldable pub step : State → List ℕ → State
step (reading n p) line = pick (is_line line) (take_frame n p (frame_of (bytes_of line))) (refused no_line (suc n))
step (refused number line') line = refused number line'

unfoldable pub run : State → List (List ℕ) → State
run s [] = s
run s (line ∷ lines) = run (step s line) lines

-- At the text's end. "last line without line feed": 1. "a text ending before the floor gives last line + 1": 3.
unfoldable pub finish : State → List ℕ → Answer Parsed
finish (reading n p) rest =
    pick (eqb (length rest) 0) (pick (eqb p.floored 1) (returned (table_read p.table)) (refused_by out_of_sequence (suc n))) (refused_by no_line (suc n))
finish (refused number line) rest = refused_by number line

unfoldable pub parse : List ℕ → Answer Parsed
parse text = finish (run (reading 0 nothing) (lines_of text)) (rest_of text)
