-- Document 01's table of returns: the faults of a line and of a text's end, by their numbers, and which of a text's faults counts. Its numbers
-- stand here as it prints them. (4 to 7, the faults of what a frame says, are `ContentFault` of `frames`.)
-- Assumes nothing.
use Rattle.std.specs.Prelude.{ℕ, zero, suc, ◌+◌, ◌≤◌, ◌<◌, ◌≡◌}
use mathlib.Core.List.{List, [], ◌∷◌, ◌++◌, Memᴰ}
use Rattle.hexlines.specs.Lines.{NoLine, bytes_of}
use Rattle.policy.specs.Model.{Coefficients, Table}
use Rattle.policy.specs.Wellformed.{Counts}
use Rattle.frames.specs.Faults.{Claim, ContentFault}
use Rattle.frames.specs.Progress.{Progress, nothing}
use Rattle.frames.specs.Kinds.{of_floor, describe}
use Rattle.reader.specs.Lines.{lines_of, rest_of}
use Rattle.reader.specs.Frames.{Frame, a_frame, no_frame, frame_of}
use Rattle.reader.specs.Forms.{HasForm}
use Rattle.reader.specs.States.{grown}
use Rattle.reader.specs.Rules.{frames_of}

-- The sequence can go on after these frames: they, and some further ones, are those of a table with as many of each as there may be.
pub record Begins (fs : List Frame) : Type 0 where
  pub further : List Frame
  pub table : Table
  pub sequence : fs ++ further ≡ frames_of table
  pub counts : Counts table

-- What is read with these frames after p.
abbrev pub read_frames : Progress → List Frame → Progress
read_frames p [] = p
read_frames p (f ∷ fs) = read_frames (grown p f) fs

abbrev pub judged_of : Frame → List Claim
judged_of (a_frame k v) = (describe k).judged v
judged_of no_frame = []

-- A fault of a line, after the frames of the lines before it.
pub data Fault (before : List Frame) (line : List ℕ) : ℕ → Type 0 where
  -- "empty line, other character, odd digits"
  not_line : NoLine line → Fault before line 1
  -- "unknown kind, length not the kind's, n above 8", "an action above 1"
  no_form : (HasForm (bytes_of line) → ⊥) → Fault before line 2
  -- "the sequence can't go on so"
  no_place : (Begins (before ++ (frame_of (bytes_of line) ∷ [])) → ⊥) → Fault before line 3
  -- 4 to 7, by the table that was read before it
  bad_content : (n : ℕ) → ContentFault (read_frames nothing before).table (judged_of (frame_of (bytes_of line))) n → Fault before line n

-- A fault of the text's end, after the frames of its lines, with what stands after its last line feed.
pub data EndFault (before : List Frame) (rest : List ℕ) : ℕ → Type 0 where
  -- "last line without line feed"
  feed_missing : (rest ≡ [] → ⊥) → EndFault before rest 1
  -- "a text ending before the floor"
  floor_missing : rest ≡ [] → ((c : Coefficients) → Memᴰ (a_frame of_floor c) before → ⊥) → EndFault before rest 3

-- The fault n at place k, from 0, of these lines after the frames before them. The text's end stands after the last line: "gives last line + 1".
abbrev pub FaultFrom : List Frame → List (List ℕ) → List ℕ → ℕ → ℕ → Type 0
FaultFrom before [] rest zero n = EndFault before rest n
FaultFrom before [] rest (suc k) n = ⊥
FaultFrom before (line ∷ lines) rest zero n = Fault before line n
FaultFrom before (line ∷ lines) rest (suc k) n = FaultFrom (before ++ (frame_of (bytes_of line) ∷ [])) lines rest k n

abbrev pub FaultAt : List ℕ → ℕ → ℕ → Type 0
FaultAt text k n = FaultFrom [] (lines_of text) (rest_of text) k n

-- "The first faulty line counts (lines from 1), there the least number."
pub record FirstFault (text : List ℕ) (number line : ℕ) : Type 0 where
  pub place : ℕ
  pub counted : line ≡ place + 1
  pub first : (k n : ℕ) → k < place → FaultAt text k n → ⊥
  pub fault : FaultAt text place number
  pub least : (n : ℕ) → FaultAt text place n → number ≤ n
