-- Document 01, "The table text": "The first byte is the frame's kind." From the bytes of a line to its frame.
-- Assumes nothing.
use Rattle.std.specs.Prelude.{ℕ, List, [], ◌∷◌, eqb}
use Rattle.base.specs.Truths.{pick}
use Rattle.policy.specs.Model.{Row}
use Rattle.frames.specs.Kinds.{FrameName, of_row, Value, describe, frame_names}

pub data Frame : Type 0 where
  -- of this kind, and what it says
  a_frame : (k : FrameName) → Value k → Frame
  -- "unknown kind, length not the kind's, n above 8", "an action above 1"
  no_frame : Frame

abbrev pub a_row : Row → Frame
a_row r = a_frame of_row r

-- The frame of this kind, from the bytes after the kind byte.
abbrev pub frame_in : FrameName → List ℕ → Frame
frame_in k bs = pick ((describe k).long bs) (a_frame k ((describe k).value bs)) no_frame

-- The frame of that of some kinds whose kind byte this is.
abbrev pub frame_among : List FrameName → ℕ → List ℕ → Frame
frame_among [] byte bs = no_frame
frame_among (k ∷ ks) byte bs = pick (eqb byte (describe k).byte) (frame_in k bs) (frame_among ks byte bs)

unfoldable pub frame_of_kind : ℕ → List ℕ → Frame
frame_of_kind byte bs = frame_among frame_names byte bs

unfoldable pub frame_of : List ℕ → Frame
frame_of [] = no_frame
frame_of (k ∷ bs) = frame_of_kind k bs
