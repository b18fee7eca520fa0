-- Demand 1: "Every text that keeps the table rules of document 01 is accepted." What it is to keep them, of a whole text. And what a run of row lines is.
-- Assumes nothing.
use Rattle.std.specs.Prelude.{ℕ, suc, ◌≡◌, true, replicate}
use mathlib.Core.List.{List, [], ◌∷◌, ◌++◌, map, Memᴰ}
use Rattle.hexlines.specs.Lines.{is_line, bytes_of}
use Rattle.policy.specs.Model.{Coefficients, Row, Table}
use Rattle.policy.specs.Wellformed.{Wellformed}
use Rattle.reader.specs.Lines.{lines_of, rest_of}
use Rattle.frames.specs.Progress.{Progress, all_read}
use Rattle.frames.specs.Kinds.{of_entity, of_cap, of_floor, of_filter}
use Rattle.reader.specs.Frames.{Frame, a_frame, a_row, frame_of}

-- "six caps for technologies 1 to 6 in order"
abbrev pub cap_frames : ℕ → List Coefficients → List Frame
cap_frames technology [] = []
cap_frames technology (c ∷ cs) =
    a_frame of_cap (record { technology = technology; coefficients = c }) ∷ cap_frames (suc technology) cs

-- "Sequence: .. entities, six caps .., one floor, .. filters, .. rows." The frames of what has been read, with the floor or before it.
abbrev pub frames_so_far : Progress → List Frame
frames_so_far p =
    map (a_frame of_entity) p.table.entities
    ++ (cap_frames 1 p.table.caps
    ++ (replicate p.floored (a_frame of_floor p.table.floor) ++ (map (a_frame of_filter) p.table.filters ++ map a_row p.table.rows)))

-- The frames of a whole table.
abbrev pub frames_of : Table → List Frame
frames_of t = frames_so_far (all_read t)

-- The text is these frames, a line each.
pub record HasFrames (text : List ℕ) (fs : List Frame) : Type 0 where
  -- "each line ended by a line feed"
  pub ended : rest_of text ≡ []
  -- "pairs of digits 0-9 A-F", or a-f
  pub digits : (l : List ℕ) → Memᴰ l (lines_of text) → is_line l ≡ true
  -- "One frame a line"
  pub frames : map (λ l. frame_of (bytes_of l)) (lines_of text) ≡ fs

-- The text says the table t, and keeps the rules.
pub record KeepsRules (text : List ℕ) (t : Table) : Type 0 where
  -- frames in sequence
  pub says : HasFrames text (frames_of t)
  -- the rules of each frame, and how many there may be
  pub well : Wellformed t

-- Document 02, [6]: the text is a "run of row lines", of these rows. It may be empty.
abbrev pub RowRun : List ℕ → List Row → Type 0
RowRun text rows = HasFrames text (map a_row rows)
