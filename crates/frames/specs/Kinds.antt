-- Document 01, "The table text": the kinds of frames. A further kind is a constructor, what its frames say, its description, and an entry of `frame_names`.
-- Assumes nothing.
use Rattle.std.specs.Prelude.{List, [], ◌∷◌}
use Rattle.policy.specs.Model.{Entity, Coefficients, Filter, Row}
use Rattle.frames.specs.Parts.{box_widths}
use Rattle.frames.specs.Progress.{FrameKind}
use Rattle.frames.specs.Entities.{entity_kind}
use Rattle.frames.specs.Caps.{Cap, cap_kind}
use Rattle.frames.specs.Floors.{floor_kind}
use Rattle.frames.specs.Filters.{filter_kind}
use Rattle.frames.specs.Rows.{row_kind}

pub data FrameName : Type 0 where
  of_entity : FrameName
  of_cap : FrameName
  of_floor : FrameName
  of_filter : FrameName
  of_row : FrameName

-- What a frame of the kind says.
abbrev pub Value : FrameName → Type 0
Value of_entity = Entity
Value of_cap = Cap
Value of_floor = Coefficients
Value of_filter = Filter
Value of_row = Row

abbrev pub describe : (k : FrameName) → FrameKind (Value k)
describe of_entity = entity_kind
describe of_cap = cap_kind
describe of_floor = floor_kind
describe of_filter = filter_kind
describe of_row = row_kind 5 box_widths

abbrev pub frame_names : List FrameName
frame_names = of_entity ∷ of_cap ∷ of_floor ∷ of_filter ∷ of_row ∷ []
