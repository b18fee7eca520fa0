-- Laws of all kinds of frames:
--   InRange, lawful: each kind owes what Lawful says, of values whose numbers are in range
-- Assumes nothing.
use Rattle.policy.specs.Wellformed.{CoefficientsRule}
use Rattle.frames.specs.Parts.{box_widths}
use Rattle.frames.specs.Kinds.{FrameName, of_entity, of_cap, of_floor, of_filter, of_row, Value, describe}
use Rattle.frames.proofs.Laws.Growing.{Lawful}
use Rattle.frames.proofs.Laws.Entities.{entity_lawful}
use Rattle.frames.proofs.Laws.Caps.{cap_lawful}
use Rattle.frames.proofs.Laws.Floors.{floor_lawful}
use Rattle.frames.proofs.Laws.Filters.{FilterInRange, filter_lawful}
use Rattle.frames.proofs.Laws.Rows.{RowInRange, row_lawful}

-- What the numbers of a value keep because they are bytes of a line.
abbrev pub InRange : (k : FrameName) → Value k → Type 0
InRange of_entity = λ e. Unit {0}
InRange of_cap = λ c. CoefficientsRule c.coefficients
InRange of_floor = CoefficientsRule
InRange of_filter = FilterInRange
InRange of_row = RowInRange box_widths

pub lawful : (k : FrameName) → Lawful (InRange k) (describe k)
lawful of_entity = entity_lawful
lawful of_cap = cap_lawful
lawful of_floor = floor_lawful
lawful of_filter = filter_lawful
lawful of_row = row_lawful 5
