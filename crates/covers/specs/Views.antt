-- What the code's structs stand for.
-- Assumes nothing.
use Rattle.std.specs.Prelude.{ℕ, ◌≤◌, ◌<◌, ◌≡◌, List, map, get_or, take, drop, length, Option, Some, None}
use Rattle.policy.specs.Limits.{most_rows, most_selectors}
use Rattle.policy.specs.Model.{Selector}
use Rattle.policy.specs.Views.{PacketStruct, value, packet_of, selector_in}
use Rattle.covers.specs.Least.{SearchResult, found, none}
use Rattle.policy.specs.declared.number.Number.{Number as NumberStruct}
use Rattle.covers.specs.declared.Boxes.{Boxes}

-- What is left of the selector at k past its first f fields.
abbrev pub box_at : List ℕ → ℕ → ℕ → Selector
box_at bounds f k = drop f (selector_in bounds k)

-- The listed boxes, past their first f fields.
abbrev pub boxes_at : List ℕ → Boxes → ℕ → List Selector
boxes_at bounds a f = map (box_at bounds f) (take a.count a.at)

-- The numbers are selectors', and there is room for what is counted.
pub record BoxNumbers (a : Boxes) : Type 0 where
  pub long : length a.at ≡ most_rows
  pub few : a.count ≤ most_rows
  pub within : (k : ℕ) → k < a.count → get_or a.at k 0 < most_selectors

-- They are these boxes, past their first f fields.
pub record BoxesAre (bounds : List ℕ) (a : Boxes) (f : ℕ) (bs : List Selector) : Type 0 where
  pub numbers : BoxNumbers a
  pub same : boxes_at bounds a f ≡ bs

-- What is found of a row and boxes stands for: the row's least packet that no box has, or that each packet is in one.
abbrev pub result_of : Option PacketStruct → SearchResult
result_of (Some p) = found (packet_of p)
result_of None = none

-- The value of a field that comes next, or that the field is at its end.
pub data NextValue : Type 0 where
  comes : ℕ → NextValue
  end : NextValue

-- What the code's next value of a field stands for.
abbrev pub next_of : Option NumberStruct → NextValue
next_of (Some n) = comes (value n)
next_of None = end
