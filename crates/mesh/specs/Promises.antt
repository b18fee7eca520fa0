-- Document 02, [8]: what is shown of cuts and cells, once, for any number of fields.
-- Assumes nothing.
use Rattle.std.specs.Prelude.{ℕ, ◌+◌, ◌<◌, ◌≡◌, ◌↔◌, ◌⊎◌, length, get_or}
use mathlib.Core.List.{List, map, Memᴰ}
use Rattle.base.specs.Lists.{Ascends}
use Rattle.policy.specs.Model.{Range, Selector, Packet, no_range}
use Rattle.relations.specs.Ranges.{Within}
use Rattle.relations.specs.Selectors.{lows, Holds}
use Rattle.covers.specs.Least.{SearchResult, found, none, ◌≤ₚ◌, Claimed, Right}
use Rattle.mesh.specs.Mesh.{cuts, cells, mesh}

-- "before each low and after each high", inside the row's range, which begins with its own low.
pub record Cut (r : Range) (qs : List Range) (x : ℕ) : Type 0 where
  pub inside : Within r x
  pub at : (x ≡ r.low) ⊎ ((q : Range) × Memᴰ q qs × ((x ≡ q.low) ⊎ (x ≡ q.high + 1)))

-- Of a field: its cuts are these and no others, ascending, each once.
pub record Cuts (r : Range) (qs : List Range) : Type 0 where
  pub exact : (x : ℕ) → Memᴰ x (cuts r qs) ↔ Cut r qs x
  pub ascend : Ascends ◌<◌ (cuts r qs)

-- Each number of the packet is a cut of its field: of the row's range there, by those of the boxes.
pub record CutInEach (s : Selector) (bs : List Selector) (p : Packet) : Type 0 where
  pub count : length p ≡ length s
  pub each : (f : ℕ) → f < length s → Cut (get_or s f no_range) (map (λ b. get_or b f no_range) bs) (get_or p f 0)

-- The answer is the first of these packets that no box has; none where each is in a box.
abbrev pub FirstUnclaimed : Selector → List Selector → SearchResult → Type 0
FirstUnclaimed s bs (found p) =
    CutInEach s bs p × (Claimed bs p → ⊥) × ((q : Packet) → CutInEach s bs q → (Claimed bs q → ⊥) → p ≤ₚ q)
FirstUnclaimed s bs none = (q : Packet) → CutInEach s bs q → Claimed bs q

-- Of a row and boxes with as many fields:
pub record Cells (s : Selector) (bs : List Selector) : Type 0 where
  -- the cells are the row: every packet of it is in one, and no other packet is
  pub whole : (p : Packet) → Holds s p ↔ ((c : Selector) × Memᴰ c (cells s bs) × Holds c p)
  -- "all packets of a cell lie in the same of those boxes"
  pub alike : (c b : Selector) (p q : Packet) → Memᴰ c (cells s bs) → Memᴰ b bs → Holds c p → Holds c q → Holds b p → Holds b q
  -- "the least packet of each cell"
  pub least : (c : Selector) → Memᴰ c (cells s bs) → Holds c (lows c) × ((p : Packet) → Holds c p → lows c ≤ₚ p)
  -- these are just the packets of which each number is a cut of its field
  pub corners : (p : Packet) → ((c : Selector) × Memᴰ c (cells s bs) × (p ≡ lows c)) ↔ CutInEach s bs p
  -- the cells in ascending order of these, each once
  pub ascend : Ascends (λ c d. (lows c ≤ₚ lows d) × (lows c ≡ lows d → ⊥)) (cells s bs)
  -- some packet of the row is in no box exactly when the least packet of some cell is
  pub decides : ((p : Packet) × Holds s p × (Claimed bs p → ⊥)) ↔ ((c : Selector) × Memᴰ c (cells s bs) × (Claimed bs (lows c) → ⊥))
  -- the answer is the first of the examined packets that no box has
  pub first : FirstUnclaimed s bs (mesh s bs)
  -- and that is the least of all
  pub right : Right s bs (mesh s bs)
