-- Sets of boxes of a list. A set is a number: bit k is 1 where the box at place k of the list is in it.
-- Assumes nothing.
use Rattle.std.specs.Prelude.{ℕ, ◌<◌, ◌≡◌, true, List, get_or, Option, MatchOption}
use Rattle.base.specs.Bits.{marked}
use Rattle.policy.specs.Limits.{most_rows, most_selectors}
use Rattle.policy.specs.Model.{Range, Selector, Packet}
use Rattle.policy.specs.Views.{range_in}
use Rattle.relations.specs.Ranges.{Within}
use Rattle.relations.specs.Selectors.{Holds}

-- The box at place k is in the set.
abbrev pub In : ℕ → ℕ → Type 0
In set k = marked set k ≡ true

-- The first box of a set is at place j, and `left` are its others, which come after it.
pub record FirstOf (set j left : ℕ) : Type 0 where
  pub member : In set j
  pub small : j < most_rows
  pub part : (k : ℕ) → In left k → In set k
  pub later : (k : ℕ) → In left k → j < k
  pub others : (k : ℕ) → In set k → (k ≡ j → ⊥) → In left k

-- A step through the boxes of a set: it gives the first and leaves the others, or none where there is no box.
abbrev pub Steps : (set : ℕ) → Option ℕ → (left : ℕ) → Type 0
Steps set r left = MatchOption r ((k : ℕ) → In set k → ⊥) (λ j. FirstOf set j left)

-- The boxes of a set are selectors, by their numbers.
abbrev pub Numbered : (at : List ℕ) (set : ℕ) → Type 0
Numbered at set = (k : ℕ) → In set k → get_or at k 0 < most_selectors

-- Field f of the box at place k.
abbrev pub field_of : (bounds at : List ℕ) (f k : ℕ) → Range
field_of bounds at f k = range_in bounds (get_or at k 0) f

-- Of the boxes P those whose field holds v are Q.
pub record Narrowed (field : ℕ → Range) (P : ℕ → Type 0) (v : ℕ) (Q : ℕ → Type 0) : Type 0 where
  pub part : (k : ℕ) → Q k → P k
  pub holds : (k : ℕ) → Q k → Within (field k) v
  pub all : (k : ℕ) → P k → Within (field k) v → Q k

-- One of the boxes that are chosen has the packet.
pub record HeldBy (box : ℕ → Selector) (chosen : ℕ → Type 0) (q : Packet) : Type 0 where
  pub place : ℕ
  pub choice : chosen place
  pub holds : Holds (box place) q

-- The set is a cover of s: together its boxes hold every packet of s.
abbrev pub CoveredBy : (ℕ → Selector) → Selector → ℕ → Type 0
CoveredBy box s set = (q : Packet) → Holds s q → HeldBy box (In set) q
