-- Covers: what a part of the search that finds nothing has learnt, a set of boxes.
-- Assumes nothing.
use Rattle.std.specs.Prelude.{ℕ, ◌+◌, ◌^◌, ◌≤◌, ◌≡◌, ◌⊎◌, List, [], ◌∷◌, map, eqb, ltb, get_or, Bool, true, Option, Some, None, MatchOption}
use Rattle.std.specs.Option.{unwrap_or}
use Rattle.std.specs.List.{find}
use Rattle.std.specs.Int.Bits.{bit_and}
use Rattle.base.specs.Truths.{pick}
use Rattle.policy.specs.Model.{Range, Selector}
use Rattle.policy.specs.Views.{range_in}
use Rattle.relations.specs.Ranges.{Within}
use Rattle.covers.specs.Sets.{In, field_of}
use Rattle.covers.specs.Views.{NextValue, comes, end}

-- ---- the boxes of a set

-- The fields fs of the box at place k, in their order, and the high of its field f.
abbrev pub box_in : (bounds at fs : List ℕ) (k : ℕ) → Selector
box_in bounds at fs k = map (range_in bounds (get_or at k 0)) fs

abbrev pub high_of : (bounds at : List ℕ) (f k : ℕ) → ℕ
high_of bounds at f k = (field_of bounds at f k).high

-- ---- how far a cover reaches

-- m is the least of `top` and the highs of the boxes of the set.
pub record Reaches (high : ℕ → ℕ) (set top m : ℕ) : Type 0 where
  pub most : m ≤ top
  pub each : (k : ℕ) → In set k → m ≤ high k
  pub reached : (m ≡ top) ⊎ ((k : ℕ) × In set k × (m ≡ high k))

-- The candidate past m, where that is below the row's high.
abbrev pub past : ℕ → ℕ → NextValue
past m high = pick (ltb m high) (comes (m + 1)) end

-- The candidate after the values that a cover takes: one past its least high.
pub record Follows (high : ℕ → ℕ) (set top : ℕ) (n : NextValue) : Type 0 where
  pub least : ℕ
  pub reaches : Reaches high set top least
  pub next : n ≡ past least top

-- The first candidate of a field for which this cover is known: none, and the row's low where none is known.
abbrev pub opening : Option ℕ → ℕ → NextValue
opening (Some cover) low = end
opening None low = comes low

-- Of the boxes of the set those whose field holds v.
abbrev pub Holding : (field : ℕ → Range) (set v k : ℕ) → Type 0
Holding field set v k = In set k × Within (field k) v

-- One of these alone, and none of them has a greater high.
pub record Furthest (field : ℕ → Range) (set v one : ℕ) : Type 0 where
  pub place : ℕ
  pub alone : one ≡ 2 ^ place
  pub among : Holding field set v place
  pub furthest : (k : ℕ) → Holding field set v k → (field k).high ≤ (field place).high

-- Such a box, or none where none of the set holds v.
abbrev pub FurthestIfAny : (field : ℕ → Range) (set v : ℕ) → Option ℕ → Type 0
FurthestIfAny field set v one = MatchOption one ((k : ℕ) → Holding field set v k → ⊥) (Furthest field set v)

-- ---- covers that are kept

-- How many are kept for a field.
abbrev pub kept_covers : ℕ
kept_covers = 16

-- Where the kept covers are looked at no further: a cover whose boxes are all in the set, or an empty place.
abbrev pub stops : ℕ → Option ℕ → Bool
stops set None = true
stops set (Some c) = eqb (bit_and c set) c

-- The first of the kept covers whose boxes are all in the set. An empty place ends them.
abbrev pub recall : ℕ → List (Option ℕ) → Option ℕ
recall set kept = unwrap_or (find (stops set) kept) None

-- This is no cover, or is c.
abbrev pub ends : ℕ → Option ℕ → Bool
ends c None = true
ends c (Some y) = eqb y c

-- The covers with x before them: each goes to the place of the next, up to an empty place or c, which goes.
unfoldable pub shifted : ℕ → Option ℕ → List (Option ℕ) → List (Option ℕ)
shifted c x [] = []
shifted c x (y ∷ ys) = x ∷ pick (ends c y) ys (shifted c y ys)
