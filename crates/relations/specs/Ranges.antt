-- Document 01, "Relations": one field of a selector, a range of numbers of any width; document 02, [2]: the smallest that holds two.
-- Assumes nothing.
use Rattle.std.specs.Prelude.{ℕ, ◌≤◌, min, max, Bool, ◌&&◌, leb, eqb}
use Rattle.policy.specs.Model.{Range}

-- The number is in the range.
pub record Within (r : Range) (x : ℕ) : Type 0 where
  pub low : r.low ≤ x
  pub high : x ≤ r.high

abbrev pub within : Range → ℕ → Bool
within r x = leb r.low x && leb x r.high

-- Of ranges that are not empty: every number of q is in r.
abbrev pub contains_range : Range → Range → Bool
contains_range r q = leb r.low q.low && leb q.high r.high

-- Of ranges that are not empty: some number is in both.
abbrev pub overlaps_range : Range → Range → Bool
overlaps_range r q = leb r.low q.high && leb q.low r.high

-- Some number is in the range.
abbrev pub inhabited_range : Range → Bool
inhabited_range r = leb r.low r.high

-- The two are the same.
abbrev pub same_range : Range → Range → Bool
same_range r q = eqb r.low q.low && eqb r.high q.high

-- The range of the numbers that are in both.
abbrev pub meet_range : Range → Range → Range
meet_range r q = record { low = max r.low q.low; high = min r.high q.high }

-- The smallest range that holds both.
abbrev pub hull_range : Range → Range → Range
hull_range r q = record { low = min r.low q.low; high = max r.high q.high }
