-- The least of what is above two things, by any relation.
-- Assumes nothing.

-- m is above both x and y, and whatever is above both is above m.
pub record LeastAbove {A : Type 0} (Above : A → A → Type 0) (x y m : A) : Type 0 where
  pub first : Above m x
  pub second : Above m y
  pub least : (z : A) → Above z x → Above z y → Above z m
