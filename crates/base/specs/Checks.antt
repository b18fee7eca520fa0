-- Conditions that what is read or asked must keep, and the numbers of their refusals.
-- Assumes nothing.
use Rattle.std.specs.Prelude.{ℕ, Bool, List, [], ◌∷◌}
use Rattle.base.specs.Truths.{pick}

-- A condition, and the number that refuses what breaks it.
pub record Check : Type 0 where
  pub holds : Bool
  pub number : ℕ

abbrev pub or_else : Bool → ℕ → Check
or_else b n = record { holds = b; number = n }

-- The number of the first condition that is broken, 0 where none is. Conditions stand by ascending number, so it is the least.
unfoldable pub refusal : List Check → ℕ
refusal [] = 0
refusal (c ∷ cs) = pick c.holds (refusal cs) c.number
