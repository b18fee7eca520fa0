-- The struck text line by line.
-- Assumes nothing.
use Rattle.std.specs.Prelude.{ℕ, suc, ◌-◌, ◌≤◌, ◌<◌, ◌≡◌, Bool, false, not, ◌||◌, List, [], ◌∷◌, leb, ltb, length, get_or}
use Rattle.base.specs.Truths.{pick}
use Rattle.policy.specs.Limits.{most_rows}
use Rattle.policy.specs.Model.{Table}
use Rattle.verdicts.specs.Verdicts.{dead}

-- At each row's place stands whether it is dead, and past the rows no flag is set.
pub record DeadRows (t : Table) (flags : List Bool) : Type 0 where
  pub at : (i : ℕ) → i < length t.rows → get_or flags i false ≡ dead t i
  pub past : (i : ℕ) → length t.rows ≤ i → get_or flags i false ≡ false

-- The line at place n is kept: it is one of the others before the rows, or of a row whose flag is not set.
abbrev pub keeps : List Bool → ℕ → ℕ → Bool
keeps flags others n = ltb n others || (leb most_rows (n - others) || not (get_or flags (n - others) false))

-- The lines that are kept, of some whose first is at place n.
abbrev pub lines_kept : (ℕ → Bool) → ℕ → List (List ℕ) → List (List ℕ)
lines_kept keep n [] = []
lines_kept keep n (l ∷ ls) = pick (keep n) (l ∷ lines_kept keep (suc n) ls) (lines_kept keep (suc n) ls)
