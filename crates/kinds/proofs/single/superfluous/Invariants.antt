-- `ridden` says whether a row before j rides in row i; none that does is weaker in a coefficient.
use Rattle.std.proofs.Common.{ℕ, ◌≡◌, Bool, false, not, ◌&&◌}
use lib.Dec.{eqb}
use Rattle.base.specs.Lists.{some}
use Rattle.relations.specs.Coefficients.{at_least}
use Rattle.kinds.specs.Tests.{rides}
use Rattle.kinds.specs.Views.{Placed, placed_in}
use Rattle.kinds.proofs.single.superfluous.Given as goal

-- whether row j rides in row i, and whether it does so weaker in a coefficient
module _ (at : ℕ → Placed) (i : ℕ) where
  abbrev pub riding : ℕ → Bool
  riding j = not (eqb j i) && rides (at j) (at i)

  abbrev pub weak : ℕ → Bool
  weak j = riding j && not (at_least (at j).row.coefficients (at i).row.coefficients)

  -- of the rows before n
  pub record Riders (n : ℕ) (ridden : Bool) : Type 0 where
    pub rode : ridden ≡ some n riding
    pub none_weak : some n weak ≡ false

abbrev pub invariant-loop-j : goal.invariant-loop-j
invariant-loop-j l = Riders (placed_in l.t.heads l.t.bounds l.roots) l.i l.j l.ridden
