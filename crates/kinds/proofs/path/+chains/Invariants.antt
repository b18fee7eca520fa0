-- No row before j is the next of a chain; the rows still allowed fall at each call.
use Rattle.std.proofs.Common.{ℕ, ◌≡◌, ◌-◌, Bool, false, List}
use Rattle.policy.specs.Model.{Selector}
use Rattle.policy.specs.Views.{selector_of, selector_in}
use Rattle.base.specs.Lists.{some}
use Rattle.kinds.specs.Views.{from_in, to_in}
use Rattle.kinds.proofs.Laws.Chains.{next}
use Rattle.kinds.proofs.path.+chains.Given as goal

-- whether row j is the next of a chain that may have one row fewer
abbrev pub test : (bounds roots : List ℕ) (rows left b a : ℕ) (visited : List ℕ) (s : Selector) → ℕ → Bool
test bounds roots rows left b a visited s = next (from_in roots) (to_in roots) (selector_in bounds) rows (left - 1) b a visited s

abbrev pub decreases-chains : goal.decreases-chains
decreases-chains l = l.left

abbrev pub invariant-loop-j : goal.invariant-loop-j
invariant-loop-j l = some l.j (test l.t.bounds l.roots l.t.rows l.left l.b l.a l.visited (selector_of l.s)) ≡ false
