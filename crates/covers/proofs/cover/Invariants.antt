-- The first j rows are looked at; those of them that cover row i are kept, in order.
use Rattle.policy.specs.Limits.{most_rows, most_selectors}
use Rattle.policy.specs.Views.{selector_in}
use Rattle.base.proofs.Laws.Passing.{Keeping}
use Rattle.covers.specs.Covers.{cover_in}
use Rattle.covers.proofs.Laws.Covers.{cover_from}
use Rattle.covers.proofs.cover.Given as goal

abbrev pub invariant-loop-j : goal.invariant-loop-j
invariant-loop-j l =
    Keeping (selector_in l.t.bounds) most_rows most_selectors (cover_in l.t.parents l.t.heads l.t.bounds l.i)
    (cover_from l.t.parents l.t.heads l.t.bounds l.i l.j) l.at l.n l.j
