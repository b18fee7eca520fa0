-- `best` reaches furthest of those that were looked at, up to `top`.
use Rattle.policy.specs.Views.{value}
use Rattle.covers.specs.Sets.{field_of}
use Rattle.covers.proofs.Laws.Sets.{Left}
use Rattle.search.proofs.Laws.Reach.{BestBefore}
use Rattle.search.proofs.reach.furthest.Given as goal

abbrev pub invariant-loop-j : goal.invariant-loop-j
invariant-loop-j l =
    Left l.set l.j-iterator.0
    × BestBefore (field_of l.field.bounds.now l.field.at.now l.field.f) l.set (value l.v) l.best (value l.top) l.j-iterator.0
