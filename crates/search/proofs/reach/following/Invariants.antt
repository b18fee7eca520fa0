-- `m` is the least of the highs that were looked at.
use Rattle.policy.specs.Views.{value}
use Rattle.search.specs.Covers.{high_of}
use Rattle.covers.proofs.Laws.Sets.{Left}
use Rattle.search.proofs.Laws.Reach.{ReachesBefore}
use Rattle.search.proofs.reach.following.Given as goal

abbrev pub invariant-loop-j : goal.invariant-loop-j
invariant-loop-j l =
    Left l.cover l.j-iterator.0
    × ReachesBefore (high_of l.field.bounds.now l.field.at.now l.field.f) l.cover (value l.high) (value l.m) l.j-iterator.0
