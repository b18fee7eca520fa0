-- Of the boxes that were looked at those of `held` hold v.
use Rattle.policy.specs.Views.{value}
use Rattle.covers.specs.Sets.{field_of}
use Rattle.covers.proofs.Laws.Sets.{Left, HeldBefore}
use Rattle.covers.proofs.set.Field.holding.Given as goal

abbrev pub invariant-loop-j : goal.invariant-loop-j
invariant-loop-j l =
    Left l.set l.j-iterator.0 × HeldBefore (field_of l.self.bounds.now l.self.at.now l.self.f) l.set (value l.v) l.held l.j-iterator.0
