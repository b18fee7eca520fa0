-- `next` meets its contract: above an entity is its parent, and what is above that; above a root is nothing. Assumes nothing.
use Rattle.std.proofs.Common.{◌<◌, arith, ap, length}
use Rattle.policy.specs.Limits.{most_entities}
use Rattle.relations.proofs.Laws.Climbs.{above_root, above_parent}
use Rattle.relations.proofs.entity.ClimbIterator.next.Goals as goal

pub returns-in_err-self-clause-steps : goal.returns-in_err-self-clause-steps
returns-in_err-self-clause-steps c = let none = above_root _ _ c.in_err-self.ensures in rw c.from_residual.ensures (none, none)

pub returns-clause-steps : goal.returns-clause-steps
returns-clause-steps c =
    let up = c.in_ok-self.ensures in
    above_parent _ c.requires.0.tree _ _ up.0 up.1 (λ n. omega (arith, n, up.1, c.requires.1))

pub returns-clause-goes : goal.returns-clause-goes
returns-clause-goes c =
    let small : c.in_ok-self.field-0 < most_entities = omega (arith, c.in_ok-self.ensures.1, c.requires.1) in
    record {
      on = λ f. ((c.requires.0, small), tt, omega (arith, ap length (returns-clause-steps c)));
      keeps = (c.requires.0, small);
      rests = λ f. tt;
    }
