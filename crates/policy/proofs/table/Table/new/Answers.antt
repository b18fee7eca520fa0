-- No entity has a parent.
use borrow.Author.Rules.{rules}
use Rattle.policy.specs.Limits.{most_entities}
use Rattle.policy.specs.Model.{no_parent}
use Rattle.base.proofs.Laws.Lists.{get_d_replicated}
use Rattle.policy.proofs.table.Table.new.Goals as goal

pub returns : goal.returns
returns c = search (get_d_replicated most_entities no_parent, rules)
