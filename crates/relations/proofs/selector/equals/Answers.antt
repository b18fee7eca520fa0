-- `equals` meets its contract: `==` is true exactly where the selectors are the same. Assumes nothing.
use Rattle.std.proofs.Common.{◌∙◌}
use Rattle.base.proofs.Laws.Firsts.{decides_once}
use Rattle.policy.proofs.Laws.Equal.{selector_decides}
use Rattle.relations.proofs.Laws.Selectors.{same_selector_decides}
use Rattle.relations.proofs.selector.equals.Goals as goal

pub returns : goal.returns
returns c = c.eq.ensures ∙ decides_once _ _ (selector_decides c.args.a c.args.b) (same_selector_decides _ _)
