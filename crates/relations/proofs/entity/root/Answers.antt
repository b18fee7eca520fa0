-- `root` meets its contract: it is the last that is above, or the entity itself. Assumes nothing.
use Rattle.std.proofs.Common.{ap, ◌∙◌}
use Rattle.std.specs.List.{last_or}
use Rattle.std.specs.Option.{unwrap_or}
use Rattle.std.specs.Prelude.{None}
use Rattle.policy.specs.Views.{parent_in}
use Rattle.relations.proofs.Laws.Climbs.{root_found, whole_climb}
use Rattle.relations.proofs.entity.root.Goals as goal

pub returns : goal.returns
returns c =
    let e = c.args.e in
    let all = whole_climb _ _ _ c.last.ensures.ran.1 c.above.ensures.left in
    c.unwrap_or.ensures
    ∙ ap (λ o. unwrap_or o e) (c.last.ensures.ran.2 ∙ ap (last_or None) all)
    ∙ root_found (parent_in c.args.parents.now) e
