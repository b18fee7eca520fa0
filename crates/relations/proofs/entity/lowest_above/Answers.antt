-- `lowest_above` meets its contract: it is the first on the way up from e that is ⪰ f, and e's root where none is. Assumes nothing.
use Rattle.std.proofs.Common.{rules, ◌≡◌, sym, ap, ◌∙◌}
use borrow.Author.Tests.{tests}
use Rattle.std.specs.Option.{unwrap_or}
use Rattle.std.proofs.lemmas.Iterator.Adapters.{option_map_id, YieldsList-from_once}
use Rattle.std.proofs.lemmas.Iterator.Consumers.{YieldsList-from_first, YieldsList-from_chain, YieldsList-at}
use Rattle.std.proofs.lemmas.Iterator.Search.{find_from_yields_List}
use Rattle.policy.specs.Views.{parent_in}
use Rattle.relations.specs.Entities.{root_of, at_or_above, lowest_above, left_above}
use Rattle.relations.proofs.Laws.Climbs.{lowest_found}
use Rattle.relations.proofs.entity.lowest_above.Goals as goal
use Rattle.relations.proofs.entity.lowest_above.Goals.{After-find}

module _ (c : After-find) where
  lowest : lowest_above (parent_in c.args.parents.now) c.args.e c.args.f ≡ unwrap_or c.find.result (root_of (parent_in c.args.parents.now) c.args.e)
  lowest =
      lowest_found _ _ _ _
      (sym (option_map_id c.find.result)
      ∙ find_from_yields_List (λ x. at_or_above (parent_in c.args.parents.now) x c.args.f) c.find.new.self _ c.find.result c.find.ensures.ran
      (YieldsList-from_chain (YieldsList-at c.chain-upward.ensures.first (YieldsList-from_once _ c.once.ensures.item))
      (YieldsList-at c.chain-upward.ensures.second (YieldsList-from_first (λ x. x) left_above _ c.above.ensures.left))
      c.chain-upward.ensures.first_done c.chain-upward.ensures.second_done) (λ x b q k. (search rules, search (rules, tests))))

pub returns-in-Some : goal.returns-in-Some
returns-in-Some c = sym (lowest c.before ∙ ap (λ o. unwrap_or o (root_of (parent_in c.args.parents.now) c.args.e)) c.in-Some.is)

pub returns-in-None : goal.returns-in-None
returns-in-None c = c.root.ensures ∙ sym (lowest c.before.before ∙ ap (λ o. unwrap_or o (root_of (parent_in c.args.parents.now) c.args.e)) c.in-None.is)
