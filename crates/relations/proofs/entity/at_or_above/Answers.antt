-- `at_or_above` meets its contract: e is f, or the climb from f comes by e. Assumes nothing.
use Rattle.std.proofs.Common.{rules, eqb, eq-eqb, ◌∙◌, sym}
use borrow.Author.Tests.{tests}
use Rattle.std.proofs.lemmas.Iterator.Consumers.{YieldsList-from_first}
use Rattle.std.proofs.lemmas.Iterator.Search.{any_from_yields_List}
use Rattle.policy.specs.Views.{parent_in}
use Rattle.relations.specs.Entities.{left_above}
use Rattle.relations.proofs.Laws.Climbs.{above_found}
use Rattle.relations.proofs.Laws.Entities.{test_here}
use Rattle.relations.proofs.entity.at_or_above.Goals as goal

pub returns-then-e-f : goal.returns-then-e-f
returns-then-e-f c =
    eq-eqb _ _ c.if-e-f.true
    ∙ sym (test_here (parent_in c.args.parents.now) c.requires.0.tree _ _ c.if-e-f.true)

pub returns-else-e-f : goal.returns-else-e-f
returns-else-e-f c =
    any_from_yields_List (eqb c.args.e) c.any.new.self _ c.any.result c.any.ensures.ran (YieldsList-from_first (λ x. x) left_above _ c.above.ensures.left)
    (λ x b q k. (search rules, search (rules, tests)))
    ∙ sym (above_found _ _ _ c.if-e-f.false)
