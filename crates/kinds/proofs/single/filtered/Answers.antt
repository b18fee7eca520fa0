-- `any` on the numbers of the filters says what `some` does.
use borrow.Author.Rules.{rules}
use Rattle.policy.specs.Views.{row_of, filter_in}
use Rattle.kinds.specs.Tests.{filtered_by, filtered}
use Rattle.kinds.proofs.Laws.Found.{some_from_any}
use Rattle.kinds.proofs.single.filtered.Goals as goal

pub returns : goal.returns
unfolding filtered
returns c =
    let t = c.args.t.now in
    some_from_any (λ k. filtered_by (filter_in t.filter_roots t.filter_actions t.bounds) k (row_of c.args.r)) t.filters _ _ _
    c.any.ensures.ran (λ x b q k. search rules)
