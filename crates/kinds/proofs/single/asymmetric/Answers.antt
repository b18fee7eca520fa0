-- `any` on the numbers of the rows says what `some` does.
use borrow.Author.Rules.{rules}
use mathlib.Core.Path.{ap, ◌∙◌}
use mathlib.Core.Bool.{not}
use Rattle.policy.specs.Model.{Row}
use Rattle.policy.specs.Views.{row_of, row_in}
use Rattle.base.specs.Lists.{some}
use Rattle.kinds.specs.Tests.{answers, asymmetric}
use Rattle.kinds.proofs.Laws.Found.{some_from_any}
use Rattle.kinds.proofs.single.asymmetric.Goals as goal

pub returns : goal.returns
unfolding asymmetric
returns c =
    let t = c.args.t.now in
    ap not
    (some_from_any (λ j. answers (row_in t.heads t.bounds j) (row_of c.row-r.result)) t.rows _ _ _ c.any.ensures.ran (λ x b q k. search rules)
    ∙ ap (λ (r : Row). some t.rows (λ j. answers (row_in t.heads t.bounds j) r)) c.row-r.ensures)
