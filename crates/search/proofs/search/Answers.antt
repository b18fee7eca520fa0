-- What the walk finds that begins with the first field is what the search finds, and without a limit it is not stopped.
use Rattle.std.proofs.Common.{◌∙◌, ap, refl, subst, inl, inr, None}
use Rattle.covers.specs.Least.{found}
use Rattle.search.specs.Turns.{Tells}
use Rattle.search.proofs.Laws.Turns.{search_unturned}
use Rattle.search.proofs.search.Goals as goal

pub returns-in-Free : goal.returns-in-Free
returns-in-Free c = ap found c.from.ensures ∙ c.in-Free.ensures ∙ search_unturned _ _

pub returns-in-Covered : goal.returns-in-Covered
returns-in-Covered c = elim c.in-Covered.is [
  | inl e ↦ subst (Tells None _) e c.walk.ensures ∙ search_unturned _ _
  | inr e ↦ absurd (subst (Tells None _) e c.walk.ensures refl)
]
