-- Document 01's examples of relations hold: each test computes, and agrees with its meaning.
-- Assumes nothing.
use mathlib.Core.Path.{refl}
use mathlib.Core.List.{[], ◌∷◌}
use lib.Dec.{lit≤}
use Rattle.relations.specs.Coefficients.{at_least}
use Rattle.relations.specs.Selectors.{overlaps}
use Rattle.relations.specs.Relations.{AllOf}
use Rattle.relations.specs.Examples.{to, edges}
use Rattle.relations.proofs.Laws.Coefficients.{at_least_decides}
use Rattle.relations.proofs.Laws.Selectors.{overlaps_decides}

pub edges_hold : AllOf edges
unfolding at_least overlaps
edges_hold = (
  (overlaps_decides (to 0 8) (to 8 9) (lit≤ tt, tt) (lit≤ tt, tt)).yes refl,
  (
    (overlaps_decides (to 0 7) (to 8 9) (lit≤ tt, tt) (lit≤ tt, tt)).no refl,
    ((at_least_decides (3 ∷ 1 ∷ 1 ∷ []) (3 ∷ 0 ∷ 2 ∷ [])).no refl, ((at_least_decides (3 ∷ 0 ∷ 2 ∷ []) (3 ∷ 1 ∷ 1 ∷ [])).no refl, tt)),
  ),
)
