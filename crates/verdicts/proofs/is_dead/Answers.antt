-- That the cover hides the row is that the search over it finds nothing.
use Rattle.std.proofs.Common.{◌≡◌, Bool, refl}
use Rattle.base.specs.Truths.{Decides}
use Rattle.base.proofs.Laws.Decides.{decides_holds, decides_fails}
use Rattle.covers.specs.Least.{SearchResult, found, none}
use Rattle.verdicts.specs.Verdicts.{verdict_after, is_none}
use Rattle.verdicts.proofs.is_dead.Goals as goal

-- a test that is true exactly when nothing is found
none_is : (b : Bool) (o : SearchResult) → Decides b (o ≡ none) → b ≡ is_none o
none_is b none d = decides_holds b d refl
none_is b (found p) d = decides_fails b d (λ e. cc)

pub returns : goal.returns
unfolding verdict_after
returns c = rw (← c.cover.ensures.same) (none_is _ _ c.hidden.ensures)
