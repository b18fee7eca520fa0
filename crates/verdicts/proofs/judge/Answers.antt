-- It is the search over the cover.
use Rattle.verdicts.specs.Verdicts.{verdict_after}
use Rattle.verdicts.proofs.judge.Goals as goal

pub returns : goal.returns
unfolding verdict_after
returns c = rw (← c.cover.ensures.same) c.search.ensures
