-- The covers up to this place stand, and `carried` goes next.
use Rattle.search.proofs.Laws.Kept.{Shifting}
use Rattle.search.proofs.kept.Kept.keep.Given as goal

abbrev pub invariant-loop-place : goal.invariant-loop-place
invariant-loop-place l = Shifting l.fn.self.0 l.cover l.place-items l.carried l.place-index
