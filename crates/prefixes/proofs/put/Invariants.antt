-- The prefixes of what is left, when stored, make what all make. The measure is how many bits are left.
use Rattle.prefixes.proofs.Laws.Puts.{Left}
use Rattle.prefixes.proofs.put.Given as goal

abbrev pub invariant-loop-first : goal.invariant-loop-first
invariant-loop-first l = Left l.whole l.rest l.initial.out l.out l.from l.to

abbrev pub decreases-loop-first : goal.decreases-loop-first
decreases-loop-first l = l.rest.bits
