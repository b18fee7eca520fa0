-- The rows before i are marked, and their entries counted.
use Rattle.listing.proofs.Laws.Kept.{Marking}
use Rattle.listing.proofs.list.Given as goal

abbrev pub invariant-loop-i : goal.invariant-loop-i
invariant-loop-i l = Marking l.t l.roots l.marks.own l.marks.pairs l.n l.i
