-- The kinds of row i with each row before j are stored.
use Rattle.listing.specs.Marks.{MarkedPairs}
use Rattle.listing.proofs.marks.of_pairs.Given as goal

abbrev pub invariant-loop-j : goal.invariant-loop-j
invariant-loop-j l = MarkedPairs l.t.parents l.t.heads l.t.bounds l.roots l.j l.i l.fn.pairs l.pairs
