-- The kinds of filter k with each filter before m are added, and counted.
use Rattle.listing.specs.Marks.{MarkedFilter}
use Rattle.listing.proofs.marks.of_filter.Given as goal

abbrev pub invariant-loop-m : goal.invariant-loop-m
invariant-loop-m l = MarkedFilter l.t.filter_roots l.t.filter_actions l.t.bounds l.m l.k l.fn.pairs l.pairs l.n
