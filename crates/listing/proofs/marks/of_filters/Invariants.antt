-- The kinds of the filters before k are added, and counted.
use Rattle.listing.specs.Marks.{MarkedFilters}
use Rattle.listing.proofs.marks.of_filters.Given as goal

abbrev pub invariant-loop-k : goal.invariant-loop-k
invariant-loop-k l = MarkedFilters l.t.filter_roots l.t.filter_actions l.t.bounds l.t.filters l.k l.fn.pairs l.pairs l.n
