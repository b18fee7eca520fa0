-- The roots of the rows before i, and then zeros.
use Rattle.kinds.specs.Views.{Rooted}
use Rattle.kinds.proofs.placed.roots_of.Given as goal

abbrev pub invariant-loop-i : goal.invariant-loop-i
invariant-loop-i l = Rooted l.t.parents l.t.heads l.t.bounds l.i l.roots
