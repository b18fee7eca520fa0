-- What is left of the entries with each thing begins with that of thing j.
use Rattle.std.proofs.Common.{ℕ, List}
use Rattle.base.specs.Bits.{marked}
use Rattle.kinds.specs.Entries.{Entry}
use Rattle.listing.specs.Marks.{mark_at, listed_if, pairs_marked}
use Rattle.listing.proofs.Laws.Puts.{Going, from}
use Rattle.listing.proofs.put.Writer.put_kind.Given as goal

-- the entry with thing j
abbrev pub at : List ℕ → ℕ → ℕ → ℕ → List Entry
at pairs i kind j = listed_if (marked (mark_at pairs i j) kind) i kind j

abbrev pub invariant-loop-j : goal.invariant-loop-j
invariant-loop-j l = Going l.fn.self l.self (pairs_marked l.marks.pairs l.things l.i l.kind) (from (at l.marks.pairs l.i l.kind) l.things l.j)
