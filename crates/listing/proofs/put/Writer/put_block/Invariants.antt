-- What is left of the entries begins with those of thing i, and of those with those of the kind.
use Rattle.std.proofs.Common.{ℕ, ◌+◌, List}
use lib.ListN.{get_or}
use Rattle.kinds.specs.Entries.{Entry, Block}
use Rattle.listing.specs.Marks.{kind_marked, thing_marked, block_marked, block_of}
use Rattle.listing.proofs.Laws.Puts.{Going, from}
use Rattle.listing.proofs.put.Writer.put_block.Given as goal

-- the entries of thing i, and those of a kind
abbrev pub of : List ℕ → List ℕ → Block → ℕ → List Entry
of own pairs b i = thing_marked (get_or own i 0) pairs b i

abbrev pub invariant-loop-i : goal.invariant-loop-i
invariant-loop-i l =
    Going l.fn.self l.self (block_marked l.marks.own l.marks.pairs (block_of l.b)) (from (of l.marks.own l.marks.pairs (block_of l.b)) l.b.things l.i)

abbrev pub invariant-loop-kind : goal.invariant-loop-kind
invariant-loop-kind l =
    Going l.initial.self l.self (of l.marks.own l.marks.pairs (block_of l.b) l.i)
    (from (kind_marked (get_or l.marks.own l.i 0) l.marks.pairs l.b.things l.i) (l.b.kind + l.b.kinds) l.kind)
