-- Of the tests those that are left come first, and the others are in the number.
use Rattle.std.proofs.Common.{◌≡◌, Bool, List, ◌++◌}
use Rattle.base.specs.Bits.{bits_of}
use Rattle.listing.proofs.marks.bits_of.Given as goal

abbrev pub invariant-loop-h : goal.invariant-loop-h
invariant-loop-h l = (seen : List Bool) × (l.h-iterator.iter.rest.now ++ seen ≡ l.holds) × (l.m ≡ bits_of seen)
