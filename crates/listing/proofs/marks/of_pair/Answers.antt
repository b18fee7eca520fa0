-- `of_pair` meets its contract: of boxes that overlap it asks for each kind, and of others there are none. Assumes nothing.
use Rattle.std.proofs.Common.{◌+◌, sym, ap, ◌∙◌}
use Rattle.policy.specs.Views.{parent_in}
use Rattle.kinds.specs.Views.{placed_of}
use Rattle.kinds.specs.Kinds.{kind_count, pair_tests}
use Rattle.kinds.specs.declared.pair.Pair.{Pair}
use Rattle.kinds.proofs.Laws.Apart.{apart_none}
use Rattle.base.specs.Bits.{bits_of}
use Rattle.base.proofs.Laws.Bits.{bits_none}
use Rattle.listing.proofs.marks.of_pair.Goals as goal

pub returns-then-not-overlaps : goal.returns-then-not-overlaps
returns-then-not-overlaps c =
    let a = c.args in
    sym
    (ap bits_of
    (apart_none (parent_in a.parents.now) a.i a.j (placed_of a.p) (placed_of a.q) c.requires.1.ordered c.requires.2.ordered
    (sym c.overlaps.ensures ∙ c.if-not-overlaps.true))
    ∙ bits_none (kind_count + 1))

pub returns : goal.returns
returns c =
    rw (
      c.shadowing.ensures,
      c.redundancy.ensures,
      c.exception.ensures,
      c.correlation.ensures,
      c.inclusion.ensures,
      c.affinity.ensures,
      c.contradiction.ensures,
      c.skewed.ensures,
      c.monitorable.ensures,
    ) at c.bits_of.ensures
    ∙ ap (λ (q : Pair). bits_of (pair_tests q)) c.pair_of-s.ensures
