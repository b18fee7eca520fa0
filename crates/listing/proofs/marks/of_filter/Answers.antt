-- `of_filter` meets its contract: the kinds that are added at m are those of filters k and m. Assumes nothing.
use native.Mathlib.Omega.{arith}
use Rattle.std.proofs.Common.{◌≡◌, refl, ap, ◌∙◌}
use lib.Count.{ones}
use Rattle.base.specs.Bits.{bits_of}
use Rattle.kinds.specs.Kinds.{filter_tests}
use Rattle.listing.specs.Marks.{filter_marks}
use Rattle.listing.proofs.Laws.Filters.{few_marks, filter_start, filter_few, filter_next}
use Rattle.listing.proofs.marks.of_filter.Goals as goal
use Rattle.listing.proofs.marks.of_filter.Goals.{After-of_filter_pair-marks}

pub loop-m-init : goal.loop-m-init
loop-m-init c = let t = c.args.t.now in filter_start t.filter_roots t.filter_actions t.bounds c.args.pairs.now c.args.k

found : (c : After-of_filter_pair-marks) → let t = c.args.t.now in
    c.of_filter_pair-marks.result ≡ filter_marks t.filter_roots t.filter_actions t.bounds c.args.k c.loop-m.m
found c = c.of_filter_pair-marks.ensures ∙ (λ w. bits_of (filter_tests c.args.k c.loop-m.m (c.filter-f.ensures w) (c.filter.ensures w)))

pub overflow_add-n : goal.overflow_add-n
overflow_add-n c =
    let t = c.args.t.now in
    let h = c.loop-m-test.true in
    let e = ap ones (found (goal.at.overflow_add-n c).After-of_filter_pair-marks) in
    omega (
      arith,
      few_marks t.filter_roots t.filter_actions t.bounds c.args.k c.loop-m.m,
      filter_few t.filter_roots t.filter_actions t.bounds c.loop-m.invariant,
      c.requires.1,
    )

pub loop-m-preserved : goal.loop-m-preserved
loop-m-preserved c =
    let t = c.args.t.now in
    rw (found (goal.at.loop-m-preserved c).After-of_filter_pair-marks) (filter_next t.filter_roots t.filter_actions t.bounds c.loop-m.invariant refl)
