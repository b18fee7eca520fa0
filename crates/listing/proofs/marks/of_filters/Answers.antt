-- `of_filters` meets its contract: those of filter k are added next. Assumes nothing.
use borrow.Author.Rules.{rules}
use native.Mathlib.Omega.{arith}
use Rattle.listing.proofs.Laws.Filters.{filter_few, filters_start, filters_few, filters_next}
use Rattle.listing.proofs.marks.of_filters.Goals as goal

pub loop-k-init : goal.loop-k-init
loop-k-init c = let t = c.args.t.now in filters_start t.filter_roots t.filter_actions t.bounds c.args.pairs.now t.filters

pub overflow_add-n : goal.overflow_add-n
overflow_add-n c =
    let t = c.args.t.now in
    let h = filters_few t.filter_roots t.filter_actions t.bounds c.loop-k.invariant c.requires in
    let g = filter_few t.filter_roots t.filter_actions t.bounds c.of_filter-n.ensures in
    let b = c.loop-k-test.true in
    omega arith

pub loop-k-preserved : goal.loop-k-preserved
loop-k-preserved c =
    let t = c.args.t.now in
    let few = c.requires in
    filters_next t.filter_roots t.filter_actions t.bounds c.loop-k.invariant c.of_filter-n.ensures c.loop-k-test.true (omega arith) (search rules)
