-- Each line after the floor's says the next filter, or the next row, which is written after those before it. Assumes nothing.
use borrow.Author.Rules.{rules}
use native.Mathlib.Omega.{arith}
use mathlib.Core.Path.{◌≡◌, refl, ap, subst, ◌∙◌}
use Prim.Native.Nat.{◌+◌, ◌-◌, ◌<◌}
use lib.ListN.{length}
use Rattle.std.specs.Iterator.Adapters.{enumerate_source, enumerate_count}
use Rattle.policy.specs.Views.{Stands}
use Rattle.policy.specs.declared.table.Table.{Table}
use Rattle.frames.specs.Progress.{all_read}
use Rattle.reader.specs.Lines.{lines_of}
use Rattle.reader.specs.declared.lines.Lines.{Lines}
use Rattle.reader.specs.Views.{Fillable}
use Rattle.reader.proofs.Laws.Readers.{counted}
use Rattle.reader.proofs.Laws.Filled.{taken_start, taken_long, taken_filter_part, taken_filter_rule, taken_filter}
use Rattle.reader.proofs.Laws.Filled.{taken_row_some, taken_row_part, taken_row_rule, taken_row, taken_all, rowed_all}
use Rattle.reader.proofs.fill.Goals as goal
use Rattle.reader.proofs.fill.Goals.{Then-n-filters, Else-n-filters}

pub loop-n-init : goal.loop-n-init
loop-n-init c =
    record {
      others = refl;
      taken = λ a.
          let s = c.args.state in
          let n = counted s (search rules) a.ready (all_read a.table) a.has in
          let it = c.into_iter-n-iterator.ensures.into_iter_gives in
          let lines : enumerate_source c.into_iter-n-iterator.result ≡ c.starting_at-after_floor.result =
          ap enumerate_source it ∙ c.enumerate-n-items.ensures.source in
          taken_start c.args.text.now a.table c.lines_before.result _ a.keeps (omega (arith, c.lines_before.ensures))
          (ap (λ (l : Lines). lines_of l.unread.now) lines ∙ c.starting_at-after_floor.ensures)
          (ap enumerate_count it ∙ c.enumerate-n-items.ensures.count) (search rules) (search rules) (search rules) (search rules);
    }

pub slice_bounds-part-count : goal.slice_bounds-part-count
slice_bounds-part-count c = taken_long (c.loop-n.invariant.taken c.requires) c.in-Some.ensures.steps.0.0

pub slice_bounds-part-start : goal.slice_bounds-part-start
slice_bounds-part-start c = taken_long (c.loop-n.invariant.taken c.requires) c.in-Some.ensures.steps.0.0

-- ---- a filter's line

few : (c : Then-n-filters) (a : Fillable c.args.text.now c.args.state) → enumerate_count c.loop-n.n-iterator < length a.table.filters
few c a = omega (arith, c.in-Some.ensures.steps.1, a.has.filters)

pub read-requires : goal.read-requires
read-requires c =
    let a = c.requires in
    let at = goal.at.read-requires c in
    (taken_filter_part (c.loop-n.invariant.taken a) c.in-Some.ensures.steps.0.0 a.keeps.well (few at.Then-n-filters a)).long

pub put_filter-requires : goal.put_filter-requires
put_filter-requires c =
    let a = c.requires in
    let at = goal.at.put_filter-requires c in (
      omega (arith, a.ready.filters),
      taken_filter_rule (c.loop-n.invariant.taken a) c.in-Some.ensures.steps.0.0 a.keeps.well (few at.Then-n-filters a) c.read.result c.read.ensures,
    )

pub loop-n-preserved-then-n-filters : goal.loop-n-preserved-then-n-filters
loop-n-preserved-then-n-filters c =
    let at = goal.at.loop-n-preserved-then-n-filters c in
    let q = c.put_filter.new in
    let w = c.put_filter.ensures in
    record {
      others =
          ap (λ (t : Table). record t { filter_roots = q.roots; filter_actions = q.actions; bounds = q.bounds })
          c.loop-n.invariant.others;
      taken = λ a.
          taken_filter (c.loop-n.invariant.taken a) c.in-Some.ensures.steps.0.0 a.keeps.well (few at.Then-n-filters a) c.read.result c.read.ensures
          c.in-Some.n (enumerate_count c.next.new.self) c.in-Some.ensures.steps.1 c.in-Some.ensures.steps.2 w.roots w.actions w.bounds;
    }

-- ---- a row's line

after : (c : Else-n-filters) (a : Fillable c.args.text.now c.args.state)
    → enumerate_count c.loop-n.n-iterator ≡ length a.table.filters + (c.in-Some.n - c.args.state.filters)
after c a = omega (arith, c.in-Some.ensures.steps.1, a.has.filters)

pub read-requires-else-n-filters : goal.read-requires-else-n-filters
read-requires-else-n-filters c =
    let a = c.requires in
    let z = after (goal.at.read-requires-else-n-filters c).Else-n-filters a in (
      (taken_row_part (c.loop-n.invariant.taken a) c.in-Some.ensures.steps.0.0 a.keeps.well (c.in-Some.n - c.args.state.filters) z).long,
      omega arith,
    )

pub put_row-requires : goal.put_row-requires
put_row-requires c =
    let a = c.requires in
    let z = after (goal.at.put_row-requires c).Else-n-filters a in
    let i = c.in-Some.n - c.args.state.filters in
    let r = c.read-else-n-filters in
    let few = taken_row_some (c.loop-n.invariant.taken a) c.in-Some.ensures.steps.0.0 a.keeps.well i z in (
      omega (arith, a.ready.rows, a.has.rows),
      taken_row_rule (c.loop-n.invariant.taken a) c.in-Some.ensures.steps.0.0 a.keeps.well i z r.result r.ensures,
    )

pub loop-n-preserved : goal.loop-n-preserved
loop-n-preserved c =
    let at = goal.at.loop-n-preserved c in
    let w = c.put_row.ensures in
    let r = c.read-else-n-filters in
    record {
      others = ap (λ (t : Table). record t { heads = c.put_row.new.heads; bounds = c.put_row.new.bounds }) c.loop-n.invariant.others;
      taken = λ a.
          taken_row (c.loop-n.invariant.taken a) c.in-Some.ensures.steps.0.0 a.keeps.well (c.in-Some.n - c.args.state.filters)
          (after at.Else-n-filters a) r.result r.ensures (enumerate_count c.next.new.self) (search rules) c.in-Some.ensures.steps.2 w.heads w.bounds;
    }

pub returns : goal.returns
returns c = λ a.
    subst (λ t. Stands t a.table) c.loop-n.invariant.others
    (rowed_all a.table c.args.state a.ready a.has (taken_all (c.loop-n.invariant.taken a) c.in-None.ensures.steps.0.0) refl)
