-- `list` meets its contract: once all rows are marked, and the filters, the entries that are marked are written if there is room for them,
-- those of rows first. Assumes nothing.
use borrow.Author.Rules.{rules}
use native.Mathlib.Omega.{arith}
use Rattle.std.proofs.Common.{ℕ, ◌≡◌, ◌+◌, ◌≤◌, List, ◌++◌, length, get_or, set, get_or-set_same, refl, sym, ap, subst}
use Rattle.policy.specs.Views.{table_of}
use Rattle.policy.proofs.Laws.Tables.{Sized}
use Rattle.kinds.specs.Entries.{Entry, row_block, filter_block, of_block, entries, most_entries}
use Rattle.kinds.proofs.Laws.Entries.{entries_blocks}
use Rattle.kinds.proofs.Laws.Few.{entries_few}
use Rattle.listing.specs.Bytes.{Room}
use Rattle.listing.specs.Marks.{row_count}
use Rattle.verdicts.proofs.Laws.Lent.{six, six_caps}
use Rattle.listing.proofs.Laws.Puts.{appends_then, appends_room, room_first, listing_short, listing_whole}
use Rattle.listing.proofs.Laws.Tables.{tree, good_rows, ends, good_alone}
use Rattle.listing.proofs.Laws.Kept.{Marking, Marked, marking_start, marking_few, marking_next, marking_all}
use Rattle.listing.proofs.list.Goals as goal
use Rattle.listing.proofs.list.Goals.{After-roots_of-roots, After-of_pairs, After-of_filters, Else-out-n}

pub roots_of-roots-requires : goal.roots_of-roots-requires
roots_of-roots-requires c =
    let t = c.args.t.now in
    let held = c.requires.0 in
    let six_long = six_caps t held c.requires.1 in
    let z : Sized (six t) = search rules in
    (tree t held c.requires.1 z, held.rows, ends t held c.requires.1 z)

size : (c : After-roots_of-roots) → Sized (six c.args.t.now)
size c = let six_long = six_caps c.args.t.now c.requires.0 c.requires.1 in search rules

pub loop-i-init : goal.loop-i-init
loop-i-init c =
    marking_start c.args.t.now c.requires.0 c.requires.1 (size (goal.at.loop-i-init c).After-roots_of-roots) _ c.roots_of-roots.ensures

pub of_row-requires : goal.of_row-requires
of_row-requires c =
    let z = size (goal.at.of_row-requires c).After-roots_of-roots in
    good_alone c.args.t.now c.requires.0 c.requires.1 z _ c.roots_of-roots.ensures c.loop-i.i c.loop-i-test.true

pub of_pairs-requires : goal.of_pairs-requires
of_pairs-requires c =
    let t = c.args.t.now in
    let z = size (goal.at.of_pairs-requires c).After-roots_of-roots in
    record {
      tree = tree t c.requires.0 c.requires.1 z;
      each = good_rows t c.requires.0 c.requires.1 z;
      few = c.requires.0.rows;
      row = c.loop-i-test.true;
    }

-- the kinds of row i are stored
module _ (c : After-of_pairs) where
  z : Sized (six c.args.t.now)
  z = size (goal.at.After-of_pairs c).After-roots_of-roots

  abbrev own : List ℕ
  own = set c.loop-i.marks.own c.loop-i.i c.of_row.result

  abbrev counted : ℕ → ℕ
  counted m = row_count m c.of_pairs.new.pairs c.args.t.now.rows c.loop-i.i

  stored : get_or own c.loop-i.i 0 ≡ c.of_row.result
  stored =
      let h = c.loop-i-test.true in
      let n = c.requires.0.rows in
      let l = c.loop-i.invariant.own_long in
      get_or-set_same c.loop-i.marks.own c.loop-i.i c.of_row.result 0 (omega arith)

  few : c.loop-i.n + counted (get_or own c.loop-i.i 0) ≤ most_entries
  few =
      rw stored
      (marking_few c.args.t.now c.requires.0 c.requires.1 z _ c.roots_of-roots.ensures c.loop-i.invariant c.loop-i-test.true
      c.of_row.ensures c.of_pairs.ensures)

  next : Marking c.args.t.now c.roots_of-roots.result own c.of_pairs.new.pairs (c.loop-i.n + counted (get_or own c.loop-i.i 0)) (c.loop-i.i + 1)
  next =
      rw stored
      (marking_next c.args.t.now c.requires.0 c.requires.1 z _ c.roots_of-roots.ensures c.loop-i.invariant c.loop-i-test.true
      c.of_row.ensures c.of_pairs.ensures)

pub count_row-requires : goal.count_row-requires
count_row-requires c =
    let f = few (goal.at.count_row-requires c).After-of_pairs in
    let h = c.loop-i-test.true in
    (omega arith, c.requires.0.rows, omega arith)

pub overflow_add-n : goal.overflow_add-n
overflow_add-n c =
    let f = few (goal.at.overflow_add-n c).After-of_pairs in
    let e = c.count_row.ensures in
    omega arith

pub loop-i-preserved : goal.loop-i-preserved
loop-i-preserved c = rw c.count_row.ensures (next (goal.at.loop-i-preserved c).After-of_pairs)

-- all rows are marked, and the filters
module _ (c : After-of_filters) where
  abbrev es : List Entry
  es = entries (table_of c.args.t.now)

  done : Marked c.args.t.now c.loop-i.marks.own c.of_filters.new.pairs (c.loop-i.n + c.of_filters.result)
  done =
      let k = c.loop-i-test.false in
      let m = c.loop-i.auto.i-end in
      let z = size (goal.at.After-of_filters c).After-roots_of-roots in
      marking_all c.args.t.now c.requires.0 c.requires.1 z _ c.roots_of-roots.ensures c.loop-i.invariant (omega arith) c.of_filters.ensures

  most : c.loop-i.n + c.of_filters.result ≤ most_entries
  most = let n = done.count in let f = entries_few (table_of c.args.t.now) c.requires.1 in omega arith

  abbrev rows : List Entry
  rows = of_block (table_of c.args.t.now) (row_block (table_of c.args.t.now))

  abbrev filters : List Entry
  filters = of_block (table_of c.args.t.now) (filter_block (table_of c.args.t.now))

  both : es ≡ rows ++ filters
  both = entries_blocks (table_of c.args.t.now)

pub overflow_add-n-2 : goal.overflow_add-n-2
overflow_add-n-2 c = let m = most c in omega arith

pub overflow_mul-n : goal.overflow_mul-n
overflow_mul-n c = let m = most c in omega arith

pub returns-then-out-n : goal.returns-then-out-n
returns-then-out-n c =
    let f = (goal.at.returns-then-out-n c).After-of_filters in
    let n = (done f).count in
    let k = c.if-out-n.true in
    listing_short (es f) c.args.out.now (omega arith)

-- a buffer that is not too short has room for both blocks
room : (c : Else-out-n) → let f = (goal.at.Else-out-n c).After-of_filters in Room (length c.args.out.now) 0 (rows f ++ filters f)
room c =
    let f = (goal.at.Else-out-n c).After-of_filters in
    let n = (done f).count in
    let k = c.if-out-n.false in
    rw (← both f) (omega arith)

pub put_block-requires : goal.put_block-requires
put_block-requires c =
    let e = (goal.at.put_block-requires c).Else-out-n in
    let f = (goal.at.put_block-requires c).After-of_filters in (
      subst (Room (length c.args.out.now) 0) (sym (done f).rows) (room_first (length c.args.out.now) 0 (rows f) (filters f) (room e)),
      record { few = c.requires.0.rows; among = omega arith },
    )

pub put_block-requires-2 : goal.put_block-requires-2
put_block-requires-2 c =
    let e = (goal.at.put_block-requires-2 c).Else-out-n in
    let f = (goal.at.put_block-requires-2 c).After-of_filters in
    let few = c.requires.0.filters in (
      rw (done f).filters (appends_room (rw (done f).rows at c.put_block.ensures) (filters f) (room e)),
      record { few = omega arith; among = omega arith },
    )

pub returns : goal.returns
returns c =
    let e = (goal.at.returns c).Else-out-n in
    let f = (goal.at.returns c).After-of_filters in
    let w = appends_then (rw (done f).rows at c.put_block.ensures) (rw (done f).filters at c.put_block-2.ensures) in
    let n = room e in
    listing_whole _ (let m = ap length (both f) in omega arith) (done f).count refl (rw (← both f) at w) (search rules)
