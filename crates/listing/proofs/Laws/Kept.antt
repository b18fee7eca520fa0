-- The marks that are kept, row by row and then those of the filters, and the entries that are counted.
-- Assumes nothing.
use Prim.Native.Nat.{ℕ, suc, ◌+◌, ◌-◌, ◌*◌, ◌≤◌, ◌<◌}
use mathlib.Core.Path.{◌≡◌, sym, ap, subst, ◌∙◌}
use mathlib.Core.Bool.{Bool, false, ◌&&◌, ◌||◌, and-false, or-false}
use mathlib.Core.List.{List, [], ◌∷◌, ◌++◌}
use native.Mathlib.Decide.{dec_lt}
use native.Mathlib.Nat.{zero-add}
use native.Mathlib.Omega.{arith}
use borrow.Author.Tests.{lt-ltb}
use lib.Dec.{ltb}
use lib.ListN.{length, get_or, set, replicate, length-set, length-append, length-replicate}
use lib.Seq.{sets, length-sets}
use Rattle.base.specs.Bits.{marked}
use Rattle.base.specs.Lists.{tabulate}
use Rattle.base.proofs.Laws.Bits.{none_marked}
use Rattle.base.proofs.Laws.Lists.{length_tabulate, get_d_tabulate, get_d_replicated, filled_more, get_d_sets_outside, get_d_sets_inside, sets_keep}
use Rattle.policy.specs.Limits.{most_rows}
use Rattle.policy.specs.Model.{Table}
use Rattle.policy.specs.Views.{table_of, Held}
use Rattle.policy.specs.Wellformed.{Wellformed}
use Rattle.policy.specs.declared.table.Table.{Table as TableStruct}
use Rattle.policy.proofs.Laws.Tables.{Sized, Counted}
use Rattle.kinds.specs.Views.{Rooted}
use Rattle.kinds.specs.Kinds.{row_kind_count, filter_kind_count, no_second, anomaly}
use Rattle.kinds.specs.Entries.{gather, listed, Block, row_block, filter_block, of_kind, of_thing, of_block, entries, most_entries}
use Rattle.kinds.proofs.Laws.Blocks.{filter_kind_lem}
use Rattle.kinds.proofs.Laws.Entries.{gather_same, entries_blocks}
use Rattle.kinds.proofs.Laws.Splits.{anomaly_filter}
use Rattle.kinds.proofs.Laws.Few.{entries_few}
use Rattle.listing.specs.Marks.{MarkedPairs, MarkedFilters, filter_marks, mark_at, row_count, listed_if, kind_marked, thing_marked, block_marked}
use Rattle.verdicts.proofs.Laws.Lent.{six, counted_lent}
use Rattle.listing.proofs.Laws.Puts.{from, from_begun, from_none}
use Rattle.listing.proofs.Laws.Tables.{alone_at, paired_at, alone_row_kinds, paired_row_kinds, own_listed, pair_listed, row_count_lem, filter_listed, filter_unlisted, filters_count}

-- The rows before i have their numbers. Row i's are stored in its places, and then it has them too.
pairs_more : (f : ℕ → ℕ → ℕ) (rows i : ℕ) (before after : List ℕ) → after ≡ sets before (most_rows * i) (tabulate (f i) rows) → rows ≤ most_rows → i < rows
    → length before ≡ most_rows * most_rows → ((k j : ℕ) → k < i → j < rows → mark_at before k j ≡ f k j)
    → (k j : ℕ) → k < i + 1 → j < rows → mark_at after k j ≡ f k j
pairs_more f rows i before after e few r long old k j b h =
    let n = length_tabulate (f i) rows in
    ap (λ (l : List ℕ). mark_at l k j) e
    ∙ elim (dec_lt k i) [
      | yes m ↦
          get_d_sets_outside before (most_rows * i) (tabulate (f i) rows) (most_rows * k + j) 0 (λ c d q. omega arith) ∙ old k j m h
      | no m ↦
          let q : k ≡ i = omega arith in
          rw q (get_d_sets_inside before (most_rows * i) (tabulate (f i) rows) j 0 (omega arith) (omega arith) ∙ get_d_tabulate (f i) rows j 0 h)
    ]

-- The number has none of the kinds of filters.
abbrev RowKindsOnly : ℕ → Type 0
RowKindsOnly m = (kind : ℕ) → row_kind_count < kind → marked m kind ≡ false

-- The rows before i are marked, and their entries are n.
pub record Marking (t : TableStruct) (roots own pairs : List ℕ) (n i : ℕ) : Type 0 where
  pub own_long : length own ≡ most_rows
  pub pairs_long : length pairs ≡ most_rows * most_rows
  pub alone : (k : ℕ) → k < i → get_or own k 0 ≡ alone_at t roots k
  pub paired : (k j : ℕ) → k < i → j < t.rows → mark_at pairs k j ≡ paired_at t roots k j
  pub own_row_kinds : (k : ℕ) → RowKindsOnly (get_or own k 0)
  pub pairs_row_kinds : (k : ℕ) → RowKindsOnly (get_or pairs k 0)
  pub count : n + length (from (of_thing (table_of t) (row_block (table_of t))) t.rows i) ≡ length (of_block (table_of t) (row_block (table_of t)))

-- All are, and the filters: the entries of both blocks are marked, by how many rows and filters the struct counts.
pub record Marked (t : TableStruct) (own pairs : List ℕ) (n : ℕ) : Type 0 where
  pub rows : block_marked own pairs (record { things = t.rows; kind = 1; kinds = row_kind_count }) ≡ of_block (table_of t) (row_block (table_of t))
  pub filters : block_marked own pairs (record { things = t.filters; kind = suc row_kind_count; kinds = filter_kind_count }) ≡ of_block (table_of t) (filter_block (table_of t))
  pub count : n ≡ length (entries (table_of t))

-- The entries of a block are the table's where its anomalies are marked.
block_listed : (t : Table) (b : Block) (own pairs : List ℕ)
    → ((i j kind : ℕ) → i < b.things → j < b.things → b.kind ≤ kind → kind < b.kind + b.kinds → marked (mark_at pairs i j) kind ≡ anomaly t i kind j)
    → ((i kind : ℕ) → i < b.things → b.kind ≤ kind → kind < b.kind + b.kinds → marked (get_or own i 0) kind ≡ anomaly t i kind no_second)
    → block_marked own pairs b ≡ of_block t b
block_listed t b own pairs two one =
    gather_same (λ i. thing_marked (get_or own i 0) pairs b i) (of_thing t b) b.things 0
    (λ i l h. gather_same (kind_marked (get_or own i 0) pairs b.things i) (of_kind t b.things i) b.kinds b.kind
    (λ kind from to.
    (λ x. gather_same (λ j. listed_if (marked (mark_at pairs i j) kind) i kind j) (λ j. listed t i kind j) b.things 0
    (λ j k m. ap (λ (y : Bool). listed_if y i kind j) (two i j kind (omega arith) (omega arith) from to)) x
    ++ listed_if (one i kind (omega arith) from to x) i kind no_second)))

module _ (t : TableStruct) (held : Held t) (w : Wellformed (table_of t)) (z : Sized (six t)) (roots : List ℕ) (r : Rooted t.parents t.heads t.bounds t.rows roots) where
  abbrev T : Table
  T = table_of t

  counts : Counted t
  counts = counted_lent t held w

  -- nothing is marked
  pub marking_start : Marking t roots (replicate most_rows 0) (replicate (most_rows * most_rows) 0) 0 0
  marking_start =
      let e = counts.rows in
      let n : t.rows - 0 ≡ length T.rows = omega arith in
      record {
        own_long = length-replicate {A = ℕ} most_rows 0;
        pairs_long = length-replicate {A = ℕ} (most_rows * most_rows) 0;
        alone = λ k h. absurd (omega arith);
        paired = λ k j h l. absurd (omega arith);
        own_row_kinds = λ k kind h. rw (get_d_replicated {A = ℕ} most_rows 0 k) (none_marked kind);
        pairs_row_kinds = λ k kind h. rw (get_d_replicated {A = ℕ} (most_rows * most_rows) 0 k) (none_marked kind);
        count = zero-add _ ∙ ap (λ n. length (gather n 0 (of_thing T (row_block T)))) n;
      }

  -- row i more: its kinds alone are m
  module _ {own pairs after : List ℕ} {n i m : ℕ} (g : Marking t roots own pairs n i) (h : i < t.rows)
      (o : m ≡ alone_at t roots i)
      (p : MarkedPairs t.parents t.heads t.bounds roots t.rows i pairs after) where
    paired_more : (k j : ℕ) → k < i + 1 → j < t.rows → mark_at after k j ≡ paired_at t roots k j
    paired_more = pairs_more (paired_at t roots) t.rows i pairs after p.stored held.rows h g.pairs_long g.paired

    counted_more : n + row_count m after t.rows i + length (from (of_thing T (row_block T)) t.rows (i + 1)) ≡ length (of_block T (row_block T))
    counted_more =
        let a = row_count_lem t held w z roots r i h m after o (λ j l. paired_more i j (omega arith) l) in
        let b = ap length (from_begun (of_thing T (row_block T)) t.rows i h) ∙ length-append (of_thing T (row_block T) i) (from (of_thing T (row_block T)) t.rows (i + 1)) in
        let c = g.count in
        omega arith

    pub marking_few : n + row_count m after t.rows i ≤ most_entries
    marking_few =
        let a = counted_more in
        let b = entries_few T w in
        let c = ap length (entries_blocks T) ∙ length-append (of_block T (row_block T)) (of_block T (filter_block T)) in
        omega arith

    pub marking_next : Marking t roots (set own i m) after (n + row_count m after t.rows i) (i + 1)
    marking_next =
        let few = held.rows in
        let long = length_tabulate (paired_at t roots i) t.rows in
        record {
          own_long = length-set own i m ∙ g.own_long;
          pairs_long = ap length p.stored ∙ length-sets pairs (most_rows * i) (tabulate (paired_at t roots i) t.rows) ∙ g.pairs_long;
          alone = filled_more 0 (alone_at t roots) own i m (let b = g.own_long in omega arith) g.alone o;
          paired = paired_more;
          own_row_kinds = sets_keep RowKindsOnly 0 own i (m ∷ []) (let b = g.own_long in omega arith) g.own_row_kinds own_new;
          pairs_row_kinds = subst (λ (l : List ℕ). (k : ℕ) → RowKindsOnly (get_or l k 0)) (sym p.stored)
              (sets_keep RowKindsOnly 0 pairs (most_rows * i) (tabulate (paired_at t roots i) t.rows) (let b = g.pairs_long in omega arith) g.pairs_row_kinds
              (λ k b. rw (get_d_tabulate (paired_at t roots i) t.rows k 0 (omega arith)) (paired_row_kinds t roots i k)));
          count = counted_more;
        }
      where
        own_new : (k : ℕ) → k < 1 → RowKindsOnly (get_or (m ∷ []) k 0)
        own_new k b = let e : k ≡ 0 = omega arith in rw (e, o) (alone_row_kinds t roots i)

  -- every row is marked, and each two filters
  module _ {own pairs after : List ℕ} {n i m : ℕ} (g : Marking t roots own pairs n i) (e : i ≡ t.rows)
      (p : MarkedFilters t.filter_roots t.filter_actions t.bounds t.filters t.filters pairs after m) where
    abbrev also : ℕ → ℕ → ℕ → Bool
    also i j kind = ltb i t.filters && (ltb j t.filters && marked (filter_marks t.filter_roots t.filter_actions t.bounds i j) kind)

    -- of rows, whose numbers have the kinds of filters besides,
    of_rows : (k j kind : ℕ) → k < t.rows → j < t.rows → kind ≤ row_kind_count → marked (mark_at after k j) kind ≡ anomaly T k kind j
    of_rows k j kind hk hj b =
        let few = held.rows in
        p.marks k j kind (omega arith) (omega arith)
        ∙ rw (filter_unlisted t held w z k j kind b) (simp (and-false, or-false))
        ∙ ap (λ (x : ℕ). marked x kind) (g.paired k j (omega arith) hj)
        ∙ pair_listed t held w z roots r k hk j hj kind b

    -- and of filters, whose numbers have those of rows
    of_filters_lem : (k j kind : ℕ) → k < t.filters → j < t.filters → row_kind_count < kind → marked (mark_at after k j) kind ≡ anomaly T k kind j
    of_filters_lem k j kind hk hj b =
        let few = held.filters in
        p.marks k j kind (omega arith) (omega arith)
        ∙ ap (λ (x : Bool). x || also k j kind) (g.pairs_row_kinds (most_rows * k + j) kind b)
        ∙ rw (lt-ltb k t.filters hk, lt-ltb j t.filters hj) (filter_listed t held w z k j kind hk hj b)

    pub marking_all : Marked t own after (n + m)
    marking_all =
        let rows = counts.rows in
        let filters = counts.filters in
        record {
          rows =
              (λ x. block_marked own after (record { things = sym rows x; kind = 1; kinds = row_kind_count }))
              ∙ block_listed T (row_block T) own after
              (λ k j kind hk hj a b. of_rows k j kind (omega arith) (omega arith) (omega arith))
              (λ k kind hk a b. own_listed t held w z roots r k (omega arith) (get_or own k 0) (g.alone k (omega arith)) kind);
          filters =
              (λ x. block_marked own after (record { things = sym filters x; kind = suc row_kind_count; kinds = filter_kind_count }))
              ∙ block_listed T (filter_block T) own after
              (λ k j kind hk hj a b. of_filters_lem k j kind (omega arith) (omega arith) (omega arith))
              (λ k kind hk a b. g.own_row_kinds k kind (omega arith) ∙ sym (anomaly_filter T w k kind (filter_kind_lem kind (omega arith))));
          count =
              let a = g.count in
              let b = ap length (from_none (of_thing T (row_block T)) t.rows i (omega arith)) in
              let c = p.count in
              let d = filters_count t held w z in
              let f = ap length (entries_blocks T) ∙ length-append (of_block T (row_block T)) (of_block T (filter_block T)) in
              omega arith;
        }
