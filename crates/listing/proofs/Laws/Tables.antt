-- What the code finds from what a table lends is what the definitions say of the table: its rows, their roots, their kinds and those of the filters, and
-- how many entries they have.
-- Assumes nothing.
use Prim.Native.Nat.{ℕ, suc, ◌≤◌, ◌<◌}
use mathlib.Core.Path.{◌≡◌, refl, sym, ap, subst, ◌∙◌}
use mathlib.Core.Bool.{Bool, false}
use mathlib.Core.List.{List, map}
use native.Mathlib.Omega.{arith}
use lib.Count.{ones}
use lib.ListN.{length, get_or}
use Rattle.base.specs.Truths.{bit}
use Rattle.base.proofs.Laws.Lists.{get_d_tabulate}
use Rattle.policy.specs.Model.{Table, no_filter, entity_at, filter_at, row_at, parent_of}
use Rattle.policy.specs.Views.{parent_in, row_in, filter_in, table_of, Held}
use Rattle.policy.specs.Wellformed.{Wellformed}
use Rattle.policy.specs.declared.table.Table.{Table as TableStruct}
use Rattle.policy.proofs.Laws.Lists.{length_rows, row_of_rows}
use Rattle.policy.proofs.Laws.Tables.{Sized, Counted, mask_same, parents_same}
use Rattle.relations.specs.Entities.{Parents, root_of}
use Rattle.relations.proofs.Laws.Entities.{root_le}
use Rattle.relations.proofs.Laws.Tables.{table_tree}
use Rattle.kinds.specs.Meanings.{IsRow, source_root, destination_root}
use Rattle.kinds.specs.Views.{from_in, to_in, Ends, Rooted}
use Rattle.kinds.specs.Seen.{Seen, seen_of, pair_in}
use Rattle.kinds.specs.Kinds.{kinds, row_kind_count, filter_kind_count, kind_count, no_second, anomaly, of_one, of_two, of_two_filters, row_tests, pair_tests, filter_tests}
use Rattle.kinds.specs.declared.pair.Pair.{Pair}
use Rattle.kinds.specs.Entries.{sum, row_block, filter_block, of_thing, of_block}
use Rattle.kinds.proofs.Laws.Placed.{rooted_from, rooted_to}
use Rattle.kinds.proofs.Laws.Sums.{gather_length, sum_same, sum_split, sum_none}
use Rattle.kinds.proofs.Laws.Few.{thing_counted}
use Rattle.kinds.proofs.Laws.Blocks.{row_kind, filter_kind_lem}
use Rattle.kinds.proofs.Laws.Splits.{anomaly_pair, anomaly_row, anomaly_filters, anomaly_filter, no_row, no_pair, no_filters}
use Rattle.kinds.proofs.Laws.Alike.{Alike, pair_alike, row_alike}
use Rattle.base.specs.Bits.{bits_of, marked}
use Rattle.listing.specs.Marks.{GoodRow, GoodRows, GoodAlone, seen_in, pair_marks, filter_marks, mark_at, row_count}
use Rattle.base.proofs.Laws.Bits.{marked_bits}
use Rattle.listing.proofs.Laws.Ones.{ones_kinds}
use Rattle.verdicts.proofs.Laws.Lent.{six, counted_lent, caps_lent, parents_lent, row_dead}

-- The first twenty of twenty-two numbers, where the others have none, and the last two.
first_kinds : (f g : ℕ → Bool) → ((kind : ℕ) → kind ≤ row_kind_count → f kind ≡ g kind) → ((kind : ℕ) → row_kind_count < kind → f kind ≡ false)
    → sum kind_count 1 (λ kind. bit (f kind)) ≡ sum row_kind_count 1 (λ kind. bit (g kind))
first_kinds f g same none =
    let a = sum_split (λ kind. bit (f kind)) row_kind_count filter_kind_count 1 in
    let b = sum_same (λ kind. bit (f kind)) (λ kind. bit (g kind)) row_kind_count 1 (λ kind l m. ap bit (same kind (omega arith))) in
    let c = sum_none (λ kind. bit (f kind)) filter_kind_count (suc row_kind_count) (λ kind l m. ap bit (none kind (omega arith))) in
    omega arith

last_kinds : (f g : ℕ → Bool) → ((kind : ℕ) → row_kind_count < kind → f kind ≡ g kind) → ((kind : ℕ) → kind ≤ row_kind_count → f kind ≡ false)
    → sum kind_count 1 (λ kind. bit (f kind)) ≡ sum filter_kind_count (suc row_kind_count) (λ kind. bit (g kind))
last_kinds f g same none =
    let a = sum_split (λ kind. bit (f kind)) row_kind_count filter_kind_count 1 in
    let b = sum_same (λ kind. bit (f kind)) (λ kind. bit (g kind)) filter_kind_count (suc row_kind_count) (λ kind l m. ap bit (same kind (omega arith))) in
    let c = sum_none (λ kind. bit (f kind)) row_kind_count 1 (λ kind l m. ap bit (none kind (omega arith))) in
    omega arith

-- What the tests look at; the kinds of row i alone, and with row j.
module _ (t : TableStruct) (roots : List ℕ) where
  abbrev seen : ℕ → Seen
  seen i = seen_in t roots i

  abbrev pub alone_at : ℕ → ℕ
  alone_at i = bits_of (row_tests (seen i) i)

  abbrev pub paired_at : ℕ → ℕ → ℕ
  paired_at i j = pair_marks t.parents t.heads t.bounds roots i j

  -- they have none of the kinds of filters
  pub alone_row_kinds : (i kind : ℕ) → row_kind_count < kind → marked (alone_at i) kind ≡ false
  alone_row_kinds i kind h = marked_bits (row_tests (seen i) i) kind ∙ no_row (seen i) i kind (filter_kind_lem kind h)

  pub paired_row_kinds : (i j kind : ℕ) → row_kind_count < kind → marked (paired_at i j) kind ≡ false
  paired_row_kinds i j kind h = marked_bits (pair_tests (pair_in (seen i) i j)) kind ∙ no_pair (pair_in (seen i) i j) kind (filter_kind_lem kind h)

module _ (t : TableStruct) (held : Held t) (w : Wellformed (table_of t)) (z : Sized (six t)) where
  abbrev T : Table
  T = table_of t

  rows_counted : length T.rows ≡ t.rows
  rows_counted = length_rows t.heads t.bounds t.rows

  count : Counted t
  count = counted_lent t held w

  entities_counted : length T.entities ≡ t.entities
  entities_counted = count.entities

  is_row : (i : ℕ) → i < t.rows → IsRow T i
  is_row i h = let e = rows_counted in omega arith

  row_same : (i : ℕ) → i < t.rows → row_in t.heads t.bounds i ≡ row_at T i
  row_same i h = sym (row_of_rows t.heads t.bounds t.rows i h)

  pub good_rows : GoodRows t.heads t.bounds t.rows
  good_rows i h =
      let r = w.row i (is_row i h) in
      let n = w.counts.few_entities in
      subst GoodRow (sym (row_same i h))
      (record { source = omega (arith, r.source); destination = omega (arith, r.destination); technology = r.technology; ordered = r.selector.ordered })

  pub ends : Ends t.heads t.bounds t.rows
  ends = record { source = λ i h. (good_rows i h).source; destination = λ i h. (good_rows i h).destination }

  parents : parent_in t.parents ≡ parent_of T
  parents = let n = held.entities in let m = z.parents in parents_same t held (omega arith)

  pub tree : Parents t.parents
  tree = parents_lent t held w z

  -- the roots that were found are the table's
  module _ (roots : List ℕ) (r : Rooted t.parents t.heads t.bounds t.rows roots) where
    -- a root that was found for an end of row i
    module _ (i : ℕ) (h : i < t.rows) where
      from_same : from_in roots i ≡ source_root T i
      from_same = rooted_from t.parents t.heads t.bounds i r held.rows h ∙ (λ x. root_of (parents x) (row_same i h x).source)

      to_same : to_in roots i ≡ destination_root T i
      to_same = rooted_to t.parents t.heads t.bounds i r held.rows h ∙ (λ x. root_of (parents x) (row_same i h x).destination)

      root_entity : (e k : ℕ) → e ≡ root_of (parent_of T) k → k < length T.entities → e < t.entities
      root_entity e k q b = let l = root_le (parent_of T) (table_tree T w) k in let n = entities_counted in omega arith

      from_entity : from_in roots i < t.entities
      from_entity = root_entity _ _ from_same (w.row i (is_row i h)).source

      to_entity : to_in roots i < t.entities
      to_entity = root_entity _ _ to_same (w.row i (is_row i h)).destination

      -- what is asked for the kinds of row i
      pub good_alone : GoodAlone t roots i
      good_alone =
          let n = held.entities in
          let m = held.rows in
          record {
            tree = tree;
            row = good_rows i h;
            few = m;
            place = omega arith;
            few_filters = held.filters;
            from = let e = from_entity in omega arith;
            to = let e = to_entity in omega arith;
          }

    mask : (e k : ℕ) → e < t.entities → e ≡ k → get_or t.masks e 0 ≡ (entity_at T k).mask
    mask e k b q = sym (mask_same t e b) ∙ ap (λ (x : ℕ). (entity_at T x).mask) q

    alike : (i : ℕ) → Alike (seen t roots i) (seen_of T)
    alike i =
        record {
          up = parents;
          caps = caps_lent t held w;
          floor = refl;
          filters = sym count.filters;
          filter = λ k b. sym (get_d_tabulate (filter_in t.filter_roots t.filter_actions t.bounds) t.filters k no_filter b);
          rows = sym rows_counted;
          placed = λ i h x. record { row = row_same i h x; from = from_same i h x; to = to_same i h x };
          from_mask = λ i h. mask (from_in roots i) (source_root T i) (from_entity i h) (from_same i h);
          to_mask = λ i h. mask (to_in roots i) (destination_root T i) (to_entity i h) (to_same i h);
          dead = row_dead t held w z;
        }

    -- the anomalies that are marked are the table's, and as many as are marked
    module _ (i : ℕ) (h : i < t.rows) where
      pub own_listed : (own : ℕ) → own ≡ alone_at t roots i → (kind : ℕ) → marked own kind ≡ anomaly T i kind no_second
      own_listed own o kind =
          ap (λ (n : ℕ). marked n kind) o ∙ marked_bits (row_tests (seen t roots i) i) kind ∙ ap (λ (l : List Bool). get_or l kind false) (row_alike (alike i) i h)
          ∙ sym (anomaly_row T w i kind (is_row i h))

      pub pair_listed : (j : ℕ) → j < t.rows → (kind : ℕ) → kind ≤ row_kind_count → marked (paired_at t roots i j) kind ≡ anomaly T i kind j
      pair_listed j k kind b =
          marked_bits (pair_tests (pair_in (seen t roots i) i j)) kind
          ∙ ap (λ (q : Pair). get_or (pair_tests q) kind false) (pair_alike (alike i) i j h k)
          ∙ sym (anomaly_pair T w i kind j (is_row i h) (is_row j k) (row_kind kind b))

      pub row_count_lem : (own : ℕ) (pairs : List ℕ) → own ≡ alone_at t roots i → ((j : ℕ) → j < t.rows → mark_at pairs i j ≡ paired_at t roots i j)
          → row_count own pairs t.rows i ≡ length (of_thing T (row_block T) i)
      row_count_lem own pairs o p =
          let g : ℕ → ℕ = λ j. sum row_kind_count 1 (λ kind. bit (anomaly T i kind j)) in
          let a =
          ones_kinds (map (of_one (seen t roots i) i) kinds) own (λ kind. anomaly T i kind no_second) o (own_listed own o)
          ∙ first_kinds (λ kind. anomaly T i kind no_second) (λ kind. anomaly T i kind no_second) (λ kind b. refl) (λ kind b. anomaly_filter T w i kind (filter_kind_lem kind b)) in
          let b =
          sum_same (λ j. ones (mark_at pairs i j)) g t.rows 0
          (λ j l k.
          let q = pair_tests (pair_in (seen t roots i) i j) in
          ap ones (p j (omega arith))
          ∙ ones_kinds (map (of_two (pair_in (seen t roots i) i j)) kinds) (paired_at t roots i j) (λ kind. get_or q kind false) refl (marked_bits q)
          ∙ first_kinds (λ kind. get_or q kind false) (λ kind. anomaly T i kind j)
          (λ kind c. sym (marked_bits q kind) ∙ pair_listed j (omega arith) kind c)
          (λ kind c. no_pair (pair_in (seen t roots i) i j) kind (filter_kind_lem kind c))) in
          let c = thing_counted T i (row_block T) in
          let d = ap (λ (n : ℕ). sum n 0 g) rows_counted in
          omega arith

  -- ---- the filters

  abbrev filter_mark : ℕ → ℕ → ℕ
  filter_mark = filter_marks t.filter_roots t.filter_actions t.bounds

  filters_counted : length T.filters ≡ t.filters
  filters_counted = count.filters

  filter_same : (k : ℕ) → k < t.filters → filter_in t.filter_roots t.filter_actions t.bounds k ≡ filter_at T k
  filter_same k h = sym (get_d_tabulate (filter_in t.filter_roots t.filter_actions t.bounds) t.filters k no_filter h)

  abbrev lent : ℕ → ℕ → List Bool
  lent k m =
      filter_tests k m (filter_in t.filter_roots t.filter_actions t.bounds k) (filter_in t.filter_roots t.filter_actions t.bounds m)

  pub filter_listed : (k m kind : ℕ) → k < t.filters → m < t.filters → row_kind_count < kind → marked (filter_mark k m) kind ≡ anomaly T k kind m
  filter_listed k m kind h l b =
      let e = filters_counted in
      marked_bits (lent k m) kind
      ∙ (λ x. get_or (filter_tests k m (filter_same k h x) (filter_same m l x)) kind false)
      ∙ sym (anomaly_filters T w k kind m (omega arith) (omega arith) (filter_kind_lem kind b))

  -- at the kinds of rows they have none
  pub filter_unlisted : (k m kind : ℕ) → kind ≤ row_kind_count → marked (filter_mark k m) kind ≡ false
  filter_unlisted k m kind b = marked_bits (lent k m) kind ∙ no_filters k m _ _ kind (row_kind kind b)

  filter_count : (k : ℕ) → k < t.filters → sum t.filters 0 (λ m. ones (filter_mark k m)) ≡ length (of_thing T (filter_block T) k)
  filter_count k h =
      let g : ℕ → ℕ = λ m. sum filter_kind_count (suc row_kind_count) (λ kind. bit (anomaly T k kind m)) in
      let a =
      sum_same (λ m. ones (filter_mark k m)) g t.filters 0
      (λ m l b.
      ones_kinds (map (of_two_filters k m _ _) kinds) (filter_mark k m) (λ kind. get_or (lent k m) kind false) refl (marked_bits (lent k m))
      ∙ last_kinds (λ kind. get_or (lent k m) kind false) (λ kind. anomaly T k kind m)
      (λ kind c. sym (marked_bits (lent k m) kind) ∙ filter_listed k m kind h (omega arith) c)
      (λ kind c. no_filters k m _ _ kind (row_kind kind c))) in
      let b = sum_none (λ kind. bit (anomaly T k kind no_second)) filter_kind_count (suc row_kind_count) (λ kind l m. ap bit (anomaly_filter T w k kind (filter_kind_lem kind (omega arith)))) in
      let c = thing_counted T k (filter_block T) in
      let d = ap (λ (n : ℕ). sum n 0 g) filters_counted in
      omega arith

  pub filters_count : sum t.filters 0 (λ k. sum t.filters 0 (λ m. ones (filter_mark k m))) ≡ length (of_block T (filter_block T))
  filters_count =
      let g : ℕ → ℕ = λ k. length (of_thing T (filter_block T) k) in
      sum_same (λ k. sum t.filters 0 (λ m. ones (filter_mark k m))) g t.filters 0 (λ k l b. filter_count k (omega arith))
      ∙ ap (λ (n : ℕ). sum n 0 g) (sym filters_counted)
      ∙ sym (gather_length (of_thing T (filter_block T)) g (λ k. refl) (length T.filters) 0)
