-- At most 13,792 entries: of each row at most three with each other row, and eleven alone, 63 · 3 + 11; of each filter at most one with each other.
-- Assumes nothing.
use Prim.Native.Nat.{ℕ, suc, ◌+◌, ◌-◌, ◌*◌, ◌≤◌, ◌<◌}
use mathlib.Core.Path.{◌≡◌, refl, sym, ap, ◌∙◌}
use mathlib.Core.Bool.{Bool, true, false}
use mathlib.Core.Logic.{inl, inr}
use mathlib.Core.List.{List, [], ◌∷◌, map}
use native.Mathlib.Numerals.{add-one}
use native.Mathlib.Omega.{arith}
use lib.Dec.{ltb}
use lib.ListN.{length, length-append}
use Rattle.base.specs.Truths.{pick, Decides, bit}
use Rattle.policy.specs.Limits.{most_filters, most_rows}
use Rattle.policy.specs.Model.{Table, filter_at, row_at, parent_of}
use Rattle.policy.specs.Wellformed.{Wellformed}
use Rattle.relations.specs.Technologies.{layer_of}
use Rattle.base.proofs.Laws.Decides.{decides_eqb, decides_ltb, decides_holds, decides_fails}
use Rattle.relations.proofs.Laws.Entities.{above_antisym}
use Rattle.relations.proofs.Laws.Selectors.{contains_antisym}
use Rattle.relations.proofs.Laws.Tables.{table_tree}
use Rattle.base.proofs.Laws.Passing.{bit_le}
use Rattle.kinds.specs.Meanings.{IsRow, IsFilter, EarlierInGroup, Encloses, SameTraffic, Contradiction}
use Rattle.kinds.specs.Tests.{pair_at, shadowing, redundancy, exception, correlation, inclusion, affinity, contradiction, skewed, monitorable, filter_shadowing, filter_redundancy}
use Rattle.kinds.specs.Seen.{Seen, seen_of}
use Rattle.kinds.specs.Kinds.{Kind, no_kind, alone, paired, of_filters, kinds, row_kind_count, filter_kind_count, no_second, anomaly, of_one}
use Rattle.kinds.specs.Entries.{Entry, entry, gather, sum, listed, Block, row_block, filter_block, of_kind, of_thing, of_block, entries, most_entries}
use Rattle.kinds.proofs.Laws.Pairs as pairs
use Rattle.kinds.proofs.Laws.Filters as filters
use Rattle.kinds.proofs.Laws.Entries.{entries_blocks}
use Rattle.kinds.proofs.Laws.Splits.{anomaly_row, anomaly_filter}
use Rattle.kinds.proofs.Laws.Sums.{gather_length, sum_add, sum_exchange, sum_le, sum_but, sum_split, total, sum_list}

-- Of one row, and of one filter.
abbrev most_of_row : ℕ
most_of_row = 3 * (most_rows - 1) + 11

abbrev most_of_filter : ℕ
most_of_filter = most_filters - 1

-- ---- tests that are counted

counted : Bool → ℕ
counted b = bit b

pick_length : (b : Bool) (e : Entry) → length (pick b (e ∷ []) []) ≡ counted b
unfolding counted
pick_length true e = refl
pick_length false e = refl

counted_le : (b : Bool) → counted b ≤ 1
unfolding counted
counted_le b = bit_le b

-- How many kinds are of one row: no more hold of it alone.
alone_count : List Kind → ℕ
alone_count [] = 0
alone_count (no_kind ∷ l) = alone_count l
alone_count (alone P b ∷ l) = suc (alone_count l)
alone_count (paired P b ∷ l) = alone_count l
alone_count (of_filters P b ∷ l) = alone_count l

alone_most : (s : Seen) (i : ℕ) (l : List Kind) → total counted (map (of_one s i) l) ≤ alone_count l
unfolding total alone_count counted
alone_most s i [] = omega arith
alone_most s i (no_kind ∷ l) = let r = alone_most s i l in omega arith
alone_most s i (alone P b ∷ l) = let r = alone_most s i l in omega (arith, counted_le (b s i))
alone_most s i (paired P b ∷ l) = let r = alone_most s i l in omega arith
alone_most s i (of_filters P b ∷ l) = let r = alone_most s i l in omega arith

-- One more that does not hold; one more, and where it holds nothing else does.
none : (b : Bool) {P : Type 0} → Decides b P → (P → ⊥) → (n : ℕ) → n ≡ 0 → counted b + n ≡ 0
unfolding counted
none b d h n z = rw (decides_fails b d h, z)

one : (b : Bool) {P : Type 0} → Decides b P → (n : ℕ) → (P → n ≡ 0) → n ≤ 1 → counted b + n ≤ 1
unfolding counted
one true d n h l = let z = h (d.yes refl) in omega arith
one false d n h l = omega arith

-- ---- of thing i of a block

module _ (t : Table) (i : ℕ) where
  -- 1 where the anomaly is there.
  abbrev found : ℕ → ℕ → ℕ
  found kind j = counted (anomaly t i kind j)

  module _ (b : Block) where
    kind_length : (kind : ℕ) → length (of_kind t b.things i kind) ≡ sum b.things 0 (found kind) + found kind no_second
    kind_length kind =
        length-append (gather b.things 0 (λ j. listed t i kind j)) (listed t i kind no_second)
        ∙ (λ k. gather_length (λ j. listed t i kind j) (found kind) (λ j. pick_length _ (entry i kind j)) b.things 0 k
        + pick_length (anomaly t i kind no_second) (entry i kind no_second) k)

    -- They are listed kind by kind, and counted second number by second number.
    pub thing_counted : length (of_thing t b i)
        ≡ sum b.things 0 (λ j. sum b.kinds b.kind (λ kind. bit (anomaly t i kind j))) + sum b.kinds b.kind (λ kind. bit (anomaly t i kind no_second))
    unfolding counted
    thing_counted =
        let a = gather_length (of_kind t b.things i) _ kind_length b.kinds b.kind in
        let c = sum_add (λ kind. sum b.things 0 (found kind)) (λ kind. found kind no_second) b.kinds b.kind in
        let d = sum_exchange found b.things 0 b.kinds b.kind in
        omega arith

    -- At most `most` with each other thing, none with itself, and at most `own` alone.
    thing_few : (most own : ℕ) → i < b.things → ((j : ℕ) → j < b.things → sum b.kinds b.kind (λ kind. found kind j) ≤ most)
        → sum b.kinds b.kind (λ kind. found kind i) ≡ 0 → sum b.kinds b.kind (λ kind. found kind no_second) ≤ own
        → length (of_thing t b i) + most ≤ b.things * most + own
    unfolding counted
    thing_few most own h each itself few =
        let a = thing_counted in
        let d = sum_but (λ j. sum b.kinds b.kind (λ kind. found kind j)) most i b.things 0 (omega arith) (omega arith) (λ j l m. each j (omega arith)) itself in
        omega arith

-- ---- of row i

module _ (t : Table) (w : Wellformed t) (i : ℕ) (hi : IsRow t i) where
  -- The kinds of two rows: 5 to 11, and 13 and 18.
  abbrev seven : ℕ → ℕ
  seven j =
      let p = pair_at t i j in
      counted (shadowing p)
      + (counted (redundancy p) + (counted (exception p) + (counted (correlation p) + (counted (inclusion p) + (counted (affinity p) + (counted (contradiction p) + 0))))))

  abbrev two : ℕ → ℕ
  two j = counted (skewed (pair_at t i j)) + (counted (monitorable (pair_at t i j)) + 0)

  is_row : ltb i (length t.rows) ≡ true
  is_row = decides_holds _ (decides_ltb i (length t.rows)) hi

  -- At a row: nine kinds.
  of_two : (j : ℕ) → IsRow t j → sum row_kind_count 1 (λ kind. found t i kind j) ≡ seven j + two j
  unfolding sum anomaly counted
  of_two j hj =
      let k = w.counts.few_rows in
      rw (is_row, decides_holds _ (decides_ltb j (length t.rows)) hj, decides_fails _ (decides_eqb j no_second) (λ e. omega arith)) (omega arith)

  -- At FF: the kinds of one row.
  of_one_lem : sum row_kind_count 1 (λ kind. found t i kind no_second) ≤ alone_count kinds
  of_one_lem =
      let e = sum_list counted false (map (of_one (seen_of t) i) kinds) 1 (λ kind. found t i kind no_second) (λ m. rw (add-one m) (ap counted (anomaly_row t w i (suc m) hi))) in
      let d = sum_split (λ kind. found t i kind no_second) row_kind_count filter_kind_count 1 in
      omega (arith, alone_most (seen_of t) i kinds)

  -- None at the row itself.
  no_seven : seven i ≡ 0
  no_seven =
      none _ (pairs.shadowing_decides t w i i hi hi) (λ s. let h = s.pair.earlier in omega arith) _
      (none _ (pairs.redundancy_decides t w i i hi hi) (λ r. let h = r.pair.earlier in omega arith) _
      (none _ (pairs.exception_decides t w i i hi hi) (λ e. let h = e.pair.earlier in omega arith) _
      (none _ (pairs.correlation_decides t w i i hi hi) (λ c. let h = c.pair.earlier in omega arith) _
      (none _ (pairs.inclusion_decides t w i i hi hi) (λ n. let h = n.dominates.layer in omega arith) _
      (none _ (pairs.affinity_decides t w i i hi hi) (λ a. let h = a.pair.earlier in omega arith) _
      (none _ (pairs.contradiction_decides t w i i hi hi) (λ x. let h = x.pair.earlier in omega arith) _ refl))))))

  no_two : two i ≡ 0
  no_two =
      none _ (pairs.skewed_decides t w i i hi hi) (λ s. s.pair.different refl) _
      (none _ (pairs.monitorable_decides t w i i hi hi) (λ m. m.pair.different refl) _ refl)

  module _ (j : ℕ) (hj : IsRow t j) where
    -- 5 and 7 are never both.
    same_traffic_lem : Encloses t i j → Encloses t j i → SameTraffic t i j
    same_traffic_lem e f =
        record {
          source = above_antisym (parent_of t) (table_tree t w) _ _ e.source f.source;
          destination = above_antisym (parent_of t) (table_tree t w) _ _ e.destination f.destination;
          selector = contains_antisym _ _ (pairs.selector_ordered t w i hi) (pairs.selector_ordered t w j hj) e.selector f.selector;
        }

    one_null : Contradiction t i j → ((row_at t i).technology ≡ 0 → ⊥) → ((row_at t j).technology ≡ 0 → ⊥) → ⊥
    one_null x n m = elim x.one_null [ inl h ↦ n h.0 | inr h ↦ m h.1 ]

    -- In one group t is the same.
    in_group : EarlierInGroup t i j → counted (inclusion (pair_at t i j)) + (counted (affinity (pair_at t i j)) + (counted (contradiction (pair_at t i j)) + 0)) ≡ 0
    in_group g =
        let q = g.group.technology in
        none _ (pairs.inclusion_decides t w i j hi hj) (λ n. let h = n.dominates.layer in let e = ap layer_of q in omega arith) _
        (none _ (pairs.affinity_decides t w i j hi hj) (λ a. a.different q) _
        (none _ (pairs.contradiction_decides t w i j hi hj) (λ x. elim x.one_null [ inl h ↦ h.1 (sym q ∙ h.0) | inr h ↦ h.0 (q ∙ h.1) ]) _ refl))

    -- Of 5 to 11 at most one.
    at_most_one : seven j ≤ 1
    at_most_one =
        let red = pairs.redundancy_decides t w i j hi hj in
        let exc = pairs.exception_decides t w i j hi hj in
        let cor = pairs.correlation_decides t w i j hi hj in
        let aff = pairs.affinity_decides t w i j hi hj in
        let con = pairs.contradiction_decides t w i j hi hj in
        one _ (pairs.shadowing_decides t w i j hi hj) _
        (λ s.
        none _ red (λ r. s.weaker r.stronger) _
        (none _ exc (λ e. e.different (same_traffic_lem s.encloses e.enclosed)) _ (none _ cor (λ c. c.no_shadowing s) _ (in_group s.pair))))
        (one _ red _ (λ r. none _ exc (λ e. e.weaker r.stronger) _ (none _ cor (λ c. c.no_redundancy r) _ (in_group r.pair)))
        (one _ exc _ (λ e. none _ cor (λ c. c.no_exception e) _ (in_group e.pair))
        (one _ cor _ (λ c. in_group c.pair)
        (one _ (pairs.inclusion_decides t w i j hi hj) _
        (λ n. none _ aff (λ a. a.no_inclusion n) _ (none _ con (λ x. one_null x n.dominates.upper n.dominates.lower) _ refl))
        (one _ aff _ (λ a. none _ con (λ x. one_null x a.not_null a.other_not_null) _ refl)
        (one _ con _ (λ x. refl) (omega arith)))))))

    at_most_three : sum row_kind_count 1 (λ kind. found t i kind j) ≤ 3
    at_most_three =
        rw (of_two j hj)
        (omega (arith, at_most_one, counted_le (skewed (pair_at t i j)), counted_le (monitorable (pair_at t i j))))

  row_length_lem : length (of_thing t (row_block t) i) ≤ most_of_row
  unfolding alone_count counted
  row_length_lem =
      let a = thing_few t i (row_block t) 3 11 hi (λ j h. at_most_three j h) (omega (arith, of_two i hi, no_seven, no_two)) of_one_lem in
      let f = w.counts.few_rows in
      omega arith

-- ---- of filter k

module _ (t : Table) (w : Wellformed t) (k : ℕ) (hk : IsFilter t k) where
  -- At a filter: two kinds, of which there is at most one, and none at the filter itself. At FF: none.
  two_filters : (m : ℕ) → IsFilter t m
      → sum filter_kind_count (suc row_kind_count) (λ kind. found t k kind m)
      ≡ counted (filter_shadowing k m (filter_at t k) (filter_at t m)) + (counted (filter_redundancy (filter_at t k) (filter_at t m)) + 0)
  unfolding sum anomaly
  two_filters m hm =
      rw (decides_holds _ (decides_ltb k (length t.filters)) hk, decides_holds _ (decides_ltb m (length t.filters)) hm)

  filter_once : (m : ℕ) → IsFilter t m → sum filter_kind_count (suc row_kind_count) (λ kind. found t k kind m) ≤ 1
  filter_once m hm =
      let red = filters.filter_redundancy_decides t w k m hm in
      rw (two_filters m hm)
      (one _ (filters.filter_shadowing_decides t w k m hm) _ (λ s. none _ red (λ r. r.roots s.root) _ refl) (one _ red _ (λ r. refl) (omega arith)))

  filter_itself : sum filter_kind_count (suc row_kind_count) (λ kind. found t k kind k) ≡ 0
  filter_itself =
      rw (two_filters k hk)
      (none _ (filters.filter_shadowing_decides t w k k hk) (λ s. let h = s.earlier in omega arith) _
      (none _ (filters.filter_redundancy_decides t w k k hk) (λ r. r.roots refl) _ refl))

  filter_alone : sum filter_kind_count (suc row_kind_count) (λ kind. found t k kind no_second) ≤ 0
  unfolding sum counted
  filter_alone = rw (anomaly_filter t w k 21 tt, anomaly_filter t w k 22 tt) (omega arith)

  filter_length_lem : length (of_thing t (filter_block t) k) ≤ most_of_filter
  filter_length_lem =
      let a = thing_few t k (filter_block t) 1 0 hk filter_once filter_itself filter_alone in
      let f = w.counts.few_filters in
      omega arith

-- ---- all entries

block_few : (t : Table) (b : Block) (most : ℕ) → ((i : ℕ) → i < b.things → length (of_thing t b i) ≤ most) → length (of_block t b) ≤ b.things * most
block_few t b most h =
    let a = gather_length (of_thing t b) (λ i. length (of_thing t b i)) (λ i. refl) b.things 0 in
    let c = sum_le (λ i. length (of_thing t b i)) most b.things 0 (λ i l m. h i (omega arith)) in
    omega arith

-- "The list has at most 13,792 entries"
pub entries_few : (t : Table) → Wellformed t → length (entries t) ≤ most_entries
entries_few t w =
    let e = ap length (entries_blocks t) ∙ length-append (of_block t (row_block t)) (of_block t (filter_block t)) in
    let a = block_few t (row_block t) most_of_row (row_length_lem t w) in
    let b = block_few t (filter_block t) most_of_filter (filter_length_lem t w) in
    let f = w.counts.few_rows in
    let g = w.counts.few_filters in
    omega arith
