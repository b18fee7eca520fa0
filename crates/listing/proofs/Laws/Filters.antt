-- The kinds of filters, added to the marks: of no filter yet, and of one more; and that they are few.
-- Assumes nothing.
use Prim.Native.Nat.{ℕ, ◌+◌, ◌*◌, ◌≤◌, ◌<◌}
use mathlib.Core.Path.{◌≡◌, refl, sym, ap, ◌∙◌}
use mathlib.Core.Bool.{◌&&◌, ◌||◌, and-false, or-false}
use mathlib.Core.List.{List, [], ◌∷◌}
use native.Mathlib.Decide.{dec_lt, ℕ_discrete}
use native.Mathlib.Omega.{arith}
use borrow.Author.Tests.{lt-ltb, le-ltb}
use lib.Bits.{bit_or}
use lib.Count.{ones}
use lib.Dec.{ltb}
use lib.ListN.{length, get_or, set}
use lib.Seq.{sets, length-sets}
use Rattle.base.specs.Bits.{marked}
use Rattle.base.specs.Lists.{tabulate}
use Rattle.base.proofs.Laws.Bits.{marked_or}
use Rattle.base.proofs.Laws.Lists.{length_tabulate, get_d_tabulate, tabulate_grown, sets_after, get_d_sets_outside, get_d_sets_inside}
use Rattle.policy.specs.Limits.{most_filters, most_rows}
use Rattle.policy.specs.Views.{filter_in}
use Rattle.kinds.specs.Kinds.{kind_count, filter_tests}
use Rattle.kinds.specs.Entries.{sum}
use Rattle.kinds.proofs.Laws.Sums.{sum_none, sum_more, sum_le}
use Rattle.listing.specs.Marks.{mark_at, filter_marks, MarkedFilter, MarkedFilters}
use Rattle.listing.proofs.Laws.Ones.{ones_few}

module _ (roots actions bounds : List ℕ) where
  abbrev marks : ℕ → ℕ → ℕ
  marks = filter_marks roots actions bounds

  pub few_marks : (k m : ℕ) → ones (marks k m) ≤ kind_count + 1
  few_marks k m = ones_few (filter_tests k m (filter_in roots actions bounds k) (filter_in roots actions bounds m))

  -- ---- filter k with each filter

  -- what becomes of its places
  abbrev added : List ℕ → ℕ → ℕ → ℕ
  added before k m = bit_or (mark_at before k m) (marks k m)

  pub filter_start : (before : List ℕ) (k : ℕ) → MarkedFilter roots actions bounds 0 k before before 0
  filter_start before k = record { stored = refl; count = sym (sum_none (λ m. ones (marks k m)) 0 0 (λ x a b. absurd (omega arith))) }

  module _ {before mid : List ℕ} {k m n : ℕ} (p : MarkedFilter roots actions bounds m k before mid n) where
    pub filter_few : n ≤ m * (kind_count + 1)
    filter_few = let e = p.count in let h = sum_le (λ x. ones (marks k x)) (kind_count + 1) m 0 (λ x a b. few_marks k x) in omega arith

    pub filter_next : {after : List ℕ} → after ≡ set mid (most_rows * k + m) (bit_or (get_or mid (most_rows * k + m) 0) (marks k m))
        → MarkedFilter roots actions bounds (m + 1) k before after (n + ones (marks k m))
    filter_next {after} e =
        let f = added before k in
        let l = length_tabulate f m in
        let old : get_or mid (most_rows * k + m) 0 ≡ mark_at before k m =
        ap (λ (x : List ℕ). get_or x (most_rows * k + m) 0) p.stored
        ∙ get_d_sets_outside before (most_rows * k) (tabulate f m) (most_rows * k + m) 0 (λ c d q. omega arith) in
        record {
          stored =
              sets_after before (most_rows * k) (tabulate f m) (f m ∷ []) p.stored
              (e ∙ ap (λ (x : ℕ). set mid (most_rows * k + m) (bit_or x (marks k m))) old) (omega arith)
              ∙ ap (sets before (most_rows * k)) (sym (tabulate_grown f f m (f m) (λ x b. refl) refl));
          count = let c = p.count in let s = sum_more (λ x. ones (marks k x)) m in omega arith;
        }

  -- ---- one filter after another

  pub filters_start : (before : List ℕ) (filters : ℕ) → MarkedFilters roots actions bounds filters 0 before before 0
  filters_start before filters =
      record {
        long = refl;
        marks = λ i j kind h l. rw (le-ltb i 0 (omega arith)) (simp or-false);
        count = sym (sum_none (λ k. sum filters 0 (λ m. ones (marks k m))) 0 0 (λ x a b. absurd (omega arith)));
      }

  pub filters_few : {before after : List ℕ} {filters k n : ℕ} → MarkedFilters roots actions bounds filters k before after n → filters ≤ most_filters
      → n ≤ k * (most_filters * (kind_count + 1))
  filters_few {before} {after} {filters} {k} p few =
      let e = p.count in
      let h =
      sum_le (λ x. sum filters 0 (λ m. ones (marks x m))) (most_filters * (kind_count + 1)) k 0
      (λ x a b. let s = sum_le (λ m. ones (marks x m)) (kind_count + 1) filters 0 (λ m c d. few_marks x m) in omega arith) in
      omega arith

  module _ {before mid after : List ℕ} {filters k n r : ℕ} (p : MarkedFilters roots actions bounds filters k before mid n)
      (q : MarkedFilter roots actions bounds filters k mid after r) where
    -- at another place, and at one of filter k
    elsewhere : (i j : ℕ) → ((m : ℕ) → m < filters → most_rows * i + j ≡ most_rows * k + m → ⊥) → mark_at after i j ≡ mark_at mid i j
    elsewhere i j h =
        let l = length_tabulate (added mid k) filters in
        ap (λ (x : List ℕ). mark_at x i j) q.stored
        ∙ get_d_sets_outside mid (most_rows * k) (tabulate (added mid k) filters) (most_rows * i + j) 0 (λ c d e. h c (omega arith) e)

    here : (m : ℕ) → m < filters → most_rows * k + filters ≤ length mid → mark_at after k m ≡ added mid k m
    here m h room =
        let l = length_tabulate (added mid k) filters in
        ap (λ (x : List ℕ). mark_at x k m) q.stored
        ∙ get_d_sets_inside mid (most_rows * k) (tabulate (added mid k) filters) m 0 (omega arith) (omega arith)
        ∙ get_d_tabulate (added mid k) filters m 0 h

    pub filters_next : k < filters → filters ≤ most_rows → length before ≡ most_rows * most_rows
        → MarkedFilters roots actions bounds filters (k + 1) before after (n + r)
    filters_next hk few size =
        record {
          long = ap length q.stored ∙ length-sets mid (most_rows * k) (tabulate (added mid k) filters) ∙ p.long;
          marks = each;
          count = let c = p.count in let d = q.count in let s = sum_more (λ x. sum filters 0 (λ m. ones (marks x m))) k in omega arith;
        }
      where
        room : most_rows * k + filters ≤ length mid
        room = let l = p.long in omega arith

        each : (i j kind : ℕ) → i < most_rows → j < most_rows
            → marked (mark_at after i j) kind ≡ (marked (mark_at before i j) kind || (ltb i (k + 1) && (ltb j filters && marked (marks i j) kind)))
        each i j kind hi hj =
            elim (ℕ_discrete i k) [
              | yes e ↦ elim (dec_lt j filters) [
                | yes l ↦
                    rw (e, lt-ltb k (k + 1) (omega arith), lt-ltb j filters l, here j l room, marked_or (mark_at mid k j) (marks k j) kind, p.marks k j kind (omega arith) hj, le-ltb k k (omega arith))
                    (simp or-false)
                | no l ↦
                    rw (le-ltb j filters (omega arith), elsewhere i j (λ m b x. omega arith), p.marks i j kind hi hj, le-ltb j filters (omega arith))
                    (simp (and-false, or-false))
              ]
              | no ne ↦ elim (dec_lt i k) [
                | yes l ↦ rw (lt-ltb i (k + 1) (omega arith), elsewhere i j (λ m b x. omega arith), p.marks i j kind hi hj, lt-ltb i k l)
                | no l ↦ rw (le-ltb i (k + 1) (omega (arith, ne)), elsewhere i j (λ m b x. ne (omega arith)), p.marks i j kind hi hj, le-ltb i k (omega arith))
              ]
            ]
