-- Laws of the entities, filters and rows that a table's runs hold: how many rows there are, and the row at a place; one more after a write
-- (`..-grown`), and all as they were after a write that is not theirs (`..-kept`). The rows' selectors stand first, the filters' after them.
-- Assumes nothing.
use mathlib.Core.Path.{◌≡◌}
use mathlib.Core.List.{List, [], ◌∷◌, ◌++◌}
use Prim.Native.Nat.{ℕ, ◌+◌, ◌*◌, ◌≤◌, ◌<◌}
use native.Mathlib.Omega.{arith}
use lib.ListN.{length, get_or, set}
use lib.Seq.{get_or-set_same, get_or-set_other}
use Rattle.base.specs.Lists.{tabulate}
use Rattle.base.proofs.Laws.Lists.{length_tabulate, get_d_tabulate, tabulate_same, tabulate_grown}
use Rattle.policy.specs.Limits.{most_rows, head_count, word_count}
use Rattle.policy.specs.Model.{Entity, Selector, Filter, no_row}
use Rattle.policy.specs.Wellformed.{SelectorRule}
use Rattle.policy.specs.Views.{entity_in, filter_in, row_from, row_in, rows_in}
use Rattle.policy.specs.Writes.{put_selector, put_head}
use Rattle.policy.proofs.Laws.Runs.{numbers_there, numbers_elsewhere, selector_there, selector_elsewhere}

-- ---- the rows

module _ (heads bounds : List ℕ) (n : ℕ) where
  pub length_rows : length (rows_in heads bounds n) ≡ n
  length_rows = length_tabulate (row_in heads bounds) n

  pub row_of_rows : (i : ℕ) → i < n → get_or (rows_in heads bounds n) i no_row ≡ row_in heads bounds i
  row_of_rows i h = get_d_tabulate (row_in heads bounds) n i no_row h

-- ---- after the write of a selector

module _ (bounds : List ℕ) (k : ℕ) (s : Selector) (rule : SelectorRule s) where
  pub filters_kept : (roots actions : List ℕ) (n : ℕ) → k < most_rows
      → tabulate (filter_in roots actions (put_selector bounds k s)) n ≡ tabulate (filter_in roots actions bounds) n
  filters_kept roots actions n h =
      tabulate_same (filter_in roots actions (put_selector bounds k s)) (filter_in roots actions bounds) n
      (λ j b. rw (selector_elsewhere bounds k s rule (most_rows + j) (λ q. omega arith)))

-- ---- one more

pub entities_grown :
    (parents layers masks : List ℕ)
    (n : ℕ)
    (e : Entity) →
    n < length parents →
    n < length layers →
    n < length masks →
    tabulate (entity_in (set parents n e.parent) (set layers n e.layer) (set masks n e.mask)) (n + 1)
    ≡ tabulate (entity_in parents layers masks) n ++ (e ∷ [])
entities_grown parents layers masks n e p l m =
    tabulate_grown
    (entity_in (set parents n e.parent) (set layers n e.layer) (set masks n e.mask))
    (entity_in parents layers masks)
    n
    e
    (λ k b. let h : k ≡ n → ⊥ = λ q. omega arith in simp (get_or-set_other, h))
    (simp (get_or-set_same, p, l, m))

pub filters_grown :
    (roots actions bounds : List ℕ)
    (n : ℕ)
    (f : Filter) →
    n < length roots →
    n < length actions →
    SelectorRule f.selector →
    word_count * (most_rows + n) + word_count ≤ length bounds →
    tabulate (filter_in (set roots n f.root) (set actions n f.action) (put_selector bounds (most_rows + n) f.selector)) (n + 1)
    ≡ tabulate (filter_in roots actions bounds) n ++ (f ∷ [])
filters_grown roots actions bounds n f r a rule h =
    tabulate_grown
    (filter_in (set roots n f.root) (set actions n f.action) (put_selector bounds (most_rows + n) f.selector))
    (filter_in roots actions bounds)
    n
    f
    (λ k b.
    rw (
      get_or-set_other roots n k f.root 0 (λ q. omega arith),
      get_or-set_other actions n k f.action 0 (λ q. omega arith),
      selector_elsewhere bounds (most_rows + n) f.selector rule (most_rows + k) (λ q. omega arith),
    ))
    (rw (
      get_or-set_same roots n f.root 0 r,
      get_or-set_same actions n f.action 0 a,
      selector_there bounds (most_rows + n) f.selector rule h,
    ))

pub rows_grown :
    (heads bounds : List ℕ)
    (n : ℕ)
    (head : List ℕ)
    (s : Selector) →
    length head ≡ head_count →
    head_count * n + head_count ≤ length heads →
    SelectorRule s →
    word_count * n + word_count ≤ length bounds →
    rows_in (put_head heads n head) (put_selector bounds n s) (n + 1) ≡ rows_in heads bounds n ++ (row_from head s ∷ [])
rows_grown heads bounds n head s whole h rule b =
    tabulate_grown
    (row_in (put_head heads n head) (put_selector bounds n s))
    (row_in heads bounds)
    n
    (row_from head s)
    (λ k b.
    rw (
      numbers_elsewhere head_count heads n head whole k (λ q. omega arith),
      selector_elsewhere bounds n s rule k (λ q. omega arith),
    ))
    (rw (
      numbers_there head_count heads n head whole (omega arith),
      selector_there bounds n s rule b,
    ))
