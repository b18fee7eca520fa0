-- The roots of all rows, two for each: none yet, those of one row more, and those of a row.
-- Assumes nothing.
use Prim.Native.Nat.{ℕ, ◌+◌, ◌*◌, ◌/◌, ◌%◌, ◌≤◌, ◌<◌}
use mathlib.Core.Path.{◌≡◌, sym, ap, ◌∙◌}
use mathlib.Core.Bool.{Bool}
use mathlib.Core.List.{List}
use native.Mathlib.Omega.{arith}
use lib.Dec.{eqb}
use lib.ListN.{get_or, set, replicate}
use Rattle.policy.specs.Limits.{most_rows}
use Rattle.policy.specs.Views.{parent_in, row_in}
use Rattle.relations.specs.Entities.{root_of}
use Rattle.base.specs.Lists.{filled}
use Rattle.kinds.specs.Views.{from_in, to_in, end_of, root_in, Rooted}
use Rattle.base.proofs.Laws.Filled.{filled_start, filled_next, filled_at}

module _ (parents heads bounds : List ℕ) where
  abbrev at : ℕ → ℕ
  at = root_in parents heads bounds

  -- The root of row i's source, or of its destination.
  abbrev pub root_at : (source : Bool) → ℕ → ℕ
  root_at source i = root_of (parent_in parents) (end_of source (row_in heads bounds i))

  placed : (k i m : ℕ) → k / 2 ≡ i → k % 2 ≡ m → at k ≡ root_at (eqb m 0) i
  placed k i m e f = λ x. root_of (parent_in parents) (end_of (eqb (f x) 0) (row_in heads bounds (e x)))

  even : (i : ℕ) → at (2 * i) ≡ root_at (eqb 0 0) i
  even i = placed (2 * i) i 0 (omega arith) (omega arith)

  odd : (i : ℕ) → at (2 * i + 1) ≡ root_at (eqb 1 0) i
  odd i = placed (2 * i + 1) i 1 (omega arith) (omega arith)

  pub rooted_start : Rooted parents heads bounds 0 (replicate (2 * most_rows) 0)
  rooted_start = record { whole = filled_start 0 at (2 * most_rows) }

  module _ {roots : List ℕ} (i : ℕ) where
    pub rooted_next : {x y : ℕ} → i < most_rows → Rooted parents heads bounds i roots → x ≡ root_of (parent_in parents) (row_in heads bounds i).source
        → y ≡ root_of (parent_in parents) (row_in heads bounds i).destination → Rooted parents heads bounds (i + 1) (set (set roots (2 * i) x) (2 * i + 1) y)
    rooted_next {x} {y} h r e f =
        let n : 2 * i + 1 + 1 ≡ 2 * (i + 1) = omega arith in
        record {
          whole =
              ap (λ (l : List ℕ). set (set l (2 * i) x) (2 * i + 1) y) r.whole
              ∙ ap (λ (l : List ℕ). set l (2 * i + 1) y) (filled_next 0 at (2 * most_rows) (2 * i) x (omega arith) (e ∙ sym (even i)))
              ∙ filled_next 0 at (2 * most_rows) (2 * i + 1) y (omega arith) (f ∙ sym (odd i))
              ∙ ap (filled 0 at (2 * most_rows)) n;
        }

    module _ {rows : ℕ} (r : Rooted parents heads bounds rows roots) (few : rows ≤ most_rows) (h : i < rows) where
      pub rooted_from : from_in roots i ≡ root_of (parent_in parents) (row_in heads bounds i).source
      rooted_from =
          ap (λ (l : List ℕ). get_or l (2 * i) 0) r.whole ∙ filled_at 0 at (2 * most_rows) (2 * rows) (2 * i) (omega arith) (omega arith) ∙ even i

      pub rooted_to : to_in roots i ≡ root_of (parent_in parents) (row_in heads bounds i).destination
      rooted_to =
          ap (λ (l : List ℕ). get_or l (2 * i + 1) 0) r.whole ∙ filled_at 0 at (2 * most_rows) (2 * rows) (2 * i + 1) (omega arith) (omega arith) ∙ odd i
