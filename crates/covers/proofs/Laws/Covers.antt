-- Laws of the loop that gathers a row's cover: the cover by the rows from j on, one row more, and past the last.
-- Assumes nothing.
use mathlib.Core.Path.{◌≡◌}
use mathlib.Core.List.{List, [], ◌∷◌}
use Prim.Native.Nat.{ℕ, ◌+◌, ◌≤◌, ◌<◌}
use native.Mathlib.Numerals.{add-one}
use native.Mathlib.Omega.{arith}
use lib.ListN.{length, drop, drop_of_length-le}
use lib.Seq.{drop-cons}
use Rattle.base.specs.Truths.{pick}
use Rattle.policy.specs.Model.{Selector, no_row}
use Rattle.policy.specs.Views.{parent_in, selector_in, row_in, rows_in}
use Rattle.policy.proofs.Laws.Lists.{length_rows, row_of_rows}
use Rattle.covers.specs.Covers.{covers, cover_of}

-- The cover of row i by the rows from j on.
abbrev pub cover_from : List ℕ → List ℕ → List ℕ → (i j : ℕ) → List Selector
cover_from parents heads bounds i j = cover_of (parent_in parents) (row_in heads bounds i) (drop j (rows_in heads bounds i))

module _ (parents heads bounds : List ℕ) (i j : ℕ) where
  pub cover_next : j < i
      → cover_from parents heads bounds i j
      ≡ pick (covers (parent_in parents) (row_in heads bounds i) (row_in heads bounds j)) (selector_in bounds j ∷ cover_from parents heads bounds i (j + 1))
      (cover_from parents heads bounds i (j + 1))
  unfolding cover_of
  cover_next h =
      let l : j < length (rows_in heads bounds i) = omega (arith, length_rows heads bounds i) in
      rw (add-one j, drop-cons (rows_in heads bounds i) j no_row l, row_of_rows heads bounds i j h)

  pub cover_end : i ≤ j → cover_from parents heads bounds i j ≡ []
  unfolding cover_of
  cover_end h = rw (drop_of_length-le (rows_in heads bounds i) {i = j} (omega (arith, length_rows heads bounds i)))
