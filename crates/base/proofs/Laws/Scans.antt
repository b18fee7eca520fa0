-- The first n of an array, gone through until one passes a test.
-- Assumes nothing.
use Prim.Native.Nat.{ℕ, suc, ◌+◌, ◌≤◌, ◌<◌}
use mathlib.Core.Path.{◌≡◌, sym, ap, ◌∙◌}
use mathlib.Core.Bool.{Bool, true, false, ◌||◌}
use mathlib.Core.List.{List, [], ◌∷◌}
use native.Mathlib.Numerals.{add-one}
use native.Mathlib.Omega.{arith}
use lib.ListN.{length, get_or, take, drop, drop_of_length-le}
use lib.Seq.{drop-cons, length-take-le, get_or-take}

-- P holds where some element, with those that stand after it, passes q. Of the elements before k none did.
module _ (P : List ℕ → Bool) (q : ℕ → List ℕ → Bool) (none : P [] ≡ false) (more : (x : ℕ) (xs : List ℕ) → P (x ∷ xs) ≡ (q x xs || P xs))
    (at : List ℕ) (n : ℕ) (fits : n ≤ length at) (whole : Bool) (k : ℕ) (left : whole ≡ P (drop k (take n at))) where
  abbrev after : List ℕ
  after = drop (k + 1) (take n at)

  begun : k < n → whole ≡ (q (get_or at k 0) after || P after)
  begun h =
      let l = length-take-le n at fits in
      left
      ∙ ap P (drop-cons (take n at) k 0 (omega arith))
      ∙ more (get_or (take n at) k 0) (drop (suc k) (take n at))
      ∙ ap (λ (m : ℕ). q (get_or (take n at) k 0) (drop m (take n at)) || P (drop m (take n at))) (sym (add-one k))
      ∙ ap (λ (x : ℕ). q x after || P after) (get_or-take n at k 0 h)

  pub scan_found : k < n → q (get_or at k 0) after ≡ true → true ≡ whole
  scan_found h e = sym (begun h ∙ ap (λ (b : Bool). b || P after) e)

  pub scan_next : k < n → q (get_or at k 0) after ≡ false → whole ≡ P after
  scan_next h e = begun h ∙ ap (λ (b : Bool). b || P after) e

  pub scan_end : n ≤ k → false ≡ whole
  scan_end h =
      let l = length-take-le n at fits in
      sym (left ∙ ap P (drop_of_length-le (take n at) {i = k} (omega arith)) ∙ none)
