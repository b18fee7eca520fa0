-- Laws of a list that is filled from its start, place by place: as long as it has room, what stands at a place, nothing yet, one place more.
-- Assumes nothing.
use Prim.Native.Nat.{ℕ, ◌+◌, ◌≤◌, ◌<◌}
use mathlib.Core.Path.{◌≡◌, sym, ap, ◌∙◌}
use mathlib.Core.Bool.{Bool}
use mathlib.Core.List.{List}
use native.Mathlib.Decide.{dec_lt}
use native.Mathlib.Omega.{arith}
use lib.Dec.{ltb}
use lib.ListN.{length, get_or, set, replicate, length-set, length-replicate}
use lib.Seq.{get_or-set_same, get_or-set_other}
use borrow.Author.Tests.{lt-ltb, le-ltb}
use Rattle.base.specs.Truths.{pick}
use Rattle.base.specs.Lists.{filled}
use Rattle.base.proofs.Laws.Lists.{length_tabulate, get_d_tabulate, tabulate_counted, get_d_replicated}

module _ {A : Type 0} (d : A) (f : ℕ → A) (size : ℕ) where
  pub filled_length : (n : ℕ) → length (filled d f size n) ≡ size
  unfolding filled
  filled_length n = length_tabulate (λ k. pick (ltb k n) (f k) d) size

  stands : (n k : ℕ) → k < size → get_or (filled d f size n) k d ≡ pick (ltb k n) (f k) d
  unfolding filled
  stands n k b = get_d_tabulate (λ k. pick (ltb k n) (f k) d) size k d b

  pub filled_at : (n k : ℕ) → k < n → n ≤ size → get_or (filled d f size n) k d ≡ f k
  filled_at n k h l = stands n k (omega arith) ∙ ap (λ (b : Bool). pick b (f k) d) (lt-ltb k n h)

  by_places : (n : ℕ) (l : List A) → length l ≡ size → ((k : ℕ) → k < size → pick (ltb k n) (f k) d ≡ get_or l k d) → filled d f size n ≡ l
  unfolding filled
  by_places n l e h = tabulate_counted (λ k. pick (ltb k n) (f k) d) size l d e h

  pub filled_start : replicate size d ≡ filled d f size 0
  filled_start =
      sym
      (by_places 0 (replicate size d) (length-replicate {A = A} size d)
      (λ k b. ap (λ (c : Bool). pick c (f k) d) (le-ltb k 0 (omega arith)) ∙ sym (get_d_replicated size d k)))

  pub filled_next : (n : ℕ) (x : A) → n < size → x ≡ f n → set (filled d f size n) n x ≡ filled d f size (n + 1)
  filled_next n x h e = sym (by_places (n + 1) (set (filled d f size n) n x) (length-set (filled d f size n) n x ∙ filled_length n) at)
    where
      at : (k : ℕ) → k < size → pick (ltb k (n + 1)) (f k) d ≡ get_or (set (filled d f size n) n x) k d
      at k b = elim (dec_lt k n) [
        | yes m ↦
            ap (λ (c : Bool). pick c (f k) d) (lt-ltb k (n + 1) (omega arith))
            ∙ sym (get_or-set_other (filled d f size n) n k x d (λ q. absurd (omega arith)) ∙ filled_at n k m (omega arith))
        | no m ↦ elim (dec_lt n k) [
          | yes o ↦
              ap (λ (c : Bool). pick c (f k) d) (le-ltb k (n + 1) (omega arith))
              ∙ sym
              (get_or-set_other (filled d f size n) n k x d (λ q. absurd (omega arith)) ∙ stands n k b
              ∙ ap (λ (c : Bool). pick c (f k) d) (le-ltb k n (omega arith)))
          | no o ↦
              let q : k ≡ n = omega arith in
              let l = filled_length n in
              rw q
              (ap (λ (c : Bool). pick c (f n) d) (lt-ltb n (n + 1) (omega arith))
              ∙ sym (get_or-set_same (filled d f size n) n x d (omega arith) ∙ e))
        ]
      ]
