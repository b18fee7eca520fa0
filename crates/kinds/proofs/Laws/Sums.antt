-- Laws of sums: as many as lists one after another have, number by number, in two parts, of two, exchanged, none, bounded; and of what stands at the
-- places of a list.
-- Assumes nothing.
use Prim.Native.Nat.{ℕ, zero, suc, ◌+◌, ◌-◌, ◌*◌, ◌≤◌, ◌<◌}
use mathlib.Core.Path.{◌≡◌, refl, sym, ap, ◌∙◌}
use mathlib.Core.Logic.{inl, inr}
use mathlib.Core.List.{List, [], ◌∷◌}
use native.Mathlib.Numerals.{add-one}
use native.Mathlib.Omega.{arith}
use lib.Dec.{eqb}
use lib.ListN.{length, get_or, length-append}
use Rattle.base.proofs.Laws.Decides.{decides_eqb, decided}
use Rattle.kinds.specs.Entries.{Entry, gather, sum}

pub gather_length : (f : ℕ → List Entry) (g : ℕ → ℕ) → ((x : ℕ) → length (f x) ≡ g x) → (n k : ℕ) → length (gather n k f) ≡ sum n k g
unfolding gather sum
gather_length f g h zero k = refl
gather_length f g h (suc n) k = length-append (f k) (gather n (suc k) f) ∙ (λ i. h k i + gather_length f g h n (suc k) i)

pub sum_same : (f g : ℕ → ℕ) (n k : ℕ) → ((x : ℕ) → k ≤ x → x < k + n → f x ≡ g x) → sum n k f ≡ sum n k g
unfolding sum
sum_same f g zero k h = refl
sum_same f g (suc n) k h =
    let a = h k (omega arith) (omega arith) in
    let b = sum_same f g n (suc k) (λ x l m. h x (omega arith) (omega arith)) in
    omega arith

-- Those from k on, up to the last: the first of them and the others, and none.
pub sum_next : (f : ℕ → ℕ) (last k : ℕ) → k < last → sum (last - k) k f ≡ f k + sum (last - (k + 1)) (k + 1) f
unfolding sum
sum_next f last k h =
    let e : last - k ≡ suc (last - (k + 1)) = omega arith in
    ap (λ (n : ℕ). sum n k f) e ∙ ap (λ (j : ℕ). f k + sum (last - (k + 1)) j f) (sym (add-one k))

pub sum_end : (f : ℕ → ℕ) (last k : ℕ) → last ≤ k → sum (last - k) k f ≡ 0
unfolding sum
sum_end f last k h = let e : last - k ≡ 0 = omega arith in ap (λ (n : ℕ). sum n k f) e

-- The first n of them and the m after these.
pub sum_split : (f : ℕ → ℕ) (n m k : ℕ) → sum (n + m) k f ≡ sum n k f + sum m (k + n) f
unfolding sum
sum_split f zero m k =
    let e : 0 + m ≡ m = omega arith in
    let d : k ≡ k + 0 = omega arith in
    let s : sum (0 + m) k f ≡ sum m (k + 0) f = λ i. sum (e i) (d i) f in
    omega arith
sum_split f (suc n) m k =
    let h = sum_split f n m (suc k) in
    let e : suc n + m ≡ suc (n + m) = omega arith in
    let d : suc k + n ≡ k + suc n = omega arith in
    let a = ap (λ (x : ℕ). sum x k f) e in
    let b = ap (λ (x : ℕ). sum m x f) d in
    omega arith

-- One more.
pub sum_more : (f : ℕ → ℕ) (n : ℕ) → sum (n + 1) 0 f ≡ sum n 0 f + f n
unfolding sum
sum_more f n = let e = sum_split f n 1 0 in let z : 0 + n ≡ n = omega arith in let a = ap f z in omega arith

pub sum_add : (f g : ℕ → ℕ) (n k : ℕ) → sum n k (λ x. f x + g x) ≡ sum n k f + sum n k g
unfolding sum
sum_add f g zero k = refl
sum_add f g (suc n) k = let h = sum_add f g n (suc k) in omega arith

sum_zero : (n k : ℕ) → sum n k (λ x. 0) ≡ 0
unfolding sum
sum_zero zero k = refl
sum_zero (suc n) k = let h = sum_zero n (suc k) in omega arith

-- Where each is 0.
pub sum_none : (f : ℕ → ℕ) (n k : ℕ) → ((x : ℕ) → k ≤ x → x < k + n → f x ≡ 0) → sum n k f ≡ 0
sum_none f n k h = sum_same f (λ x. 0) n k h ∙ sum_zero n k

pub sum_exchange : (f : ℕ → ℕ → ℕ) (m l n k : ℕ) → sum n k (λ x. sum m l (f x)) ≡ sum m l (λ y. sum n k (λ x. f x y))
unfolding sum
sum_exchange f m l zero k = sym (sum_zero m l)
sum_exchange f m l (suc n) k =
    ap (λ s. sum m l (f k) + s) (sum_exchange f m l n (suc k)) ∙ sym (sum_add (f k) (λ y. sum n (suc k) (λ x. f x y)) m l)

module _ (f : ℕ → ℕ) (c : ℕ) where
  pub sum_le : (n k : ℕ) → ((x : ℕ) → k ≤ x → x < k + n → f x ≤ c) → sum n k f ≤ n * c
  unfolding sum
  sum_le zero k h = omega arith
  sum_le (suc n) k h =
      let a = h k (omega arith) (omega arith) in
      let b = sum_le n (suc k) (λ x l m. h x (omega arith) (omega arith)) in omega arith

  -- One of them is 0.
  pub sum_but : (i n k : ℕ) → k ≤ i → i < k + n → ((x : ℕ) → k ≤ x → x < k + n → f x ≤ c) → f i ≡ 0 → sum n k f + c ≤ n * c
  unfolding sum
  sum_but i zero k l m h z = absurd (omega arith)
  sum_but i (suc n) k l m h z = elim (decided (eqb k i) (decides_eqb k i)) [
    | inl q ↦
        let a : f k ≡ 0 = rw q z in
        let b = sum_le n (suc k) (λ x l m. h x (omega arith) (omega arith)) in
        omega arith
    | inr ne ↦
        let a = h k (omega arith) (omega arith) in
        let b = sum_but i n (suc k) (omega (arith, ne)) (omega arith) (λ x l m. h x (omega arith) (omega arith)) z in
        omega arith
  ]

-- What g says of the things of a list, in all.
unfoldable pub total : {A : Type 0} → (A → ℕ) → List A → ℕ
total g [] = 0
total g (x ∷ l) = g x + total g l

pub total_none : {A : Type 0} (g : A → ℕ) → total g [] ≡ 0
unfolding total
total_none g = refl

pub total_more : {A : Type 0} (g : A → ℕ) (x : A) (l : List A) → total g (x ∷ l) ≡ g x + total g l
unfolding total
total_more g x l = refl

-- They stand at their places, from k on.
pub sum_list : {A : Type 0} (g : A → ℕ) (d : A) (l : List A) (k : ℕ) (f : ℕ → ℕ) → ((m : ℕ) → f (m + k) ≡ g (get_or l m d)) → sum (length l) k f ≡ total g l
unfolding sum total
sum_list g d [] k f h = refl
sum_list g d (x ∷ l) k f h =
    let z : 0 + k ≡ k = omega arith in
    let e : f k ≡ g x = ap f (sym z) ∙ h 0 in
    let r = sum_list g d l (suc k) f (λ m. let q : m + suc k ≡ suc m + k = omega arith in ap f q ∙ h (suc m)) in
    omega arith
