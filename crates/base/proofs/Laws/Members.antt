-- Laws of tests on lists of numbers: being among them, and being the same list; the first of a list, as many as there are; a thing of a list
-- and its place. A test that holds of some number below a bound.
-- Assumes nothing.
use mathlib.Core.Path.{◌≡◌, refl, ap, sym}
use mathlib.Core.Logic.{◌⊎◌, inl, inr}
use mathlib.Core.List.Memᴰ
use mathlib.Core.List.{List, [], ◌∷◌, ◌++◌, Memᴰ}
use Prim.Native.Nat.{ℕ, zero, suc, ◌+◌, ◌≤◌, ◌<◌}
use mathlib.Core.Bool.{Bool, true, false, ◌||◌, or-false, or_assoc}
use native.Mathlib.Numerals.{add-one}
use native.Mathlib.Omega.{arith}
use lib.Dec.{eqb}
use lib.ListN.{length, get_or, take}
use Rattle.base.specs.Truths.{Decides}
use Rattle.base.specs.Lists.{among, same, some}
use Rattle.base.proofs.Laws.Decides.{decides_true, decides_false, decides_as, decides_eqb, decides_and, decides_or, decides_holds, decides_fails, decides_itself, decided}

pub among_decides : (x : ℕ) (l : List ℕ) → Decides (among x l) (Memᴰ x l)
unfolding among
among_decides x [] = decides_false Memᴰ.not-nil
among_decides x (y ∷ ys) =
    decides_as (λ s. elim s [ inl e ↦ Memᴰ.head e | inr m ↦ Memᴰ.tail m ]) Memᴰ.cases_cons
    (decides_or (eqb x y) (among x ys) (decides_eqb x y) (among_decides x ys))

pub among_nil : (x : ℕ) → among x [] ≡ false
unfolding among
among_nil x = refl

pub among_cons : (x y : ℕ) (ys : List ℕ) → among x (y ∷ ys) ≡ (eqb x y || among x ys)
unfolding among
among_cons x y ys = refl

-- A list with one more at its end.
pub among_last : (x : ℕ) (xs : List ℕ) (y : ℕ) → among x (xs ++ (y ∷ [])) ≡ (among x xs || eqb x y)
unfolding among
among_last x [] y = or-false (eqb x y)
among_last x (z ∷ xs) y = rw (among_last x xs y) (sym (or_assoc (eqb x z) (among x xs) (eqb x y)))

pub same_decides : (xs ys : List ℕ) → Decides (same xs ys) (xs ≡ ys)
unfolding same
same_decides [] [] = decides_true refl
same_decides [] (y ∷ ys) = decides_false (λ e. let z : ◌≡◌ {A = ℕ} 0 1 = cc in omega arith)
same_decides (x ∷ xs) [] = decides_false (λ e. let z : ◌≡◌ {A = ℕ} 0 1 = cc in omega arith)
same_decides (x ∷ xs) (y ∷ ys) =
    decides_as (λ h. cc) (λ h. (cc, cc))
    (decides_and (eqb x y) (same xs ys) (decides_eqb x y) (same_decides xs ys))

-- Lists of different lengths are not the same.
pub same_lengths : (xs ys : List ℕ) → (length xs ≡ length ys → ⊥) → same xs ys ≡ false
same_lengths xs ys n = decides_fails (same xs ys) (same_decides xs ys) (λ e. n (ap length e))

-- The first n of a list are as many as they are.
pub take_own : (n : ℕ) (l : List ℕ) → take (length (take n l)) l ≡ take n l
take_own zero l = refl
take_own (suc n) [] = refl
take_own (suc n) (x ∷ l) = ap (λ m. x ∷ m) (take_own n l)

-- Some number below n.
abbrev pub Some : ℕ → (ℕ → Type 0) → Type 0
Some n P = (k : ℕ) × (k < n) × P k

pub some_decides : (n : ℕ) (f : ℕ → Bool) {P : ℕ → Type 0} → ((k : ℕ) → k < n → Decides (f k) (P k)) → Decides (some n f) (Some n P)
unfolding some
some_decides zero f d = decides_false (λ h. let b = h.1 in absurd (omega arith))
some_decides (suc n) f {P} d =
    decides_as
    (λ s. elim s [ inl h ↦ (h.0, omega (arith, h.1), h.2) | inr p ↦ (n, omega arith, p) ])
    (λ h. split h.0 h.1 h.2)
    (decides_or (some n f) (f n) (some_decides n f (λ k b. d k (omega arith))) (d n (omega arith)))
  where
    split : (k : ℕ) → k < suc n → P k → Some n P ⊎ P n
    split k b p = elim (decided (eqb k n) (decides_eqb k n)) [
      | inl e ↦ inr (rw (← e) p)
      | inr ne ↦ inl (k, omega (arith, ne), p)
    ]

-- A thing of a list stands at a place of it.
pub member_at : {A : Type 0} (d x : A) (l : List A) → Memᴰ x l → (k : ℕ) × (k < length l) × (get_or l k d ≡ x)
member_at d x [] m = absurd (Memᴰ.not-nil m)
member_at d x (y ∷ l) m = elim (Memᴰ.cases_cons m) [
  | inl e ↦ (0, omega arith, sym e)
  | inr n ↦ let h = member_at d x l n in (suc h.0, omega (arith, h.1), h.2)
]

pub at_member : {A : Type 0} (d : A) (l : List A) (k : ℕ) → k < length l → Memᴰ (get_or l k d) l
at_member d [] k b = absurd (omega arith)
at_member d (y ∷ l) zero b = Memᴰ.head refl
at_member d (y ∷ l) (suc k) b = Memᴰ.tail (at_member d l k (omega arith))

-- One number more, and the first that is found.
module _ (f : ℕ → Bool) where
  pub some_start : some 0 f ≡ false
  unfolding some
  some_start = refl

  pub some_more : (k : ℕ) → some (k + 1) f ≡ (some k f || f k)
  unfolding some
  some_more k = rw (add-one k)

  pub some_none : (k : ℕ) → some k f ≡ false → f k ≡ false → some (k + 1) f ≡ false
  some_none k a b = rw (some_more k, a, b)

  pub some_found : (n k : ℕ) → k < n → f k ≡ true → some n f ≡ true
  some_found n k h e =
      decides_holds (some n f) (some_decides n f {P = λ j. f j ≡ true} (λ j b. decides_itself (f j))) (k, h, e)

-- A test that holds of no number before the bound, and tests that are alike below it.
pub some_end : (f : ℕ → Bool) (n k : ℕ) → k ≤ n → n ≤ k → some k f ≡ false → some n f ≡ false
some_end f n k a b h = let e : n ≡ k = omega arith in rw e h

pub some_alike : (n : ℕ) (f g : ℕ → Bool) → ((k : ℕ) → k < n → f k ≡ g k) → some n f ≡ some n g
unfolding some
some_alike zero f g h = refl
some_alike (suc n) f g h = rw (h n (omega arith), some_alike n f g (λ k b. h k (omega arith)))
