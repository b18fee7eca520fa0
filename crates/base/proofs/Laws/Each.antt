-- What holds of each of a list: of two lists together, of one thing more; at a place, and two ways to tell each that agree; a test of each
-- number; one thing that fails a test of each.
-- Assumes nothing.
use Prim.Native.Nat.{ℕ, zero, suc, ◌<◌}
use mathlib.Core.Path.{◌≡◌, refl}
use mathlib.Core.Bool.{Bool, true, not, ◌&&◌}
use mathlib.Core.Logic.{◌⊎◌, inl, inr}
use mathlib.Core.List.Memᴰ
use mathlib.Core.List.{List, [], ◌∷◌, ◌++◌, Memᴰ}
use native.Mathlib.Omega.{arith}
use lib.ListN.{length, get_or}
use Rattle.base.specs.Truths.{Decides}
use Rattle.base.specs.Lists.{all_pass}
use Rattle.base.proofs.Laws.Decides.{decides_true, decides_false, decides_as, decides_and, decides_not_and}

module _ {A : Type 1} where
  abbrev pub All : (A → Type 0) → List A → Type 0
  All P [] = Unit {0}
  All P (x ∷ l) = P x × All P l

  pub all_at : (P : A → Type 0) (d : A) (l : List A) → P d → All P l → (k : ℕ) → P (get_or l k d)
  all_at P d [] p a k = p
  all_at P d (x ∷ l) p a zero = a.0
  all_at P d (x ∷ l) p a (suc k) = all_at P d l p a.1 k

-- A pair, to write long ones in a row.
infixr 20 ◌▹◌
pub ◌▹◌ : {A B : Type 0} → A → B → A × B
a ▹ b = (a, b)

-- What holds of each of two lists holds of each of both together.
pub each_append : {A : Type 0} (P : A → Type 0) (l m : List A) (d : A) → ((k : ℕ) → k < length l → P (get_or l k d))
    → ((k : ℕ) → k < length m → P (get_or m k d)) → (k : ℕ) → k < length (l ++ m) → P (get_or (l ++ m) k d)
each_append P [] m d f g k h = g k h
each_append P (x ∷ l) m d f g zero h = f 0 (omega arith)
each_append P (x ∷ l) m d f g (suc k) h = each_append P l m d (λ j b. f (suc j) (omega arith)) g k (omega arith)

-- What holds of each of a list and of one thing more holds of each of the longer list.
pub each_more : {A : Type 0} (P : A → Type 0) (l : List A) (x d : A) → ((k : ℕ) → k < length l → P (get_or l k d)) → P x
    → (k : ℕ) → k < length (l ++ (x ∷ [])) → P (get_or (l ++ (x ∷ [])) k d)
each_more P l x d all new = each_append P l (x ∷ []) d all (λ k h. let e : k ≡ 0 = omega arith in rw e new)

module _ (f : ℕ → Bool) {P : ℕ → Type 0} (d : (x : ℕ) → Decides (f x) (P x)) where
  pub all_pass_decides : (xs : List ℕ) → Decides (all_pass f xs) ((k : ℕ) → k < length xs → P (get_or xs k 0))
  all_pass_decides [] = decides_true (λ k h. absurd (omega arith))
  all_pass_decides (x ∷ xs) =
      decides_as (λ h. all h.0 h.1) (λ h. (h 0 (omega arith), λ k b. h (suc k) (omega arith)))
      (decides_and (f x) (all_pass f xs) (d x) (all_pass_decides xs))
    where
      all : P x → ((k : ℕ) → k < length xs → P (get_or xs k 0)) → (k : ℕ) → k < length (x ∷ xs) → P (get_or (x ∷ xs) k 0)
      all p h zero b = p
      all p h (suc k) b = h k (omega arith)

-- A test of a whole list that asks one of each thing fails exactly where some thing is bad, that is, fails the test of each.
module _ {A : Type 0} (whole : List A → Bool) (test : A → Bool) (none : whole [] ≡ true) (more : (x : A) (l : List A) → whole (x ∷ l) ≡ (test x && whole l))
    {Bad : A → Type 0} (each : (x : A) → Decides (not (test x)) (Bad x)) where
  pub one_fails : (l : List A) → Decides (not (whole l)) ((x : A) × Memᴰ x l × Bad x)
  one_fails [] = rw none (decides_false (λ h. Memᴰ.not-nil h.1))
  one_fails (x ∷ l) =
      rw (more x l)
      (decides_as {P = Bad x ⊎ ((y : A) × Memᴰ y l × Bad y)}
      (λ s. elim s [ inl b ↦ (x, Memᴰ.head refl, b) | inr h ↦ (h.0, Memᴰ.tail h.1, h.2) ])
      (λ h. elim (Memᴰ.cases_cons h.1) [ inl e ↦ inl (rw (← e) h.2) | inr m ↦ inr (h.0, m, h.2) ])
      (decides_not_and (test x) (whole l) (each x) (one_fails l)))
