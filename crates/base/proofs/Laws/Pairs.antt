-- Laws of two lists compared place by place: the test decides what it means; two tests of each place are two comparisons. What the comparison
-- means, of parts and of longer lists: as many on both sides, at a place, of the first n, of two lists after two others, of what is told of one
-- list; and what follows from it, or holds of a list and itself. Two lists combined: how long, either way round, a list with itself.
-- Assumes nothing.
use Prim.Native.Nat.{ℕ, zero, suc}
use mathlib.Core.Path.{◌≡◌, refl, ap}
use mathlib.Core.Bool.{Bool, true, false, ◌&&◌}
use mathlib.Core.List.{List, [], ◌∷◌, ◌++◌, map}
use native.Mathlib.Omega.{arith}
use lib.ListN.{length, get_or, take}
use Rattle.base.specs.Truths.{Decides}
use Rattle.base.proofs.Laws.Decides.{decides_true, decides_false, decides_and}
use Rattle.base.specs.Pairs.{pairwise, Pairwise, combined}

-- Two tests, and two more, by their places.
interchange : (a b c d : Bool) → ((a && b) && (c && d)) ≡ ((a && c) && (b && d))
interchange true true c d = refl
interchange true false true d = refl
interchange true false false d = refl
interchange false b c d = refl

module _ {A B : Type 0} where
  pub pairwise_decides : (f : A → B → Bool) (P : A → B → Type 0) → ((x : A) (y : B) → Decides (f x y) (P x y)) → (xs : List A) (ys : List B)
      → Decides (pairwise f xs ys) (Pairwise P xs ys)
  pairwise_decides f P d [] [] = decides_true tt
  pairwise_decides f P d [] (y ∷ ys) = decides_false (λ h. h)
  pairwise_decides f P d (x ∷ xs) [] = decides_false (λ h. h)
  pairwise_decides f P d (x ∷ xs) (y ∷ ys) = decides_and (f x y) (pairwise f xs ys) (d x y) (pairwise_decides f P d xs ys)

  -- The second comparison has the lists the other way round.
  pub pairwise_both : (t f : A → B → Bool) (g : B → A → Bool) → ((x : A) (y : B) → t x y ≡ (f x y && g y x)) → (xs : List A) (ys : List B)
      → pairwise t xs ys ≡ (pairwise f xs ys && pairwise g ys xs)
  pairwise_both t f g e [] [] = refl
  pairwise_both t f g e [] (y ∷ ys) = refl
  pairwise_both t f g e (x ∷ xs) [] = refl
  pairwise_both t f g e (x ∷ xs) (y ∷ ys) =
      rw (e x y, pairwise_both t f g e xs ys) (interchange (f x y) (g y x) (pairwise f xs ys) (pairwise g ys xs))

-- What is compared may be told of other things.
pub pairwise_map : {A B C D : Type 0} (f : C → D → Bool) (g : A → C) (h : B → D) (xs : List A) (ys : List B)
    → pairwise (λ x y. f (g x) (h y)) xs ys ≡ pairwise f (map g xs) (map h ys)
pairwise_map f g h [] [] = refl
pairwise_map f g h [] (y ∷ ys) = refl
pairwise_map f g h (x ∷ xs) [] = refl
pairwise_map f g h (x ∷ xs) (y ∷ ys) = rw (pairwise_map f g h xs ys)

-- ---- what the comparison means

module _ {A B : Type 0} (P : A → B → Type 0) where
  pub pairwise_length : (xs : List A) (ys : List B) → Pairwise P xs ys → length xs ≡ length ys
  pairwise_length [] [] h = refl
  pairwise_length [] (y ∷ ys) h = absurd h
  pairwise_length (x ∷ xs) [] h = absurd h
  pairwise_length (x ∷ xs) (y ∷ ys) h = ap suc (pairwise_length xs ys h.1)

  pub pairwise_at : (d : A) (e : B) → P d e → (xs : List A) (ys : List B) → Pairwise P xs ys → (k : ℕ) → P (get_or xs k d) (get_or ys k e)
  pairwise_at d e p [] [] h k = p
  pairwise_at d e p [] (y ∷ ys) h k = absurd h
  pairwise_at d e p (x ∷ xs) [] h k = absurd h
  pairwise_at d e p (x ∷ xs) (y ∷ ys) h zero = h.0
  pairwise_at d e p (x ∷ xs) (y ∷ ys) h (suc k) = pairwise_at d e p xs ys h.1 k

  pub pairwise_take : (n : ℕ) (xs : List A) (ys : List B) → Pairwise P xs ys → Pairwise P (take n xs) (take n ys)
  pairwise_take zero xs ys h = tt
  pairwise_take (suc n) [] [] h = tt
  pairwise_take (suc n) [] (y ∷ ys) h = absurd h
  pairwise_take (suc n) (x ∷ xs) [] h = absurd h
  pairwise_take (suc n) (x ∷ xs) (y ∷ ys) h = (h.0, pairwise_take n xs ys h.1)

  pub pairwise_append : (xs : List A) (ys : List B) (us : List A) (vs : List B) → Pairwise P xs ys → Pairwise P us vs → Pairwise P (xs ++ us) (ys ++ vs)
  pairwise_append [] [] us vs h k = k
  pairwise_append [] (y ∷ ys) us vs h k = absurd h
  pairwise_append (x ∷ xs) [] us vs h k = absurd h
  pairwise_append (x ∷ xs) (y ∷ ys) us vs h k = (h.0, pairwise_append xs ys us vs h.1 k)

  pub pairwise_told : {C : Type 0} (f : C → A) (g : C → B) → ((c : C) → P (f c) (g c)) → (l : List C) → Pairwise P (map f l) (map g l)
  pairwise_told f g h [] = tt
  pairwise_told f g h (c ∷ l) = (h c, pairwise_told f g h l)

  pub pairwise_as : (Q : A → B → Type 0) → ((x : A) (y : B) → P x y → Q x y) → (xs : List A) (ys : List B) → Pairwise P xs ys → Pairwise Q xs ys
  pairwise_as Q f [] [] h = tt
  pairwise_as Q f [] (y ∷ ys) h = absurd h
  pairwise_as Q f (x ∷ xs) [] h = absurd h
  pairwise_as Q f (x ∷ xs) (y ∷ ys) h = (f x y h.0, pairwise_as Q f xs ys h.1)

pub pairwise_itself : {A : Type 0} (P : A → A → Type 0) → ((x : A) → P x x) → (l : List A) → Pairwise P l l
pairwise_itself P f [] = tt
pairwise_itself P f (x ∷ l) = (f x, pairwise_itself P f l)

-- ---- two lists combined

module _ {A : Type 0} (f : A → A → A) where
  pub combined_length : (xs ys : List A) → length xs ≡ length ys → length (combined f xs ys) ≡ length xs
  combined_length [] ys e = refl
  combined_length (x ∷ xs) [] e = absurd (omega arith)
  combined_length (x ∷ xs) (y ∷ ys) e = ap suc (combined_length xs ys (omega arith))

  pub combined_swap : ((x y : A) → f x y ≡ f y x) → (xs ys : List A) → combined f xs ys ≡ combined f ys xs
  combined_swap h [] [] = refl
  combined_swap h [] (y ∷ ys) = refl
  combined_swap h (x ∷ xs) [] = refl
  combined_swap h (x ∷ xs) (y ∷ ys) = let e = combined_swap h xs ys in λ i. h x y i ∷ e i

  pub combined_itself : ((x : A) → f x x ≡ x) → (xs : List A) → combined f xs xs ≡ xs
  combined_itself h [] = refl
  combined_itself h (x ∷ xs) = let e = combined_itself h xs in λ i. h x i ∷ e i
