-- Two lists compared place by place, as many on both sides; and combined.
-- Assumes nothing.
use Rattle.std.specs.Prelude.{Bool, true, false, ◌&&◌, List, [], ◌∷◌}

module _ {A B : Type 0} where
  -- The test holds of the two things at each place.
  abbrev pub pairwise : (A → B → Bool) → List A → List B → Bool
  pairwise f [] [] = true
  pairwise f [] (y ∷ ys) = false
  pairwise f (x ∷ xs) [] = false
  pairwise f (x ∷ xs) (y ∷ ys) = f x y && pairwise f xs ys

  -- The same of what a test means.
  abbrev pub Pairwise : (A → B → Type 0) → List A → List B → Type 0
  Pairwise P [] [] = Unit {0}
  Pairwise P [] (y ∷ ys) = ⊥
  Pairwise P (x ∷ xs) [] = ⊥
  Pairwise P (x ∷ xs) (y ∷ ys) = P x y × Pairwise P xs ys

-- What f makes of the two things at each place, as far as both lists go.
abbrev pub combined : {A : Type 0} → (A → A → A) → List A → List A → List A
combined f [] ys = []
combined f (x ∷ xs) [] = []
combined f (x ∷ xs) (y ∷ ys) = f x y ∷ combined f xs ys
