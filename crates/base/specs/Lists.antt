-- Lists: given by what stands at each place, or filled from the start; tests on lists of numbers, and on the numbers below a bound; the things and
-- the numbers that pass a test; lists that ascend.
-- Assumes nothing.
use Rattle.std.specs.Prelude.{ℕ, zero, suc, Bool, true, false, ◌&&◌, ◌||◌, eqb, ltb}
use mathlib.Core.List.{List, [], ◌∷◌, Memᴰ}
use Rattle.base.specs.Truths.{pick}

-- f i, f (i + 1), .., n of them
abbrev pub tabulate_from : {A : Type 0} → (ℕ → A) → ℕ → ℕ → List A
tabulate_from f i zero = []
tabulate_from f i (suc n) = f i ∷ tabulate_from f (suc i) n

-- f 0, f 1, .., n of them
abbrev pub tabulate : {A : Type 0} → (ℕ → A) → ℕ → List A
tabulate f n = tabulate_from f 0 n

-- Whether x is among the numbers.
unfoldable pub among : ℕ → List ℕ → Bool
among x [] = false
among x (y ∷ ys) = eqb x y || among x ys

-- Whether two lists are the same.
unfoldable pub same : List ℕ → List ℕ → Bool
same [] [] = true
same [] (y ∷ ys) = false
same (x ∷ xs) [] = false
same (x ∷ xs) (y ∷ ys) = eqb x y && same xs ys

-- Whether the test holds of some number below n.
unfoldable pub some : ℕ → (ℕ → Bool) → Bool
some zero f = false
some (suc n) f = some n f || f n

-- At the first n of `size` places stands what f says, at the others d.
unfoldable pub filled : {A : Type 0} → A → (ℕ → A) → (size n : ℕ) → List A
filled d f size n = tabulate (λ k. pick (ltb k n) (f k) d) size

-- Whether the test holds of every number of the list.
abbrev pub all_pass : (ℕ → Bool) → List ℕ → Bool
all_pass f [] = true
all_pass f (x ∷ xs) = f x && all_pass f xs

-- What `tell` says of the things that pass the test, in order.
abbrev pub passing : {A B : Type 0} → (A → Bool) → (A → B) → List A → List B
passing test tell [] = []
passing test tell (x ∷ xs) = pick (test x) (tell x ∷ passing test tell xs) (passing test tell xs)

-- The numbers that pass the test, ascending, of the n from k on.
unfoldable pub numbers_from : (ℕ → Bool) → ℕ → ℕ → List ℕ
numbers_from test zero k = []
numbers_from test (suc n) k = elim (test k) [ true ↦ k ∷ numbers_from test n (suc k) | false ↦ numbers_from test n (suc k) ]

-- Each is before all that follow it, by any relation.
abbrev pub Ascends : {A : Type 0} → (A → A → Type 0) → List A → Type 0
Ascends Before [] = Unit {0}
Ascends {A} Before (x ∷ l) = ((y : A) → Memᴰ y l → Before x y) × Ascends Before l
