-- Laws of the least of what is above two things: which of the two is named first does not matter, and where only equal things are above each
-- other there is only one.
-- Assumes nothing.
use mathlib.Core.Path.{◌≡◌}
use Rattle.base.specs.Bounds.{LeastAbove}

module _ {A : Type 0} (Above : A → A → Type 0) where
  pub least_swap : {x y m : A} → LeastAbove Above x y m → LeastAbove Above y x m
  least_swap h = record { first = h.second; second = h.first; least = λ z a b. h.least z b a }

  pub least_one : ((a b : A) → Above a b → Above b a → a ≡ b) → {x y m n : A} → LeastAbove Above x y m → LeastAbove Above x y n → m ≡ n
  least_one antisym {m = m} {n = n} h k = antisym m n (k.least m h.first h.second) (h.least n k.first k.second)
