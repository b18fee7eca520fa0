-- Truths: a choice, a truth as a number, and a test and a meaning that agree.
-- Assumes nothing.
use Rattle.std.specs.Prelude.{ℕ, ◌≡◌, Bool, true, false}

-- The first where the test holds, else the second.
abbrev pub pick {ℓ} : {A : Type ℓ} → Bool → A → A → A
pick true a b = a
pick false a b = b

-- 1 for a test that holds, else 0.
abbrev pub bit : Bool → ℕ
bit true = 1
bit false = 0

-- The test b is true exactly when P holds.
pub record Decides (b : Bool) (P : Type 0) : Type 0 where
  pub yes : b ≡ true → P
  pub no : b ≡ false → P → ⊥
