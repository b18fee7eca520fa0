-- Document 01, "Relations": coefficients, for any number of them; document 02, [2]: "the larger of each coefficient".
-- Assumes nothing.
use Rattle.std.specs.Prelude.{ℕ, ◌<◌, max, ◌≡◌, Bool, leb, length, get_or}
use Rattle.policy.specs.Model.{Coefficients}
use Rattle.base.specs.Pairs.{pairwise, combined}

-- "C1 ⪰ C2: no coefficient of C1 is smaller."
pub record AtLeast (c1 c2 : Coefficients) : Type 0 where
  pub count : length c1 ≡ length c2
  pub none_smaller : (k : ℕ) → get_or c1 k 0 < get_or c2 k 0 → ⊥

unfoldable pub at_least : Coefficients → Coefficients → Bool
at_least c1 c2 = pairwise (λ x y. leb y x) c1 c2

-- "the larger of each coefficient"
unfoldable pub larger : Coefficients → Coefficients → Coefficients
larger c1 c2 = combined max c1 c2
