-- Document 01, "The table text": caps.
-- Assumes nothing.
use Rattle.std.specs.Prelude.{ℕ, ◌+◌, ◌≡◌, Bool, ◌&&◌, List, [], ◌∷◌, eqb, ltb, length, get_or}
use Rattle.policy.specs.Limits.{technologies, coefficient_count}
use Rattle.policy.specs.Model.{Coefficients}
use Rattle.policy.specs.Views.{with_cap}
use Rattle.frames.specs.Progress.{FrameKind}
use Rattle.frames.specs.Parts.{coefficients_from}

-- What a cap's frame says.
pub record Cap : Type 0 where
  pub technology : ℕ
  pub coefficients : Coefficients

-- "02 cap, 5 bytes: kind, technology, three largest coefficients."
abbrev pub cap_length : List ℕ → Bool
cap_length bs = eqb (length bs) 4

abbrev pub cap_technology : List ℕ → ℕ
cap_technology bs = get_or bs 0 0

abbrev pub cap_from : List ℕ → Coefficients
cap_from bs = coefficients_from 1 bs

-- "six caps for technologies 1 to 6 in order", after the entities.
abbrev pub cap_place : (entities caps technology : ℕ) → Bool
cap_place entities caps technology = ltb 0 entities && (ltb caps technologies && eqb technology (caps + 1))

abbrev pub cap_kind : FrameKind Cap
cap_kind =
    record {
      byte = 2;
      long = cap_length;
      value = λ bs. record { technology = cap_technology bs; coefficients = cap_from bs };
      says = λ bs c. (length c.coefficients ≡ coefficient_count) × (bs ≡ c.technology ∷ c.coefficients);
      placed = λ p c. cap_place (length p.table.entities) (length p.table.caps) c.technology;
      content = λ t c. [];
      judged = λ c. [];
      grown = λ c p. record { table = with_cap c.coefficients p.table; floored = p.floored };
    }
