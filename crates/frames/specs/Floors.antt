-- Document 01, "The table text": the floor.
-- Assumes nothing.
use Rattle.std.specs.Prelude.{ℕ, ◌≡◌, Bool, ◌&&◌, List, [], eqb, length}
use Rattle.policy.specs.Limits.{technologies, coefficient_count}
use Rattle.policy.specs.Model.{Coefficients}
use Rattle.policy.specs.Views.{with_floor}
use Rattle.frames.specs.Progress.{FrameKind}
use Rattle.frames.specs.Parts.{coefficients_from}

-- "03 floor, 4 bytes: kind, three least coefficients."
abbrev pub floor_length : List ℕ → Bool
floor_length bs = eqb (length bs) 3

abbrev pub floor_from : List ℕ → Coefficients
floor_from bs = coefficients_from 0 bs

-- "one floor", after the six caps.
abbrev pub floor_place : (caps floored : ℕ) → Bool
floor_place caps floored = eqb caps technologies && eqb floored 0

abbrev pub floor_kind : FrameKind Coefficients
floor_kind =
    record {
      byte = 3;
      long = floor_length;
      value = floor_from;
      says = λ bs c. (length c ≡ coefficient_count) × (bs ≡ c);
      placed = λ p c. floor_place (length p.table.caps) p.floored;
      content = λ t c. [];
      judged = λ c. [];
      grown = λ c p. record { table = with_floor c p.table; floored = 1 };
    }
