-- Tests as the bits of one number.
-- Assumes nothing.
use Rattle.std.specs.Prelude.{ℕ, ◌+◌, ◌*◌, ◌/◌, ◌%◌, ◌^◌, Bool, List, [], ◌∷◌, eqb}
use Rattle.base.specs.Truths.{bit}

-- The tests as a number, the first as its last bit.
unfoldable pub bits_of : List Bool → ℕ
bits_of [] = 0
bits_of (b ∷ bs) = bit b + 2 * bits_of bs

-- Bit k of the number is 1.
unfoldable pub marked : ℕ → ℕ → Bool
marked m k = eqb ((m / (2 ^ k)) % 2) 1
