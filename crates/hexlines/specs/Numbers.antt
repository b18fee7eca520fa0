-- Document 01, "The table text": "Numbers are most significant byte first", for any number of bytes.
-- Assumes nothing.
use Rattle.std.specs.Prelude.{ℕ, zero, suc, ◌+◌, ◌*◌, ◌/◌, ◌%◌, ◌^◌, List, [], ◌∷◌, length, take, drop}

-- The number of some bytes, the most significant first.
abbrev pub number_of : List ℕ → ℕ
number_of [] = 0
number_of (b ∷ bs) = b * 256 ^ length bs + number_of bs

-- The number that `width` bytes are, from place `at` on.
abbrev pub field : ℕ → ℕ → List ℕ → ℕ
field at width bs = number_of (take width (drop at bs))

-- The last `width` bytes of a number, the most significant first.
abbrev pub number_bytes : ℕ → ℕ → List ℕ
number_bytes zero n = []
number_bytes (suc width) n = (n / 256 ^ width) % 256 ∷ number_bytes width n
