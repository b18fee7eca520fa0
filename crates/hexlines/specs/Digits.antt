-- Document 01, "The table text": digits 0-9 and A-F. Document 02, [1]: "A digit's value now holds for a-f as for A-F." Characters are bytes, in
-- ASCII.
-- Assumes nothing.
use Rattle.std.specs.Prelude.{ℕ, ◌+◌, ◌-◌, ◌*◌, ◌/◌, ◌%◌, ◌≤◌, Bool, ◌&&◌, ◌⊎◌, List, [], ◌∷◌, ltb, leb}
use Rattle.base.specs.Truths.{pick}

-- The value of a digit: 0 to 9 for 0-9, 10 to 15 for A-F and for a-f; 16 for every other byte.
unfoldable pub digit_value : ℕ → ℕ
digit_value c =
    pick (leb 48 c && leb c 57) (c - 48) (pick (leb 65 c && leb c 70) (c - 55) (pick (leb 97 c && leb c 102) (c - 87) 16))

-- 0-9
abbrev pub Decimal : ℕ → Type 0
Decimal c = (48 ≤ c) × (c ≤ 57)

-- A-F
abbrev pub Capital : ℕ → Type 0
Capital c = (65 ≤ c) × (c ≤ 70)

-- a-f
abbrev pub Small : ℕ → Type 0
Small c = (97 ≤ c) × (c ≤ 102)

abbrev pub Digit : ℕ → Type 0
Digit c = Decimal c ⊎ (Capital c ⊎ Small c)

abbrev pub is_digit : ℕ → Bool
is_digit c = ltb (digit_value c) 16

-- The byte that a pair of digits stands for. (Of other characters it means nothing, and is a byte all the same.)
abbrev pub byte_of : ℕ → ℕ → ℕ
byte_of a b = 16 * (digit_value a % 16) + digit_value b % 16

-- The digit of a value below 16, in capitals.
unfoldable pub digit_of : ℕ → ℕ
digit_of v = pick (ltb v 10) (v + 48) (v + 55)

-- A byte's two digits, the higher first.
abbrev pub digits_of : ℕ → List ℕ
digits_of b = digit_of (b / 16) ∷ digit_of (b % 16) ∷ []
