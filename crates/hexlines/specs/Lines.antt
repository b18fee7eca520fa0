-- Document 01, "The table text": a line is pairs of digits.
-- Assumes nothing.
use Rattle.std.specs.Prelude.{ℕ, ◌%◌, ◌≡◌, Bool, true, not, ◌&&◌, eqb, length}
use mathlib.Core.List.{List, [], ◌∷◌, ◌++◌, Memᴰ}
use Rattle.hexlines.specs.Digits.{Digit, is_digit, byte_of, digits_of}

-- The line is not pairs of digits: "empty line, other character, odd digits".
pub data NoLine (line : List ℕ) : Type 0 where
  empty : line ≡ [] → NoLine line
  other : (c : ℕ) → Memᴰ c line → (Digit c → ⊥) → NoLine line
  odd : length line % 2 ≡ 1 → NoLine line

-- Every character is a digit.
abbrev pub all_digits : List ℕ → Bool
all_digits [] = true
all_digits (c ∷ cs) = is_digit c && all_digits cs

-- The line is pairs of digits, at least one pair.
unfoldable pub is_line : List ℕ → Bool
is_line line = not (eqb (length line) 0) && (eqb (length line % 2) 0 && all_digits line)

-- The bytes that a line's pairs of digits stand for.
abbrev pub bytes_of : List ℕ → List ℕ
bytes_of [] = []
bytes_of (a ∷ []) = []
bytes_of (a ∷ b ∷ line) = byte_of a b ∷ bytes_of line

-- The line of some bytes, in capitals.
abbrev pub line_of : List ℕ → List ℕ
line_of [] = []
line_of (b ∷ bs) = digits_of b ++ line_of bs
