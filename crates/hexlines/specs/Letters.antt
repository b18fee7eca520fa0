-- Document 02, [1]: texts "that differ only in the case of letters", and [2]: lines "in capitals". The letters are the digits A-F and a-f.
-- Assumes nothing.
use Rattle.std.specs.Prelude.{ℕ, ◌+◌, ◌≡◌, ◌⊎◌}
use mathlib.Core.List.{List, Memᴰ}
use Rattle.base.specs.Pairs.{Pairwise}
use Rattle.hexlines.specs.Digits.{Decimal, Capital}

-- The same byte, or the two cases of one letter: a small letter stands 32 after its capital.
pub data SameLetter (c d : ℕ) : Type 0 where
  same_byte : c ≡ d → SameLetter c d
  capital_first : Capital c → c + 32 ≡ d → SameLetter c d
  small_first : Capital d → d + 32 ≡ c → SameLetter c d

-- As long, and at each place the same byte or the two cases of one letter.
abbrev pub SameButCase : List ℕ → List ℕ → Type 0
SameButCase a b = Pairwise SameLetter a b

-- Each character is a digit 0-9 or A-F.
abbrev pub InCapitals : List ℕ → Type 0
InCapitals l = (c : ℕ) → Memᴰ c l → Decimal c ⊎ Capital c
