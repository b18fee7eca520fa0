-- Laws of letters and lines that differ only in case:
--   letter_itself: a byte and itself
--   letter_value, letter_other: the two cases of a letter have one value, and neither is a byte below A
--   case_itself: a list and itself
--   is_line_case, bytes_of_case: such lines are pairs of digits alike, and stand for the same bytes
-- Assumes nothing.
use Prim.Native.Nat.{ℕ, ◌+◌, ◌<◌}
use mathlib.Core.Path.{◌≡◌, refl, sym, ap, ◌∙◌}
use mathlib.Core.List.{List, [], ◌∷◌}
use native.Mathlib.Omega.{arith}
use borrow.Author.Tests.{ne_eqb}
use lib.Dec.{eqb}
use Rattle.base.proofs.Laws.Pairs.{pairwise_length, pairwise_itself}
use Rattle.hexlines.specs.Digits.{digit_value, Capital}
use Rattle.hexlines.specs.Lines.{all_digits, is_line, bytes_of}
use Rattle.hexlines.specs.Letters.{SameLetter, same_byte, capital_first, small_first, SameButCase}
use Rattle.hexlines.proofs.Laws.Digits.{capital_value, small_value}

-- ---- a letter

pub letter_itself : (c : ℕ) → SameLetter c c
letter_itself c = same_byte refl

-- A capital and the letter 32 after it.
one_value : (c d : ℕ) → Capital c → c + 32 ≡ d → digit_value c ≡ digit_value d
one_value c d h e =
    let v = capital_value c h in
    let w = small_value d (omega arith, omega arith) in
    omega arith

pub letter_value : (c d : ℕ) → SameLetter c d → digit_value c ≡ digit_value d
letter_value c d (same_byte e) = ap digit_value e
letter_value c d (capital_first h e) = one_value c d h e
letter_value c d (small_first h e) = sym (one_value d c h e)

pub letter_other : (n c d : ℕ) → n < 65 → SameLetter c d → eqb c n ≡ eqb d n
letter_other n c d b (same_byte e) = ap (λ (x : ℕ). eqb x n) e
letter_other n c d b (capital_first h e) = ne_eqb c n (λ q. omega arith) ∙ sym (ne_eqb d n (λ q. omega arith))
letter_other n c d b (small_first h e) = ne_eqb c n (λ q. omega arith) ∙ sym (ne_eqb d n (λ q. omega arith))

-- ---- a line

pub case_itself : (l : List ℕ) → SameButCase l l
case_itself = pairwise_itself SameLetter letter_itself

all_digits_case : (l m : List ℕ) → SameButCase l m → all_digits l ≡ all_digits m
all_digits_case [] [] h = refl
all_digits_case [] (d ∷ m) h = absurd h
all_digits_case (c ∷ l) [] h = absurd h
all_digits_case (c ∷ l) (d ∷ m) h = rw (letter_value c d h.0, all_digits_case l m h.1)

pub is_line_case : (l m : List ℕ) → SameButCase l m → is_line l ≡ is_line m
unfolding is_line
is_line_case l m h = rw (pairwise_length SameLetter l m h, all_digits_case l m h)

pub bytes_of_case : (l m : List ℕ) → SameButCase l m → bytes_of l ≡ bytes_of m
bytes_of_case [] [] h = refl
bytes_of_case [] (d ∷ m) h = absurd h
bytes_of_case (c ∷ l) [] h = absurd h
bytes_of_case (c ∷ []) (d ∷ []) h = refl
bytes_of_case (c ∷ []) (d ∷ e ∷ m) h = absurd h.1
bytes_of_case (b ∷ c ∷ l) (d ∷ []) h = absurd h.1
bytes_of_case (b ∷ c ∷ l) (d ∷ e ∷ m) h = rw (letter_value b d h.0, letter_value c e h.1.0, bytes_of_case l m h.1.1)
