-- Laws of lines of digits:
--   bytes_of_at, bytes_of_below: which byte stands at a place, and its range
--   length_bytes_of: how many bytes there are
--   bytes_of_drop, bytes_of_take, bytes_of_part: the bytes of what is left of a line, of its start, of a part
--   line_length, line_even, bytes_of_line: a line is pairs, and has a first byte
--   line_digits, feed_no_digit: a line is of digits, and a line feed is none
--   no_line_decides: the test of lines is false exactly of what is no line
-- Assumes nothing.
use mathlib.Core.Path.{◌≡◌, refl}
use mathlib.Core.Bool.{true, false, not, ◌&&◌, false≢true, and-eq-true_iff, not-not}
use mathlib.Core.Logic.{◌⊎◌, inl, inr}
use mathlib.Core.List.{List, [], ◌∷◌, Memᴰ}
use Prim.Native.Nat.{ℕ, zero, suc, ◌+◌, ◌*◌, ◌/◌, ◌%◌, ◌<◌, ◌≤◌}
use native.Mathlib.Omega.{arith}
use native.Mathlib.Numerals.{add-one}
use borrow.Author.Tests.{eqb-true}
use lib.Dec.{eqb}
use lib.ListN.{length, get_or, take, drop}
use lib.Seq.{drop-cons}
use Rattle.base.specs.Truths.{Decides}
use Rattle.base.proofs.Laws.Decides.{decides_as, decides_eqb, decides_not, decides_not_and}
use Rattle.base.proofs.Laws.Each.{one_fails}
use Rattle.base.proofs.Laws.Lists.{length_none}
use Rattle.hexlines.specs.Digits.{Digit, digit_value, is_digit, byte_of}
use Rattle.hexlines.specs.Lines.{NoLine, empty, other, odd, all_digits, is_line, bytes_of}
use Rattle.hexlines.proofs.Laws.Digits.{digit_decides}

-- One place more is two characters more.
double_suc : (i : ℕ) → 2 * suc i ≡ suc (suc (2 * i))
double_suc i = omega arith

-- The byte at a place is that of the two characters at twice the place.
pub bytes_of_at : (l : List ℕ) (i : ℕ) → 2 * i + 1 < length l → get_or (bytes_of l) i 0 ≡ byte_of (get_or l (2 * i) 0) (get_or l (2 * i + 1) 0)
bytes_of_at [] i h = absurd (omega arith)
bytes_of_at (a ∷ []) i h = absurd (omega arith)
bytes_of_at (a ∷ b ∷ l) zero h = refl
bytes_of_at (a ∷ b ∷ l) (suc i) h =
    let e : 2 * suc i + 1 ≡ suc (suc (2 * i + 1)) = omega arith in
    rw (e, double_suc) (bytes_of_at l i (omega arith))

-- Every byte is below 256, and so is the 0 past the end.
pub bytes_of_below : (l : List ℕ) (i : ℕ) → get_or (bytes_of l) i 0 < 256
bytes_of_below [] i = omega arith
bytes_of_below (a ∷ []) i = omega arith
bytes_of_below (a ∷ b ∷ l) zero = omega arith
bytes_of_below (a ∷ b ∷ l) (suc i) = bytes_of_below l i

pub length_bytes_of : (l : List ℕ) → length (bytes_of l) ≡ length l / 2
length_bytes_of [] = refl
length_bytes_of (a ∷ []) = refl
length_bytes_of (a ∷ b ∷ l) = omega (arith, length_bytes_of l)

-- To leave out pairs is to leave out their bytes.
pub bytes_of_drop : (l : List ℕ) (i : ℕ) → bytes_of (drop (2 * i) l) ≡ drop i (bytes_of l)
bytes_of_drop l zero = refl
bytes_of_drop [] (suc i) = rw double_suc
bytes_of_drop (a ∷ []) (suc i) = rw double_suc
bytes_of_drop (a ∷ b ∷ l) (suc i) = rw double_suc (bytes_of_drop l i)

-- To keep pairs is to keep their bytes.
pub bytes_of_take : (l : List ℕ) (i : ℕ) → bytes_of (take (2 * i) l) ≡ take i (bytes_of l)
bytes_of_take l zero = refl
bytes_of_take [] (suc i) = rw double_suc
bytes_of_take (a ∷ []) (suc i) = rw double_suc
bytes_of_take (a ∷ b ∷ l) (suc i) = rw (double_suc, bytes_of_take l i)

-- A part of a line is a part of its bytes.
pub bytes_of_part : (l : List ℕ) (i n : ℕ) → bytes_of (take (2 * n) (drop (2 * i) l)) ≡ take n (drop i (bytes_of l))
bytes_of_part l i n = rw (bytes_of_take, bytes_of_drop)

-- The characters from i on are digits if the first of them is one and those after it are.
pub all_digits_next : (l : List ℕ) (i : ℕ) → i < length l → all_digits (drop i l) ≡ (is_digit (get_or l i 0) && all_digits (drop (i + 1) l))
all_digits_next l i h = rw (add-one i, drop-cons l i 0 h)

pub line_length_lem : (l : List ℕ) → is_line l ≡ true → 2 ≤ length l
unfolding is_line
line_length_lem [] h = absurd (false≢true h)
line_length_lem (a ∷ []) h = absurd (false≢true h)
line_length_lem (a ∷ b ∷ l) h = omega arith

pub line_digits : (l : List ℕ) → is_line l ≡ true → all_digits l ≡ true
unfolding is_line
line_digits l h =
    let even = eqb (length l % 2) 0 in
    let pairs = ((and-eq-true_iff (not (eqb (length l) 0)) (even && all_digits l)).0 h).1 in
    ((and-eq-true_iff even (all_digits l)).0 pairs).1

pub line_even : (l : List ℕ) → is_line l ≡ true → length l % 2 ≡ 0
unfolding is_line
line_even l h =
    let even = eqb (length l % 2) 0 in
    let pairs = ((and-eq-true_iff (not (eqb (length l) 0)) (even && all_digits l)).0 h).1 in
    eqb-true (length l % 2) 0 ((and-eq-true_iff even (all_digits l)).0 pairs).0

-- A line feed is no digit.
pub feed_no_digit : is_digit 10 ≡ false
unfolding digit_value
feed_no_digit = refl

-- The bytes of a line are its first byte, and then those of what follows its first two characters.
pub bytes_of_line : (l : List ℕ) → is_line l ≡ true → bytes_of l ≡ get_or (bytes_of l) 0 0 ∷ bytes_of (drop 2 l)
bytes_of_line [] h = absurd (omega (arith, line_length_lem [] h))
bytes_of_line (a ∷ []) h = absurd (omega (arith, line_length_lem (a ∷ []) h))
bytes_of_line (a ∷ b ∷ l) h = refl

-- ---- what is no line

-- Some character is no digit.
abbrev Other : List ℕ → Type 0
Other l = (c : ℕ) × Memᴰ c l × (Digit c → ⊥)

other_decides : (l : List ℕ) → Decides (not (all_digits l)) (Other l)
other_decides = one_fails all_digits is_digit refl (λ c l. refl) (λ c. decides_not (is_digit c) (digit_decides c))

pub no_line_decides : (l : List ℕ) → Decides (not (is_line l)) (NoLine l)
unfolding is_line
no_line_decides l =
    let even = eqb (length l % 2) 0 in
    decides_as told untold
    (decides_not_and (not (eqb (length l) 0)) (even && all_digits l) (rw (not-not (eqb (length l) 0)) (decides_eqb (length l) 0))
    (decides_not_and even (all_digits l) (decides_not even (decides_eqb (length l % 2) 0)) (other_decides l)))
  where
    told : (length l ≡ 0) ⊎ ((length l % 2 ≡ 0 → ⊥) ⊎ Other l) → NoLine l
    told (inl e) = empty (length_none l e)
    told (inr (inl n)) = odd (omega (arith, n))
    told (inr (inr h)) = other h.0 h.1 h.2

    untold : NoLine l → (length l ≡ 0) ⊎ ((length l % 2 ≡ 0 → ⊥) ⊎ Other l)
    untold (empty e) = inl (rw e)
    untold (other c m n) = inr (inr (c, m, n))
    untold (odd e) = inr (inl (λ z. omega arith))
