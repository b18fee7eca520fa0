-- Laws of digits that are read:
--   decimal_value, capital_value, small_value, other_value: the value of 0-9, of A-F, of a-f, and of every other character
--   digit_decides: the test of digits is true exactly of these three ranges
--   value_or_zero: what a half of a pair has
--   bytes_of_pair: the byte of two digits
-- and of digits that are written:
--   digit_value_digit_of, is_digit_digit_of, digit_of_capital: of a value below 16
--   byte_of_digits, digits_capital: of a byte
--   length_line_of, bytes_of_line_of, all_digits_line_of, is_line_line_of, line_of_capitals: of some bytes
--   line_of_bytes_of: a line in capitals is written again from its bytes
-- That each byte of bs is below 256 is said as (i : ℕ) → get_or bs i 0 < 256.
-- Assumes nothing.
use mathlib.Core.Path.{◌≡◌, refl}
use mathlib.Core.Bool.{Bool, true, false, ◌&&◌}
use mathlib.Core.Logic.{◌⊎◌, inl, inr}
use mathlib.Core.List.Memᴰ
use mathlib.Core.List.{List, [], ◌∷◌, Memᴰ}
use Prim.Native.Nat.{ℕ, suc, ◌+◌, ◌-◌, ◌*◌, ◌/◌, ◌%◌, ◌<◌, ◌≤◌}
use native.Mathlib.Decide.{dec_lt}
use native.Mathlib.Omega.{arith}
use borrow.Author.Tests.{le-leb, lt-leb, lt-ltb, le-ltb, ne_eqb, eq-eqb}
use lib.Dec.{leb}
use lib.ListN.{length, get_or}
use Rattle.std.proofs.Common.{Some, None}
use Rattle.std.specs.Bool.{if◌then◌else◌}
use Rattle.std.specs.Option.{unwrap_or}
use Rattle.base.specs.Truths.{Decides}
use Rattle.base.proofs.Laws.Decides.{decides_true, decides_false, decides_leb, decides_and, decides_or, decides_fails, decided}
use Rattle.hexlines.specs.Digits.{Decimal, Capital, Small, Digit, digit_value, digit_of, digits_of, is_digit, byte_of}
use Rattle.hexlines.specs.Lines.{all_digits, is_line, bytes_of, line_of}
use Rattle.hexlines.specs.Letters.{InCapitals}

-- ---- read

-- Whether c is in a range, by the range's two ends.
between : (low c high : ℕ) → Decides (leb low c && leb c high) ((low ≤ c) × (c ≤ high))
between low c high = decides_and _ _ (decides_leb low c) (decides_leb c high)

module _ (c : ℕ) where
  pub decimal_value : Decimal c → digit_value c ≡ c - 48
  unfolding digit_value
  decimal_value h = rw (le-leb 48 c h.0, le-leb c 57 h.1)

  pub capital_value : Capital c → digit_value c ≡ c - 55
  unfolding digit_value
  capital_value h = rw (le-leb 48 c (omega arith), lt-leb c 57 (omega arith), le-leb 65 c h.0, le-leb c 70 h.1)

  pub small_value : Small c → digit_value c ≡ c - 87
  unfolding digit_value
  small_value h =
      rw (
        le-leb 48 c (omega arith),
        lt-leb c 57 (omega arith),
        le-leb 65 c (omega arith),
        lt-leb c 70 (omega arith),
        le-leb 97 c h.0,
        le-leb c 102 h.1,
      )

  pub other_value : (Decimal c → ⊥) → (Capital c → ⊥) → (Small c → ⊥) → digit_value c ≡ 16
  unfolding digit_value
  other_value d u l =
      rw (
        decides_fails (leb 48 c && leb c 57) (between 48 c 57) d,
        decides_fails (leb 65 c && leb c 70) (between 65 c 70) u,
        decides_fails (leb 97 c && leb c 102) (between 97 c 102) l,
      )

  digit_below : Digit c → digit_value c < 16
  digit_below (inl h) = omega (arith, decimal_value h)
  digit_below (inr (inl h)) = omega (arith, capital_value h)
  digit_below (inr (inr h)) = omega (arith, small_value h)

  pub digit_decides : Decides (is_digit c) (Digit c)
  digit_decides =
      elim (decided _ (decides_or _ _ (between 48 c 57) (decides_or _ _ (between 65 c 70) (between 97 c 102)))) [
        | inl d ↦ rw (lt-ltb (digit_value c) 16 (digit_below d)) (decides_true d)
        | inr n ↦ rw (other_value (λ h. n (inl h)) (λ h. n (inr (inl h))) (λ h. n (inr (inr h)))) (decides_false n)
      ]

-- A half of a pair has the digit's value; another character has 0.
pub value_or_zero : (c : ℕ) → unwrap_or (if is_digit c then Some (digit_value c) else None) 0 ≡ digit_value c % 16
value_or_zero c = by_case (is_digit c) (digit_decides c)
  where
    by_case : (b : Bool) → Decides b (Digit c) → unwrap_or (if b then Some (digit_value c) else None) 0 ≡ digit_value c % 16
    by_case true d = let h = digit_below c (d.yes refl) in omega arith
    by_case false d =
        let none = d.no refl in
        let v = other_value c (λ h. none (inl h)) (λ h. none (inr (inl h))) (λ h. none (inr (inr h))) in
        omega arith

-- A pair of digits is 16 times the first, and the second.
pub bytes_of_pair : (a b : ℕ) (l : List ℕ) → Digit a → Digit b → bytes_of (a ∷ b ∷ l) ≡ (16 * digit_value a + digit_value b) ∷ bytes_of l
bytes_of_pair a b l h k =
    let x = digit_below a h in
    let y = digit_below b k in
    let e : byte_of a b ≡ 16 * digit_value a + digit_value b = omega arith in
    rw e

-- ---- written

-- A value's digit has that value.
pub digit_value_digit_of : (v : ℕ) → v < 16 → digit_value (digit_of v) ≡ v
unfolding digit_of
digit_value_digit_of v h =
    elim (dec_lt v 10) [
      | yes l ↦ rw (lt-ltb v 10 l) (omega (arith, decimal_value (v + 48) (omega arith, omega arith)))
      | no l ↦ rw (le-ltb v 10 (omega arith)) (omega (arith, capital_value (v + 55) (omega arith, omega arith)))
    ]

pub is_digit_digit_of : (v : ℕ) → v < 16 → is_digit (digit_of v) ≡ true
is_digit_digit_of v h = rw (digit_value_digit_of v h, lt-ltb v 16 h)

-- No small letter is written.
pub digit_of_capital : (v : ℕ) → v < 16 → Decimal (digit_of v) ⊎ Capital (digit_of v)
unfolding digit_of
digit_of_capital v h =
    elim (dec_lt v 10) [
      | yes l ↦ rw (lt-ltb v 10 l) (inl (omega arith, omega arith))
      | no l ↦ rw (le-ltb v 10 (omega arith)) (inr (omega arith, omega arith))
    ]

-- A byte's two digits read as the byte.
pub byte_of_digits : (b : ℕ) → b < 256 → byte_of (digit_of (b / 16)) (digit_of (b % 16)) ≡ b
byte_of_digits b h =
    let p : b / 16 < 16 = omega arith in
    let q : b % 16 < 16 = omega arith in
    rw (digit_value_digit_of (b / 16), digit_value_digit_of (b % 16)) (omega arith)

pub digits_capital : (b c : ℕ) → b < 256 → Memᴰ c (digits_of b) → Decimal c ⊎ Capital c
digits_capital b c h m = elim (Memᴰ.cases_cons m) [
  | inl e ↦ rw e (digit_of_capital (b / 16) (omega arith))
  | inr r ↦ elim (Memᴰ.cases_cons r) [
    | inl e ↦ rw e (digit_of_capital (b % 16) (omega arith))
    | inr n ↦ absurd (Memᴰ.not-nil n)
  ]
]

pub length_line_of : (bs : List ℕ) → length (line_of bs) ≡ 2 * length bs
length_line_of [] = refl
length_line_of (b ∷ bs) = omega (arith, length_line_of bs)

-- The line of some bytes reads as those bytes.
pub bytes_of_line_of : (bs : List ℕ) → ((i : ℕ) → get_or bs i 0 < 256) → bytes_of (line_of bs) ≡ bs
bytes_of_line_of [] h = refl
bytes_of_line_of (b ∷ bs) h = rw (byte_of_digits b (h 0), bytes_of_line_of bs (λ i. h (suc i)))

pub all_digits_line_of : (bs : List ℕ) → ((i : ℕ) → get_or bs i 0 < 256) → all_digits (line_of bs) ≡ true
all_digits_line_of [] h = refl
all_digits_line_of (b ∷ bs) h =
    let l = h 0 in
    rw (is_digit_digit_of (b / 16) (omega arith), is_digit_digit_of (b % 16) (omega arith), all_digits_line_of bs (λ i. h (suc i)))

pub is_line_line_of : (bs : List ℕ) → 0 < length bs → ((i : ℕ) → get_or bs i 0 < 256) → is_line (line_of bs) ≡ true
unfolding is_line
is_line_line_of bs n h =
    rw (length_line_of, ne_eqb (2 * length bs) 0 (omega arith), eq-eqb (2 * length bs % 2) 0 (omega arith), all_digits_line_of bs h)

pub line_of_capitals : (bs : List ℕ) → ((i : ℕ) → get_or bs i 0 < 256) → InCapitals (line_of bs)
line_of_capitals [] h c m = absurd (Memᴰ.not-nil m)
line_of_capitals (b ∷ bs) h c m =
    elim (Memᴰ.append_cases (digits_of b) m) [ inl k ↦ digits_capital b c (h 0) k | inr k ↦ line_of_capitals bs (λ i. h (suc i)) c k ]

-- A digit that is no small letter is written again from its value.
digit_of_digit_value : (c : ℕ) → Decimal c ⊎ Capital c → digit_of (digit_value c % 16) ≡ c
unfolding digit_of
digit_of_digit_value c (inl h) =
    let e = decimal_value c h in
    let f : digit_value c % 16 ≡ c - 48 = omega arith in
    rw (f, lt-ltb (c - 48) 10 (omega arith)) (omega arith)
digit_of_digit_value c (inr h) =
    let e = capital_value c h in
    let f : digit_value c % 16 ≡ c - 55 = omega arith in
    rw (f, le-ltb (c - 55) 10 (omega arith)) (omega arith)

pub line_of_bytes_of : (l : List ℕ) → length l % 2 ≡ 0 → InCapitals l → line_of (bytes_of l) ≡ l
line_of_bytes_of [] h k = refl
line_of_bytes_of (a ∷ []) h k = absurd (omega arith)
line_of_bytes_of (a ∷ b ∷ l) h k =
    let x = digit_of_digit_value a (k a (Memᴰ.head refl)) in
    let y = digit_of_digit_value b (k b (Memᴰ.tail (Memᴰ.head refl))) in
    let p : byte_of a b / 16 ≡ digit_value a % 16 = omega arith in
    let q : byte_of a b % 16 ≡ digit_value b % 16 = omega arith in
    rw (p, q, x, y, line_of_bytes_of l (omega arith) (λ c m. k c (Memᴰ.tail (Memᴰ.tail m))))
