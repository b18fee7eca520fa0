-- Laws of numbers, the most significant byte first, for any number of bytes:
--   number_of_append, number_of_take: one byte more
--   number_of_below, field_below, line_field_below: the range of a number, of a field of bytes, of a field of a line
--   line_number_more, line_number_fits: the number of one byte more of a line, and that it is a word
--   field_one: a field of one byte
--   bytes_append, bytes_first, bytes_rest: the bytes of two lists one after the other
--   length_number_bytes, number_bytes_below, number_of_number_bytes: the bytes of a number, which they say if it is small enough
--   number_bytes_number_of: the bytes of the number that some bytes say are those bytes
-- That each byte of bs is below 256 is said as (i : ℕ) → get_or bs i 0 < 256.
-- Assumes nothing.
use mathlib.Core.Path.{◌≡◌, refl, sym, ap, ◌∙◌}
use mathlib.Core.List.{List, [], ◌∷◌, ◌++◌}
use Prim.Native.Nat.{ℕ, zero, suc, ◌+◌, ◌*◌, ◌/◌, ◌%◌, ◌^◌, ◌<◌, ◌≤◌}
use native.Mathlib.Omega.{arith}
use native.Mathlib.Numerals.{add-one}
use native.Mathlib.Nat.{pow-succ', pow-le-pow_right, lt_of_lt_of_le, mod-one, mod-lt, mod-eq_of_lt, mul_assoc, add_comm, add-mul-div_right}
use native.Mathlib.Decide.{dec_lt}
use lib.Arith.{digits_lt, digits_div, mod-mul}
use lib.Dec.{lit<}
use lib.Pow.{pow-add}
use lib.Seq.{take-suc, get_or-take, get_or-drop}
use lib.ListN.{length, get_or, take, drop, length-append, length-take, get_or-eq_default}
use Rattle.hexlines.specs.Lines.{bytes_of}
use Rattle.hexlines.specs.Numbers.{number_of, field, number_bytes}
use Rattle.hexlines.proofs.Laws.Lines.{bytes_of_below, length_bytes_of}

pub number_of_append : (bs : List ℕ) (b : ℕ) → number_of (bs ++ (b ∷ [])) ≡ number_of bs * 256 + b
number_of_append [] b = omega arith
number_of_append (c ∷ bs) b =
    let e : c * 256 ^ length (bs ++ (b ∷ [])) ≡ c * (256 ^ length bs * 256) = simp (length-append, pow-add) in
    omega (arith, number_of_append bs b)

pub number_of_take : (l : List ℕ) (i : ℕ) → i < length l → number_of (take (suc i) l) ≡ number_of (take i l) * 256 + get_or l i 0
number_of_take l i h = rw (take-suc l i 0, number_of_append)

pub number_of_below : (bs : List ℕ) → ((i : ℕ) → get_or bs i 0 < 256) → number_of bs < 256 ^ length bs
number_of_below [] h = lit< tt
number_of_below (b ∷ bs) h = rw pow-succ' (digits_lt (h 0) (number_of_below bs (λ i. h (suc i))))

-- A part of bytes that are below 256 has such bytes.
part_below : (i n : ℕ) (bs : List ℕ) → ((k : ℕ) → get_or bs k 0 < 256) → (k : ℕ) → get_or (take n (drop i bs)) k 0 < 256
part_below i n bs h k =
    elim (dec_lt k n) [
      | yes l ↦ rw (get_or-take n (drop i bs) k 0 l, get_or-drop) (h (i + k))
      | no l ↦ rw (get_or-eq_default (take n (drop i bs)) 0 {n = k} (rw length-take (omega arith))) (lit< tt)
    ]

-- The list may end before the field does.
pub field_below : (i width : ℕ) (bs : List ℕ) → ((k : ℕ) → get_or bs k 0 < 256) → field i width bs < 256 ^ width
field_below i width bs h =
    lt_of_lt_of_le (number_of_below (take width (drop i bs)) (part_below i width bs h))
    (pow-le-pow_right (lit< tt) (rw length-take (omega arith)))

pub line_field_below : (l : List ℕ) (i width : ℕ) → field i width (bytes_of l) < 256 ^ width
line_field_below l i width = field_below i width (bytes_of l) (bytes_of_below l)

-- ---- a line's number, byte by byte

module _ (l : List ℕ) (i : ℕ) (below : i < length l / 2) where
  pub line_number_more : number_of (take (i + 1) (bytes_of l)) ≡ number_of (take i (bytes_of l)) * 256 + get_or (bytes_of l) i 0
  line_number_more = rw add-one (number_of_take (bytes_of l) i (rw length_bytes_of below))

  -- that of at most eight bytes is a word
  pub line_number_fits : length l ≤ 16 → number_of (take i (bytes_of l)) * 256 + get_or (bytes_of l) i 0 < 2 ^ 64
  line_number_fits few =
      rw (← line_number_more) (lt_of_lt_of_le (line_field_below l 0 (i + 1)) (pow-le-pow_right (lit< tt) {j = 8} (omega arith)))

-- ---- a field of one byte

pub field_one : (i : ℕ) (bs : List ℕ) → field i 1 bs ≡ get_or bs i 0
field_one zero [] = refl
field_one (suc i) [] = refl
field_one zero (b ∷ bs) = omega arith
field_one (suc i) (b ∷ bs) = field_one i bs

-- ---- lists of bytes, each below 256

pub bytes_append : (bs cs : List ℕ) → ((i : ℕ) → get_or bs i 0 < 256) → ((i : ℕ) → get_or cs i 0 < 256) → (i : ℕ) → get_or (bs ++ cs) i 0 < 256
bytes_append [] cs h k i = k i
bytes_append (b ∷ bs) cs h k zero = h 0
bytes_append (b ∷ bs) cs h k (suc i) = bytes_append bs cs (λ j. h (suc j)) k i

pub bytes_first : (bs cs : List ℕ) → ((i : ℕ) → get_or (bs ++ cs) i 0 < 256) → (i : ℕ) → get_or bs i 0 < 256
bytes_first [] cs h i = lit< tt
bytes_first (b ∷ bs) cs h zero = h 0
bytes_first (b ∷ bs) cs h (suc i) = bytes_first bs cs (λ j. h (suc j)) i

pub bytes_rest : (bs cs : List ℕ) → ((i : ℕ) → get_or (bs ++ cs) i 0 < 256) → (i : ℕ) → get_or cs i 0 < 256
bytes_rest [] cs h i = h i
bytes_rest (b ∷ bs) cs h i = bytes_rest bs cs (λ j. h (suc j)) i

-- ---- the bytes of a number

pub length_number_bytes : (w n : ℕ) → length (number_bytes w n) ≡ w
length_number_bytes zero n = refl
length_number_bytes (suc w) n = ap suc (length_number_bytes w n)

pub number_bytes_below : (w n i : ℕ) → get_or (number_bytes w n) i 0 < 256
number_bytes_below zero n i = lit< tt
number_bytes_below (suc w) n zero = mod-lt (n / 256 ^ w) (lit< tt)
number_bytes_below (suc w) n (suc i) = number_bytes_below w n i

some_power : (w : ℕ) → 0 < 256 ^ w
some_power w = lt_of_lt_of_le (lit< tt) (pow-le-pow_right (lit< tt) {i = 0} {j = w} (omega arith))

-- They say what is left of the number in `w` bytes.
number_of_rest : (w n : ℕ) → number_of (number_bytes w n) ≡ n % 256 ^ w
number_of_rest zero n = sym (mod-one n)
number_of_rest (suc w) n =
    let d = (n / 256 ^ w) % 256 in
    ap (λ (k : ℕ). d * 256 ^ k + number_of (number_bytes w n)) (length_number_bytes w n)
    ∙ ap (λ (k : ℕ). d * 256 ^ w + k) (number_of_rest w n)
    ∙ sym (mod-mul n {m = 256} {c = 256 ^ w} (lit< tt) (some_power w))
    ∙ ap (λ (k : ℕ). n % k) (sym (pow-succ' 256 w))

pub number_of_number_bytes : (w n : ℕ) → n < 256 ^ w → number_of (number_bytes w n) ≡ n
number_of_number_bytes w n h = number_of_rest w n ∙ mod-eq_of_lt h

-- What stands above `w` bytes is not looked at.
number_bytes_low : (w c n : ℕ) → number_bytes w (c * 256 ^ w + n) ≡ number_bytes w n
number_bytes_low zero c n = refl
number_bytes_low (suc w) c n =
    let e : c * 256 ^ suc w ≡ (c * 256) * 256 ^ w = rw pow-succ' (sym (mul_assoc c 256 (256 ^ w))) in
    let d : ((c * 256) * 256 ^ w + n) / 256 ^ w ≡ n / 256 ^ w + c * 256 =
    ap (λ (m : ℕ). m / 256 ^ w) (add_comm ((c * 256) * 256 ^ w) n) ∙ add-mul-div_right n (c * 256) (some_power w) in
    let f : (n / 256 ^ w + c * 256) % 256 ≡ (n / 256 ^ w) % 256 = omega arith in
    rw (e, d, f, number_bytes_low w (c * 256) n)

pub number_bytes_number_of : (bs : List ℕ) → ((i : ℕ) → get_or bs i 0 < 256) → number_bytes (length bs) (number_of bs) ≡ bs
number_bytes_number_of [] h = refl
number_bytes_number_of (b ∷ bs) h =
    let small = number_of_below bs (λ i. h (suc i)) in
    rw (digits_div b small, mod-eq_of_lt (h 0), number_bytes_low (length bs) b (number_of bs), number_bytes_number_of bs (λ i. h (suc i)))
