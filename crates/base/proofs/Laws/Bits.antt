-- Tests as a number: each bit is its test, as many are 1 as tests hold; the number is made from its last test on, and is small. The bits that two numbers have both, that
-- one of them has, and that a number has alone; a number that has one is not 0.
-- Assumes nothing.
use Prim.Native.Nat.{ℕ, zero, suc, ◌+◌, ◌-◌, ◌*◌, ◌/◌, ◌%◌, ◌^◌, ◌≤◌, ◌<◌, min, max}
use mathlib.Core.Path.{◌≡◌, refl, sym, ap, ◌∙◌}
use mathlib.Core.Bool.{Bool, true, false, ◌&&◌, ◌||◌, true≢false}
use mathlib.Core.List.{List, [], ◌∷◌}
use native.Mathlib.Nat.{lt_of_lt_of_le, zero-div, div-eq_of_lt, pow-suc, pow-zero}
use native.Mathlib.Numerals.{add-one, one-add}
use native.Mathlib.Decide.{dec_lt}
use native.Mathlib.Omega.{arith}
use lib.Count.{ones, ones_step, ones-ones, count_trailing_zeros, under}
use lib.Dec.{eqb}
use lib.ListN.{length, get_or, drop, replicate}
use lib.Bits.{bit_and, bit_or, and_step, or_step, and_shr, or_shr}
use lib.Pow.{pow_pos, pow_mono, shr-shr}
use lib.Seq.{drop-cons}
use Rattle.base.specs.Truths.{bit}
use Rattle.base.specs.Bits.{bits_of, marked}
use Rattle.base.proofs.Laws.Passing.{bit_le}
use Rattle.base.proofs.Laws.Decides.{decides_and, decides_itself}

-- A bit is what is left of the number's quotient by 2.
pub marked_odd : (m k : ℕ) → marked m k ≡ eqb ((m / (2 ^ k)) % 2) 1
unfolding marked
marked_odd m k = refl

pub none_marked : (k : ℕ) → marked 0 k ≡ false
unfolding marked
none_marked k = rw (zero-div (2 ^ k)) refl

first_marked : (b : Bool) (n : ℕ) → marked (bit b + 2 * n) 0 ≡ b
unfolding marked
first_marked true n = let e : ((1 + 2 * n) / 1) % 2 ≡ 1 = omega arith in ap (λ (x : ℕ). eqb x 1) e
first_marked false n = let e : ((0 + 2 * n) / 1) % 2 ≡ 0 = omega arith in ap (λ (x : ℕ). eqb x 1) e

later_marked : (b : Bool) (n k : ℕ) → marked (bit b + 2 * n) (suc k) ≡ marked n k
unfolding marked
later_marked b n k =
    let h = bit_le b in
    let e : (bit b + 2 * n) / 2 ≡ n = omega arith in
    let s : (bit b + 2 * n) / (2 ^ suc k) ≡ n / (2 ^ k) =
    ap (λ (x : ℕ). (bit b + 2 * n) / (2 ^ x)) (sym (one-add k)) ∙ sym (shr-shr (bit b + 2 * n) 1 k) ∙ ap (λ (x : ℕ). x / (2 ^ k)) e in
    ap (λ (x : ℕ). eqb (x % 2) 1) s

pub marked_bits : (bs : List Bool) (k : ℕ) → marked (bits_of bs) k ≡ get_or bs k false
unfolding bits_of
marked_bits [] k = none_marked k
marked_bits (b ∷ bs) zero = first_marked b (bits_of bs)
marked_bits (b ∷ bs) (suc k) = later_marked b (bits_of bs) k ∙ marked_bits bs k

pub bits_end : (bs : List Bool) (k : ℕ) → length bs ≤ k → bits_of (drop k bs) ≡ 0
unfolding bits_of
bits_end [] zero h = refl
bits_end [] (suc k) h = refl
bits_end (b ∷ bs) zero h = absurd (omega arith)
bits_end (b ∷ bs) (suc k) h = bits_end bs k (omega arith)

bits_next : (bs : List Bool) (k : ℕ) → k < length bs → bits_of (drop k bs) ≡ 2 * bits_of (drop (k + 1) bs) + bit (get_or bs k false)
unfolding bits_of
bits_next bs k h = rw (add-one k, drop-cons bs k false h) (omega arith)

-- One test more, from the last on.
pub bits_step : (bs : List Bool) (k m b : ℕ) → 0 < k → k ≤ length bs → m ≡ bits_of (drop k bs) → b ≡ bit (get_or bs (k - 1) false)
    → 2 * m + b ≡ bits_of (drop (k - 1) bs)
bits_step bs k m b h l e d =
    let p : k - 1 + 1 ≡ k = omega arith in
    sym (bits_next bs (k - 1) (omega arith) ∙ (λ i. 2 * bits_of (drop (p i) bs) + bit (get_or bs (k - 1) false)) ∙ sym (λ i. 2 * e i + d i))

-- Where no test holds the number is 0.
pub bits_none : (n : ℕ) → bits_of (replicate n false) ≡ 0
unfolding bits_of
bits_none zero = refl
bits_none (suc n) = let h = bits_none n in omega arith

-- As many of its bits are 1 as tests hold: of no test, and of one more.
pub ones_none : ones (bits_of []) ≡ 0
unfolding bits_of
ones_none = ones-ones 0

pub ones_more : (b : Bool) (bs : List Bool) → ones (bits_of (b ∷ bs)) ≡ bit b + ones (bits_of bs)
unfolding bits_of
ones_more b bs =
    let h = bit_le b in
    let r : (bit b + 2 * bits_of bs) % 2 ≡ bit b = omega arith in
    let q : (bit b + 2 * bits_of bs) / 2 ≡ bits_of bs = omega arith in
    ones_step (bit b + 2 * bits_of bs) ∙ (λ x. r x + ones (q x))

bits_below : (bs : List Bool) → bits_of bs < 2 ^ length bs
unfolding bits_of
bits_below [] = omega (arith, pow-zero 2)
bits_below (b ∷ bs) =
    let h = bits_below bs in
    let e = bit_le b in
    let p = pow-suc 2 (length bs) in
    omega arith

pub bits_small : (n : ℕ) (bs : List Bool) → length bs ≤ n → bits_of bs < 2 ^ n
bits_small n bs h = lt_of_lt_of_le (bits_below bs) (pow_mono h)

-- ---- two numbers

-- Bit k is the last of the number past k bits.
odd : (m k : ℕ) → marked m k ≡ marked (m / (2 ^ k)) 0
unfolding marked
odd m k = let e : ((m / (2 ^ k)) / 1) % 2 ≡ (m / (2 ^ k)) % 2 = omega arith in ap (λ (x : ℕ). eqb x 1) (sym e)

-- Of two bits.
digits : (P : ℕ → ℕ → Type 0) → P 0 0 → P 0 1 → P 1 0 → P 1 1 → (a b : ℕ) → P (a % 2) (b % 2)
digits P p q r s a b = go (a % 2) (b % 2) (omega arith) (omega arith)
  where
    go : (x y : ℕ) → x < 2 → y < 2 → P x y
    go zero zero h k = p
    go zero (suc zero) h k = q
    go (suc zero) zero h k = r
    go (suc zero) (suc zero) h k = s
    go (suc (suc x)) y h k = absurd (omega arith)
    go zero (suc (suc y)) h k = absurd (omega arith)
    go (suc zero) (suc (suc y)) h k = absurd (omega arith)

last : (m q d : ℕ) → m ≡ q * 2 + d → d < 2 → (m / 1) % 2 ≡ d
last m q d e h = omega arith

last_and : (a b : ℕ) → marked (bit_and a b) 0 ≡ (marked a 0 && marked b 0)
unfolding marked
last_and a b =
    let s = last (bit_and a b) _ _ (and_step a b) (omega arith) in
    let x : (a / 1) % 2 ≡ a % 2 = omega arith in
    let y : (b / 1) % 2 ≡ b % 2 = omega arith in
    ap (λ (n : ℕ). eqb n 1) s ∙ digits (λ m n. eqb (min m n) 1 ≡ (eqb m 1 && eqb n 1)) refl refl refl refl a b ∙ sym (λ i. eqb (x i) 1 && eqb (y i) 1)

last_or : (a b : ℕ) → marked (bit_or a b) 0 ≡ (marked a 0 || marked b 0)
unfolding marked
last_or a b =
    let s = last (bit_or a b) _ _ (or_step a b) (omega arith) in
    let x : (a / 1) % 2 ≡ a % 2 = omega arith in
    let y : (b / 1) % 2 ≡ b % 2 = omega arith in
    ap (λ (n : ℕ). eqb n 1) s ∙ digits (λ m n. eqb (max m n) 1 ≡ (eqb m 1 || eqb n 1)) refl refl refl refl a b ∙ sym (λ i. eqb (x i) 1 || eqb (y i) 1)

pub marked_and : (a b k : ℕ) → marked (bit_and a b) k ≡ (marked a k && marked b k)
marked_and a b k =
    odd (bit_and a b) k ∙ ap (λ (x : ℕ). marked x 0) (and_shr a b k) ∙ last_and (a / (2 ^ k)) (b / (2 ^ k)) ∙ sym (λ i. odd a k i && odd b k i)

pub marked_or : (a b k : ℕ) → marked (bit_or a b) k ≡ (marked a k || marked b k)
marked_or a b k =
    odd (bit_or a b) k ∙ ap (λ (x : ℕ). marked x 0) (or_shr a b k) ∙ last_or (a / (2 ^ k)) (b / (2 ^ k)) ∙ sym (λ i. odd a k i || odd b k i)

-- ---- one bit, and that there is one

-- Where a number is within another, each of its bits is the other's.
pub within_marked : (c a k : ℕ) → bit_and c a ≡ c → marked c k ≡ true → marked a k ≡ true
within_marked c a k e h =
    ((decides_and (marked c k) (marked a k) (decides_itself (marked c k)) (decides_itself (marked a k))).yes
    (sym (marked_and c a k) ∙ ap (λ (x : ℕ). marked x k) e ∙ h)).1

-- The number of bit k alone.
doubled : (k : ℕ) → 2 ^ suc k ≡ bit false + 2 * 2 ^ k
doubled k = let p = pow-suc 2 k in omega arith

pub one_marked : (k : ℕ) → marked (2 ^ k) k ≡ true
one_marked zero = first_marked true 0
one_marked (suc k) = ap (λ (m : ℕ). marked m (suc k)) (doubled k) ∙ later_marked false (2 ^ k) k ∙ one_marked k

pub one_alone : (k j : ℕ) → marked (2 ^ k) j ≡ true → j ≡ k
one_alone zero zero h = refl
one_alone zero (suc j) h = absurd (true≢false (sym h ∙ later_marked true 0 j ∙ none_marked j))
one_alone (suc k) zero h = absurd (true≢false (sym h ∙ ap (λ (m : ℕ). marked m 0) (doubled k) ∙ first_marked false (2 ^ k)))
one_alone (suc k) (suc j) h = ap suc (one_alone k j (sym (ap (λ (m : ℕ). marked m (suc j)) (doubled k) ∙ later_marked false (2 ^ k) j) ∙ h))

-- Of a number below 2 ^ n the bits are the first n.
pub small_marked : (n m k : ℕ) → m < 2 ^ n → marked m k ≡ true → k < n
unfolding marked
small_marked n m k h e = elim (dec_lt k n) [
  | yes l ↦ l
  | no l ↦
      let q : n ≤ k = omega arith in
      let z : m / (2 ^ k) ≡ 0 = div-eq_of_lt (lt_of_lt_of_le h (pow_mono q)) in
      absurd (true≢false (sym e ∙ ap (λ (x : ℕ). eqb (x % 2) 1) z))
]

-- The number whose first n bits are 1.
pub ones_marked : (n k : ℕ) → k < n → marked (2 ^ n - 1) k ≡ true
ones_marked zero k h = absurd (omega arith)
ones_marked (suc n) k h = ap (λ (m : ℕ). marked m k) e ∙ go k h (ones_marked n)
  where
    e : 2 ^ suc n - 1 ≡ bit true + 2 * (2 ^ n - 1)
    e = let p = pow-suc 2 n in let q = pow_pos n in omega arith

    go : (j : ℕ) → j < suc n → ((i : ℕ) → i < n → marked (2 ^ n - 1) i ≡ true) → marked (bit true + 2 * (2 ^ n - 1)) j ≡ true
    go zero l more = first_marked true (2 ^ n - 1)
    go (suc j) l more = later_marked true (2 ^ n - 1) j ∙ more j (omega arith)

-- ---- the first bit, and the others

-- The last bit, by the remainder, and those before it.
last_bit : (m : ℕ) (b : Bool) → m % 2 ≡ bit b → marked m 0 ≡ b
last_bit m b e = let h : m ≡ bit b + 2 * (m / 2) = omega arith in ap (λ (x : ℕ). marked x 0) h ∙ first_marked b (m / 2)

halved : (m j : ℕ) → marked m (suc j) ≡ marked (m / 2) j
unfolding marked
halved m j = let p : 1 + j ≡ suc j = omega arith in sym (ap (λ (x : ℕ). eqb (x % 2) 1) (shr-shr m 1 j) ∙ ap (marked m) p)

-- Past the zeros at the end of a number its first bit is 1. One less than the number has all its others.
pub first_bit : (n m : ℕ) → m < 2 ^ n → (m ≡ 0 → ⊥) → marked m (count_trailing_zeros n m) ≡ true
unfolding count_trailing_zeros
first_bit zero m h z = let p = pow-zero 2 in absurd (z (omega arith))
first_bit (suc n) m h z = go (m % 2) refl (first_bit n (m / 2))
  where
    go : (d : ℕ) → m % 2 ≡ d → (m / 2 < 2 ^ n → (m / 2 ≡ 0 → ⊥) → marked (m / 2) (count_trailing_zeros n (m / 2)) ≡ true) → marked m (under d (count_trailing_zeros n (m / 2))) ≡ true
    go zero e more = let p = pow-suc 2 n in halved m (count_trailing_zeros n (m / 2)) ∙ more (omega arith) (λ q. z (omega arith))
    go (suc d) e more = last_bit m true (omega arith)

-- One less: of an odd number only the last bit differs, and of an even one the last is 1 and the others are those of its half, one less.
less_odd : (m j : ℕ) → m % 2 ≡ 1 → marked (m - 1) (suc j) ≡ marked m (suc j)
less_odd m j e = let h : (m - 1) / 2 ≡ m / 2 = omega arith in halved (m - 1) j ∙ ap (λ (x : ℕ). marked x j) h ∙ sym (halved m j)

less_even : (m j : ℕ) → m % 2 ≡ 0 → (m ≡ 0 → ⊥) → marked (m - 1) (suc j) ≡ marked (m / 2 - 1) j
less_even m j e z = let h : (m - 1) / 2 ≡ m / 2 - 1 = omega (arith, z) in halved (m - 1) j ∙ ap (λ (x : ℕ). marked x j) h

pub less_others : (n m j : ℕ) → m < 2 ^ n → (m ≡ 0 → ⊥) → marked m j ≡ true → (j ≡ count_trailing_zeros n m → ⊥) → marked (m - 1) j ≡ true
unfolding count_trailing_zeros
less_others zero m j h z b o = let p = pow-zero 2 in absurd (z (omega arith))
less_others (suc n) m j h z b o = go (m % 2) refl j b o (less_others n (m / 2))
  where
    go : (d : ℕ) → m % 2 ≡ d → (j : ℕ) → marked m j ≡ true → (j ≡ under d (count_trailing_zeros n (m / 2)) → ⊥)
        → ((i : ℕ) → m / 2 < 2 ^ n → (m / 2 ≡ 0 → ⊥) → marked (m / 2) i ≡ true → (i ≡ count_trailing_zeros n (m / 2) → ⊥) → marked (m / 2 - 1) i ≡ true) → marked (m - 1) j ≡ true
    go zero e zero b o more = absurd (true≢false (sym b ∙ last_bit m false e))
    go zero e (suc j) b o more =
        let p = pow-suc 2 n in
        less_even m j e z ∙ more j (omega arith) (λ q. z (omega arith)) (sym (halved m j) ∙ b) (λ q. o (ap suc q))
    go (suc d) e zero b o more = absurd (o refl)
    go (suc d) e (suc j) b o more = less_odd m j (omega arith) ∙ b
