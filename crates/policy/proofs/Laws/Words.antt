-- Numbers of two digits, u * b + l with l below b, for any base b: their order, the number after and before, the half, a shift, a byte, and a range
-- that is packed into one. The two words of a number in a table's runs are such digits, at 2 to the power 64; the laws are for any base, since no power
-- is computed here.
-- Assumes nothing.
use mathlib.Core.Path.{◌≡◌, refl, sym, ap, ◌∙◌}
use mathlib.Core.Logic.{◌⊎◌, inl, inr}
use mathlib.Core.Bool.{Bool, true, false, ◌&&◌, ◌||◌}
use mathlib.Core.List.{List, [], ◌∷◌}
use Prim.Native.Nat.{ℕ, zero, suc, ◌+◌, ◌-◌, ◌*◌, ◌/◌, ◌%◌, ◌≤◌, ◌<◌, min, max}
use native.Mathlib.Nat.{mul-le-mul_left, mul-le-mul_right, lt_of_mul-lt-mul_right, mul-div-mul_right, div-add-mod', suc-mul, mul_comm, mul_assoc, add-mul, mul-add-div, mul-add-mod_self_left, div-div-eq-div-mul}
use native.Mathlib.Decide.{dec_lt}
use native.Mathlib.Omega.{arith}
use lib.ListN.{length}
use lib.Dec.{leb, ltb, eqb}
use lib.Arith.{digits_div, digits_mod}
use Rattle.base.specs.Truths.{Decides}
use Rattle.base.proofs.Laws.Decides.{decides_as, decides_and, decides_or, decides_leb, decides_ltb, decides_eqb, decides_holds, decides_fails}
use Rattle.policy.specs.Limits.{field_count}
use Rattle.policy.specs.Model.{Range, Selector}
use Rattle.policy.specs.Wellformed.{Fits, range_widths, SelectorRule}
use Rattle.policy.specs.Words.{packed_range, unpacked_range}

-- ---- order

module _ (b : ℕ) where
  -- A number with a smaller first digit is smaller.
  first_smaller : (u v l m : ℕ) → u < v → l < b → u * b + l < v * b + m
  first_smaller u v l m h k = let s = suc-mul u b in let t = mul-le-mul_right b h in omega arith

  module _ (u v l m : ℕ) (k : l < b) (n : m < b) where
    ordered : u * b + l ≤ v * b + m → (u < v) ⊎ ((u ≡ v) × (l ≤ m))
    ordered h =
        elim (dec_lt u v) [
          | yes p ↦ inl p
          | no p ↦ elim (dec_lt v u) [
            | yes q ↦ let s = first_smaller v u m l q n in absurd (omega arith)
            | no q ↦ let e : u ≡ v = omega arith in inr (e, let s = ap (λ (x : ℕ). x * b) e in omega arith)
          ]
        ]

    -- The first digits are in the order of the numbers; so of the lesser number and of the greater one they are the lesser and the greater.
    first_ordered : u * b + l ≤ v * b + m → u ≤ v
    first_ordered h = elim (ordered h) [ inl p ↦ omega arith | inr q ↦ omega (arith, q.0) ]

    pub lesser_of : u * b + l ≤ v * b + m → min u v * b + l ≡ min (u * b + l) (v * b + m)
    lesser_of h = let k = first_ordered h in let e : min u v ≡ u = omega arith in rw e (omega arith)

    pub greater_of : u * b + l ≤ v * b + m → max u v * b + m ≡ max (u * b + l) (v * b + m)
    greater_of h = let k = first_ordered h in let e : max u v ≡ v = omega arith in rw e (omega arith)

    in_order : (u < v) ⊎ ((u ≡ v) × (l ≤ m)) → u * b + l ≤ v * b + m
    in_order (inl p) = let s = first_smaller u v l m p k in omega arith
    in_order (inr q) = let s = ap (λ (x : ℕ). x * b) q.0 in let t = q.1 in omega arith

    -- The test goes by the first digits, and where they are equal by the second.
    pub order_test : (ltb u v || (eqb u v && leb l m)) ≡ leb (u * b + l) (v * b + m)
    order_test =
        decides_same _ _ (decides_leb (u * b + l) (v * b + m))
        (decides_as in_order ordered
        (decides_or (ltb u v) (eqb u v && leb l m) (decides_ltb u v) (decides_and (eqb u v) (leb l m) (decides_eqb u v) (decides_leb l m))))
      where
        decides_same : (t o : Bool) {P : Type 0} → Decides t P → Decides o P → o ≡ t
        decides_same true o d e = decides_holds o e (d.yes refl)
        decides_same false o d e = decides_fails o e (d.no refl)

  -- ---- the number after, and before

  -- There is a next number to the first digit, where the second is the last one.
  pub room_above : (u v l m : ℕ) → u * b + l < v * b + m → suc l ≡ b → m < b → u < v
  room_above u v l m h e n =
      elim (dec_lt u v) [ yes p ↦ p | no p ↦ let s : v * b ≤ u * b = mul-le-mul_right b (omega arith) in absurd (omega arith) ]

  pub room_below : (u l : ℕ) → 0 < u * b + l → l ≡ 0 → 0 < u
  room_below zero l h e = absurd (omega arith)
  room_below (suc u) l h e = omega arith

  pub after_last : (u l : ℕ) → suc l ≡ b → suc u * b + 0 ≡ suc (u * b + l)
  after_last u l e = let s = suc-mul u b in omega arith

  pub before_first : (u l : ℕ) → 0 < u → l + 1 ≡ b → (u - 1) * b + l ≡ u * b + 0 - 1
  before_first zero l h e = absurd (omega arith)
  before_first (suc u) l h e =
      let s = suc-mul u b in
      let p : suc u - 1 ≡ u = omega arith in
      rw p (omega arith)

  pub before_other : (u l : ℕ) → (l ≡ 0 → ⊥) → u * b + (l - 1) ≡ u * b + l - 1
  before_other u zero h = absurd (h refl)
  before_other u (suc l) h = omega arith

-- ---- the half, where the base is even

-- The second digit has room for the first one's last bit.
pub half_room : (h u l : ℕ) → l < 2 * h → u % 2 * h + l / 2 < 2 * h
half_room h u l k =
    let a : l / 2 < h = omega arith in
    elim (dec_lt (u % 2) 1) [
      | yes e ↦ let z : u % 2 ≡ 0 = omega arith in rw z (omega arith)
      | no e ↦ let z : u % 2 ≡ 1 = omega arith in rw z (omega arith)
    ]

pub half_of : (h u l : ℕ) → u / 2 * (2 * h) + (u % 2 * h + l / 2) ≡ (u * (2 * h) + l) / 2
half_of h u l =
    let e : u * (2 * h) + l ≡ 2 * (u / 2 * (2 * h) + u % 2 * h) + l =
    let p : u ≡ 2 * (u / 2) + u % 2 = omega arith in
    let q = ap (λ (x : ℕ). x * (2 * h)) p in
    let r = add-mul (2 * (u / 2)) (u % 2) (2 * h) in
    let s = mul_assoc 2 (u / 2) (2 * h) in
    let t : u % 2 * (2 * h) ≡ 2 * (u % 2 * h) = rw (mul_comm (u % 2) (2 * h), mul_assoc 2 h (u % 2), mul_comm h (u % 2)) in
    omega arith in
    sym (ap (λ (x : ℕ). x / 2) e ∙ mul-add-div (omega arith) (u / 2 * (2 * h) + u % 2 * h) l ∙ omega arith)

pub last_of : (h u l : ℕ) → l % 2 ≡ (u * (2 * h) + l) % 2
last_of h u l =
    let e : u * (2 * h) ≡ 2 * (u * h) = rw (mul_comm u (2 * h), mul_assoc 2 h u, mul_comm h u) in
    sym (rw e (mul-add-mod_self_left 2 (u * h) l))

-- ---- a shift

-- Two digits are below the square of the base.
pub two_digits : (b u l : ℕ) → u < b → l < b → u * b + l < b * b
two_digits b u l h k = let s = first_smaller b u b l 0 h k in omega arith

module _ (p q u l : ℕ) (some : 0 < p) where
  -- What is shifted over from the second digit into the first is what the second has from q on, where p times q is the base.
  pub shifted : (u * p + l / q) * (p * q) + l * p % (p * q) ≡ (u * (p * q) + l) * p
  shifted =
      let b = p * q in
      let whole = div-add-mod' (l * p) b in
      let over : l * p / b ≡ l / q = rw (mul_comm p q) (mul-div-mul_right l q some) in
      let left = add-mul (u * p) (l / q) b in
      let right = add-mul (u * b) l p in
      let middle : u * p * b ≡ u * b * p = rw (mul_assoc u p b, mul_comm p b, mul_assoc u b p) in
      let same = ap (λ (x : ℕ). x * b) over in
      omega arith

  -- The first digit has room for it, where the number that it comes to has two digits.
  pub shifted_small : (u * (p * q) + l) * p < p * q * (p * q) → u * p + l / q < p * q
  shifted_small h = let e = shifted in lt_of_mul-lt-mul_right (p * q) (omega arith)

-- A shift by a whole digit and more: the first digit is 0, the second becomes the first.
pub shifted_digit : (b p u l : ℕ) → 0 < p → l < b → (u * b + l) * (b * p) < b * b → (l * p < b) × (l * p * b + 0 ≡ (u * b + l) * (b * p))
shifted_digit b p zero l some k h =
    let e : l * (b * p) ≡ l * p * b = rw (mul_comm b p, mul_assoc l p b) in
    (lt_of_mul-lt-mul_right b (omega arith), omega arith)
shifted_digit b p (suc u) l some k h =
    let a = suc-mul u b in
    let m : b * (b * p) ≤ (suc u * b + l) * (b * p) = mul-le-mul_right (b * p) (omega arith) in
    let n : b * b ≤ b * (b * p) = mul-le-mul_left b (mul_le_one b p some) in
    absurd (omega arith)
  where
    mul_le_one : (b p : ℕ) → 0 < p → b ≤ b * p
    mul_le_one b p some = let m = mul-le-mul_left b some in omega arith

-- A number that stays in two digits, though it is multiplied by as much as they can be, is 0.
pub shifted_out : (c p n : ℕ) → c ≤ p → n * p < c → 0 ≡ n * p
shifted_out c p zero h k = omega arith
shifted_out c p (suc n) h k = let m = suc-mul n p in absurd (omega arith)

-- ---- a byte

-- Below the second digit's size it is the second digit's, and from there on the first one's.
pub byte_below : (p q u l : ℕ) → 0 < p → l / p % 256 ≡ (u * (256 * q * p) + l) / p % 256
byte_below p q u l some =
    let e : u * (256 * q * p) ≡ p * (256 * (q * u)) =
    rw (mul_comm u (256 * q * p), mul_comm (256 * q) p, mul_assoc p (256 * q) u, mul_assoc 256 q u) in
    sym (rw e (ap (λ (x : ℕ). x % 256) (mul-add-div some (256 * (q * u)) l) ∙ mul-add-mod_self_left 256 (q * u) (l / p)))

pub byte_above : (b p u l : ℕ) → l < b → u / p % 256 ≡ (u * b + l) / (b * p) % 256
byte_above b p u l h = ap (λ (x : ℕ). x % 256) (ap (λ (x : ℕ). x / p) (sym (digits_div u h)) ∙ div-div-eq-div-mul (u * b + l) b p)

-- ---- selectors

-- A selector that fits has a range for each width.
pub fits_length : (ws : List ℕ) (s : Selector) → Fits ws s → length s ≡ length ws
fits_length [] [] f = refl
fits_length [] (r ∷ s) f = absurd f
fits_length (w ∷ ws) [] f = absurd f
fits_length (w ∷ ws) (r ∷ s) f = ap suc (fits_length ws s f.1)

pub five_ranges : {s : Selector} → SelectorRule s → length s ≡ field_count
five_ranges {s} rule = fits_length range_widths s rule.fits

-- A range that is packed comes back, if its high is below the size.
pub unpacked_packed : (size : ℕ) (r : Range) → r.high < size → unpacked_range size (packed_range size r) ≡ r
unpacked_packed size r h = rw (digits_div r.low h, digits_mod r.low h)

-- It is below the square of the size, if both its bounds are below the size.
pub packed_small : (size : ℕ) (r : Range) → r.low < size → r.high < size → packed_range size r < size * size
packed_small size r l h = let s = first_smaller size r.low size r.high 0 l h in omega arith
