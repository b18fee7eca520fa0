-- Laws of an address's bits:
--   bit_before, bit_last: the bits before the last, which are those of the half, and the last
--   all_bits: addresses with the same bits are the same
-- Assumes nothing.
use Prim.Native.Nat.{ℕ, zero, suc, ◌+◌, ◌-◌, ◌/◌, ◌%◌, ◌^◌, ◌<◌}
use mathlib.Core.Path.{◌≡◌, sym, ap, ◌∙◌}
use native.Mathlib.Omega.{arith}
use native.Mathlib.Nat.{pow-suc, div-one}
use lib.Pow.{shr-shr}
use Rattle.prefixes.specs.Prefixes.{bit_at}

pub bit_before : (width a k : ℕ) → k < width → bit_at (suc width) a k ≡ bit_at width (a / 2) k
bit_before width a k h =
    let e : suc width - suc k ≡ 1 + (width - suc k) = omega arith in
    ap (λ (n : ℕ). (a / 2 ^ n) % 2) e ∙ ap (λ (n : ℕ). n % 2) (sym (shr-shr a 1 (width - suc k)))

pub bit_last : (width a : ℕ) → bit_at (suc width) a width ≡ a % 2
bit_last width a =
    let e : suc width - suc width ≡ 0 = omega arith in
    ap (λ (n : ℕ). (a / 2 ^ n) % 2) e ∙ ap (λ (n : ℕ). n % 2) (div-one a)

pub all_bits : (width x a : ℕ) → x < 2 ^ width → a < 2 ^ width → ((k : ℕ) → k < width → bit_at width x k ≡ bit_at width a k) → x ≡ a
all_bits zero x a h l same = omega arith
all_bits (suc width) x a h l same =
    let p = pow-suc 2 width in
    let half : x / 2 ≡ a / 2 =
    all_bits width (x / 2) (a / 2) (omega arith) (omega arith)
    (λ k b. sym (bit_before width x k b) ∙ same k (omega arith) ∙ bit_before width a k b) in
    let last : x % 2 ≡ a % 2 = sym (bit_last width x) ∙ same width (omega arith) ∙ bit_last width a in
    omega arith
