use mathlib.Core.Path.{◌≡◌, refl}
use Prim.Native.Nat.{ℕ, zero, suc, ◌/◌, ◌*◌, ◌^◌, ◌<◌}
use native.Mathlib.Nat.{mul-suc, pow-suc, pow-le-pow_right, lt_of_lt_of_le, div-eq_of_lt}
use borrow.Author.Rules.{rules}
use lib.Dec.{lit<}
use lib.Pow.{pow-add}
use Rattle.policy.specs.Views.{value}
use Rattle.policy.proofs.number.Number.byte.Goals as goal

-- k bytes are 8 * k bits
bits : (k : ℕ) → 2 ^ (8 * k) ≡ 256 ^ k
bits zero = refl
bits (suc k) = rw (mul-suc 8 k, pow-add 2 (8 * k) 8, pow-suc 256 k, bits k)

pub returns-then-k-lt-BYTES : goal.returns-then-k-lt-BYTES
unfolding value
returns-then-k-lt-BYTES c = rw (bits c.args.k)

-- a number has sixteen
pub returns-else-k-lt-BYTES : goal.returns-else-k-lt-BYTES
unfolding value
returns-else-k-lt-BYTES c =
    let n = c.args.self.0 in
    let small : n < 256 ^ 16 = search rules in
    let none : n / 256 ^ c.args.k ≡ 0 = div-eq_of_lt (lt_of_lt_of_le small (pow-le-pow_right (lit< tt) c.if-k-lt-BYTES.false)) in
    rw none
