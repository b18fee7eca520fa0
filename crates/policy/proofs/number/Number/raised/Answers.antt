use Prim.Native.Nat.{ℕ, zero, suc, ◌^◌, ◌*◌, ◌≤◌, ◌<◌}
use native.Mathlib.Nat.{suc-mul}
use mathlib.Core.Path.{◌≡◌}
use native.Mathlib.Omega.{arith}
use borrow.Author.Rules.{rules}
use lib.Pow.{pow_mono}
use Rattle.policy.specs.Views.{value}
use Rattle.policy.proofs.number.Number.raised.Goals as goal

-- a number that stays below c, though it is multiplied by as much, is 0
none_left : (c p n : ℕ) → c ≤ p → n * p < c → 0 ≡ n * p
none_left c p zero h k = omega arith
none_left c p (suc n) h k = let m = suc-mul n p in absurd (omega arith)

-- 0 alone has 128 bits more below 2 to the power 128
pub returns-else-k-lt-BITS : goal.returns-else-k-lt-BITS
unfolding value
returns-else-k-lt-BITS c =
    let limit : c.args.limit.0 < 2 ^ 128 = search rules in
    none_left (2 ^ 128) (2 ^ c.args.k) c.args.self.0 (pow_mono c.if-k-lt-BITS.false) (omega (arith, c.requires))
