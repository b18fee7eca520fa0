-- The largest word without as many of its last bits as leaves `count`, which is none of 0.
use Rattle.std.proofs.Common.{ℕ, zero, suc, ◌-◌, ◌/◌, ◌^◌, ◌≡◌, ◌≤◌, ◌<◌, Option, Some, None, ◌∙◌, refl, ap, arith}
use Rattle.std.proofs.lemmas.Nat.Bits.{ones_shr}
use Rattle.std.specs.Option.{SomeIff, unwrap_or}
use Rattle.covers.proofs.set.first.Goals as goal

shifted : (r : Option ℕ) (n : ℕ) → n ≤ 64 → SomeIff r (64 - n < 64) (18446744073709551615 / 2 ^ (64 - n)) → unwrap_or r 0 ≡ 2 ^ n - 1
shifted (Some x) n h s = let e : 64 - (64 - n) ≡ n = omega arith in s.1 ∙ ones_shr 64 (64 - n) (omega arith) ∙ ap (λ (k : ℕ). 2 ^ k - 1) e
shifted None zero h s = refl
shifted None (suc n) h s = absurd (s (omega arith))

pub returns : goal.returns
returns c = c.unwrap_or.ensures ∙ shifted c.checked_shr.result c.args.count c.requires c.checked_shr.ensures
