use mathlib.Core.Path.{◌≡◌, ◌∙◌}
use mathlib.Core.List.{List}
use Prim.Native.Nat.{ℕ, suc, ◌+◌, ◌-◌, ◌/◌, ◌%◌, ◌^◌, ◌<◌}
use native.Mathlib.Omega.{arith}
use lib.ListN.{set}
use lib.Seq.{sets}
use Rattle.hexlines.specs.Numbers.{number_bytes}
use Rattle.policy.specs.Views.{value}
use Rattle.policy.proofs.number.Number.put.Goals as goal

-- one byte more
stored : (bytes : List ℕ) (at k width n b : ℕ) → k < width → b ≡ (n / 256 ^ (width - 1 - k)) % 256
    → sets (set bytes (at + k) b) (at + (k + 1)) (number_bytes (width - (k + 1)) n) ≡ sets bytes (at + k) (number_bytes (width - k) n)
stored bytes at k width n b h e =
    let one : at + (k + 1) ≡ suc (at + k) = omega arith in
    let next : width - k ≡ suc (width - (k + 1)) = omega arith in
    let place : width - 1 - k ≡ width - (k + 1) = omega arith in
    rw (one, next, e, place)

pub loop-k-preserved : goal.loop-k-preserved
loop-k-preserved c =
    let a = c.args in
    stored c.loop-k.bytes a.at c.loop-k.k a.width (value a.self) c.byte.result c.loop-k-test.true c.byte.ensures ∙ c.loop-k.invariant
