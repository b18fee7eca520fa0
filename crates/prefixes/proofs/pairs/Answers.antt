-- `pairs` meets its contract: each end by its own steps, and there is a bit to take away. Assumes nothing.
use native.Mathlib.Omega.{arith}
use native.Mathlib.Numerals.{add-one}
use Prim.Native.Nat.{ℕ, ◌+◌, ◌-◌, ◌/◌}
use mathlib.Core.Path.{◌≡◌, sym, ap, ◌∙◌}
use Rattle.policy.specs.Views.{value}
use Rattle.prefixes.proofs.Laws.Held.{some_bit}
use Rattle.prefixes.proofs.pairs.Goals as goal

pub overflow_sub-result : goal.overflow_sub-result
overflow_sub-result c = some_bit (value c.args.a.range.high) c.args.a.bits (omega (arith, c.requires.1)) c.requires.0.high

pub returns-clause-pairs : goal.returns-clause-pairs
returns-clause-pairs c =
    let low : value c.half.result ≡ (value c.args.a.range.low + 1) / 2 =
    c.half.ensures ∙ ap (λ (n : ℕ). n / 2) (c.next.ensures ∙ sym (add-one _)) in
    let high : value c.half-2.result ≡ (value c.args.a.range.high - 1) / 2 =
    c.half-2.ensures ∙ ap (λ (n : ℕ). n / 2) c.previous.ensures in
    λ i. record { low = low i; high = high i }

pub returns-clause-bits : goal.returns-clause-bits
returns-clause-bits c =
    let b = some_bit (value c.args.a.range.high) c.args.a.bits (omega (arith, c.requires.1)) c.requires.0.high in omega arith
