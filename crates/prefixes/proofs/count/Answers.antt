-- `count` meets its contract: each turn counts the prefixes that stand alone at the ends, and goes on to the pairs. Assumes nothing.
use borrow.Author.Tests.{ltb-true, ltb-false}
use native.Mathlib.Omega.{arith}
use Prim.Native.Nat.{ℕ, ◌≤◌, ◌<◌}
use mathlib.Core.Path.{◌≡◌, sym, ap, ◌∙◌}
use lib.Dec.{eqb, leb}
use lib.ListN.{length}
use Rattle.base.specs.Truths.{bit}
use Rattle.base.proofs.Laws.Passing.{bit_le}
use Rattle.policy.specs.Views.{value, range_of}
use Rattle.prefixes.specs.Prefixes.{is_first, is_second}
use Rattle.prefixes.specs.Bytes.{prefixes_in}
use Rattle.prefixes.proofs.Laws.Lists.{length_alone, length_parts}
use Rattle.prefixes.proofs.Laws.Held.{held_pairs, prefixes_around, prefixes_left}
use Rattle.prefixes.proofs.count.Goals as goal

pub loop-n-preserved : goal.loop-n-preserved
loop-n-preserved c =
    let rest = c.loop-n.rest in
    let p = c.pairs-rest.result in
    let h = c.loop-n.invariant in
    let b = c.pairs-rest.ensures.bits in
    let more : value rest.range.low < value rest.range.high =
    ltb-true (value rest.range.low) (value rest.range.high) (sym c.has_more.ensures ∙ c.loop-n-test.true) in
    let lowest : c.bit.result ≡ bit (is_second (value rest.range.low)) = c.bit.ensures ∙ ap (λ (n : ℕ). bit (eqb n 1)) c.last_bit.ensures in
    let highest : c.bit-in-loop-n.result ≡ bit (is_first (value rest.range.high)) =
    c.bit-in-loop-n.ensures ∙ ap (λ (n : ℕ). bit (eqb n 0)) c.last_bit-in-loop-n.ensures in
    let one : c.bit.result ≤ 1 = omega (arith, lowest, bit_le (is_second (value rest.range.low))) in
    let two : c.bit-in-loop-n.result ≤ 1 = omega (arith, highest, bit_le (is_first (value rest.range.high))) in
    record {
      held = held_pairs rest p h.held more c.pairs-rest.ensures.pairs b;
      all =
          omega (
            arith,
            h.all,
            lowest,
            highest,
            ap length (prefixes_around rest p h.held more c.pairs-rest.ensures.pairs b),
            length_parts p.bits (range_of rest.range) (prefixes_in p),
          );
      few = omega (arith, h.few, one, two, b);
    }

pub returns : goal.returns
returns c =
    let r = c.loop-n.rest in
    let left : length (prefixes_in r) ≡ c.bit-2.result =
    ap length (prefixes_left r (ltb-false (value r.range.low) (value r.range.high) (sym c.has_more.ensures ∙ c.loop-n-test.false)))
    ∙ length_alone (leb (value r.range.low) (value r.range.high)) r.bits (value r.range.low)
    ∙ sym (c.bit-2.ensures ∙ ap bit c.at_most.ensures) in
    omega (arith, c.loop-n.invariant.all, left)
