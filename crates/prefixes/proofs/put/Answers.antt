-- `put` meets its contract: in each turn the prefixes at both ends are stored, and the pairs are left. Assumes nothing.
use borrow.Author.Tests.{ltb-true, ltb-false, leb-true}
use native.Mathlib.Omega.{arith}
use native.Mathlib.Nat.{mul-le-mul_right}
use Prim.Native.Nat.{ℕ, ◌+◌, ◌*◌, ◌-◌, ◌/◌, ◌%◌, ◌^◌, ◌≤◌, ◌<◌}
use mathlib.Core.Path.{◌≡◌, sym, ap, subst, ◌∙◌}
use mathlib.Core.Bool.{Bool}
use mathlib.Core.List.{List}
use lib.Dec.{eqb, leb}
use lib.ListN.{length}
use lib.Seq.{sets, length-sets}
use Rattle.base.specs.Truths.{bit}
use Rattle.base.proofs.Laws.Outputs.{writes_not, writes_stored}
use Rattle.policy.specs.Limits.{number_width}
use Rattle.policy.specs.Views.{value, range_of}
use Rattle.policy.specs.declared.selector.Range.{Range}
use Rattle.prefixes.specs.Prefixes.{alone_if, is_first, is_second}
use Rattle.prefixes.specs.Bytes.{prefix_bytes, prefixes_in, Held}
use Rattle.prefixes.specs.declared.Addresses.{Addresses}
use Rattle.prefixes.proofs.Laws.Order.{prefixes_most}
use Rattle.prefixes.proofs.Laws.Puts.{length_prefix_bytes, size, bytes_at, Left, left_start, left_long, left_room, left_ends, left_pairs, left_last}
use Rattle.prefixes.proofs.Laws.Lists.{length_alone}
use Rattle.prefixes.proofs.Laws.Held.{prefixes_left}
use Rattle.prefixes.proofs.put.Goals as goal

-- the range, as it is held
module _ (r : Range) (bytes : ℕ) (fits : (value r.high < 2 ^ (8 * bytes)) × (bytes ≤ number_width)) where
  abbrev whole : Addresses
  whole = record { range = r; bits = 8 * bytes }

  held : Held whole
  held = let h = fits.1 in record { high = fits.0; few = omega arith }

  -- how many bytes an address has
  width : whole.bits / 8 ≡ bytes
  width = omega arith

  few : length (prefixes_in whole) ≤ 16 * number_width + 1
  few = let m = prefixes_most (8 * bytes) (range_of r) fits.0 in let h = fits.1 in omega arith

  -- and its prefixes are counted
  module _ (n : ℕ) (counted : n ≡ length (prefixes_in whole)) where
    long : length (prefix_bytes bytes (prefixes_in whole)) ≡ (bytes + 1) * n
    long = length_prefix_bytes bytes (prefixes_in whole) ∙ ap (λ (m : ℕ). (bytes + 1) * m) (sym counted)

    room : (out : List ℕ) → (bytes + 1) * n ≤ length out → (whole.bits / 8 + 1) * length (prefixes_in whole) ≤ length out
    room out h =
        let e : (whole.bits / 8 + 1) * length (prefixes_in whole) ≡ (bytes + 1) * n = λ i. (width i + 1) * sym counted i in
        omega (arith, e, h)

-- a turn: there is more than one address, and the ends are known
module _ {all rest : Addresses} {before out : List ℕ} {from to : ℕ} (left : Left all rest before out from to) {first last : ℕ}
    (low : first ≡ value rest.range.low % 2) (high : last ≡ value rest.range.high % 2) where
  lowest : eqb first 1 ≡ is_second (value rest.range.low)
  lowest = ap (λ (n : ℕ). eqb n 1) low

  highest : eqb last 0 ≡ is_first (value rest.range.high)
  highest = ap (λ (n : ℕ). eqb n 0) high

  ends : value rest.range.low < value rest.range.high → from + bit (eqb first 1) + bit (eqb last 0) ≤ to
  ends more = omega (arith, left_ends left more, ap bit lowest, ap bit highest)

pub overflow_mul-bytes : goal.overflow_mul-bytes
overflow_mul-bytes c =
    let h = c.requires.1 in
    let most : c.args.bytes + 1 ≤ number_width + 1 = omega arith in
    omega (arith, mul-le-mul_right c.count-n.result most, c.count-n.ensures, few c.args.r c.args.bytes c.requires)

pub returns-then-out-bytes : goal.returns-then-out-bytes
returns-then-out-bytes c =
    let x = c.args in
    writes_not (prefix_bytes x.bytes (prefixes_in (whole x.r x.bytes c.requires))) x.out.now
    (omega (arith, long x.r x.bytes c.requires c.count-n.result c.count-n.ensures, c.if-out-bytes.true))

pub loop-first-init : goal.loop-first-init
loop-first-init c =
    let x = c.args in rw c.count-n.ensures (left_start (whole x.r x.bytes c.requires) x.out.now (held x.r x.bytes c.requires))

pub put_if-requires : goal.put_if-requires
put_if-requires c =
    let x = c.args in
    let rest = c.loop-first.rest in
    let more : value rest.range.low < value rest.range.high = ltb-true _ _ (sym c.has_more.ensures ∙ c.loop-first-test.true) in
    left_room c.loop-first.invariant (eqb c.last_bit-first.result 1) rest.range.low c.loop-first.out c.loop-first.from (held x.r x.bytes c.requires)
    (room x.r x.bytes c.requires c.count-n.result c.count-n.ensures x.out.now c.if-out-bytes.false) (left_long c.loop-first.invariant)
    (λ e. omega (arith, more))
    (let m = ends c.loop-first.invariant c.last_bit-first.ensures c.last_bit-last.ensures more in omega arith)

pub overflow_sub-to : goal.overflow_sub-to
overflow_sub-to c =
    let rest = c.loop-first.rest in
    let more : value rest.range.low < value rest.range.high = ltb-true _ _ (sym c.has_more.ensures ∙ c.loop-first-test.true) in
    omega (arith, ends c.loop-first.invariant c.last_bit-first.ensures c.last_bit-last.ensures more, c.bit-to.ensures)

-- the lowest is written
module _ {all rest : Addresses} {before out mid : List ℕ} {from to : ℕ} (left : Left all rest before out from to) (first : ℕ)
    (low : eqb first 1 ≡ is_second (value rest.range.low))
    (put : mid ≡ sets out (size all * from) (bytes_at all rest.bits (alone_if (eqb first 1) rest.bits (value rest.range.low)))) where
  first_stored : mid ≡ sets out (size all * from) (bytes_at all rest.bits (alone_if (is_second (value rest.range.low)) rest.bits (value rest.range.low)))
  first_stored = put ∙ ap (λ (there : Bool). sets out (size all * from) (bytes_at all rest.bits (alone_if there rest.bits (value rest.range.low)))) low

  mid_long : length mid ≡ length before
  mid_long = ap length put ∙ length-sets out (size all * from) (bytes_at all rest.bits (alone_if (eqb first 1) rest.bits (value rest.range.low))) ∙ left_long left

pub put_if-requires-in-loop-first : goal.put_if-requires-in-loop-first
put_if-requires-in-loop-first c =
    let x = c.args in
    let rest = c.loop-first.rest in
    let left = c.loop-first.invariant in
    let more : value rest.range.low < value rest.range.high = ltb-true _ _ (sym c.has_more.ensures ∙ c.loop-first-test.true) in
    left_room left (eqb c.last_bit-last.result 0) rest.range.high c.put_if.new.out (c.loop-first.to - c.bit-to.result) (held x.r x.bytes c.requires)
    (room x.r x.bytes c.requires c.count-n.result c.count-n.ensures x.out.now c.if-out-bytes.false)
    (mid_long left c.last_bit-first.result (lowest left c.last_bit-first.ensures c.last_bit-last.ensures) c.put_if.ensures)
    (λ e. omega arith)
    (let m = ends left c.last_bit-first.ensures c.last_bit-last.ensures more in let n = c.bit-to.ensures in omega arith)

pub loop-first-preserved : goal.loop-first-preserved
loop-first-preserved c =
    let x = c.args in
    let all = whole x.r x.bytes c.requires in
    let rest = c.loop-first.rest in
    let left = c.loop-first.invariant in
    let mid = c.put_if.new.out in
    let to = c.loop-first.to in
    let more : value rest.range.low < value rest.range.high = ltb-true _ _ (sym c.has_more.ensures ∙ c.loop-first-test.true) in
    let low = lowest left c.last_bit-first.ensures c.last_bit-last.ensures in
    let high = highest left c.last_bit-first.ensures c.last_bit-last.ensures in
    let place : to - c.bit-to.result ≡ to - bit (is_first (value rest.range.high)) = ap (λ (n : ℕ). to - n) (c.bit-to.ensures ∙ ap bit high) in
    let stored : c.put_if-in-loop-first.new.out ≡ sets mid (size all * (to - bit (is_first (value rest.range.high))))
    (bytes_at all rest.bits (alone_if (is_first (value rest.range.high)) rest.bits (value rest.range.high))) =
    c.put_if-in-loop-first.ensures ∙ (λ i. sets mid (size all * place i) (bytes_at all rest.bits (alone_if (high i) rest.bits (value rest.range.high)))) in
    let from : c.loop-first.from + bit (is_second (value rest.range.low)) ≡ c.loop-first.from + c.bit-from.result =
    ap (λ (n : ℕ). c.loop-first.from + n) (sym (c.bit-from.ensures ∙ ap bit low)) in
    let g : Left all c.pairs-rest.result x.out.now c.put_if-in-loop-first.new.out (c.loop-first.from + bit (is_second (value rest.range.low)))
    (to - bit (is_first (value rest.range.high))) =
    left_pairs left c.pairs-rest.result more c.pairs-rest.ensures.pairs c.pairs-rest.ensures.bits mid c.put_if-in-loop-first.new.out
    (first_stored left c.last_bit-first.result low c.put_if.ensures) stored in
    subst (λ (n : ℕ). Left all c.pairs-rest.result x.out.now c.put_if-in-loop-first.new.out n (to - c.bit-to.result)) from
    (subst (Left all c.pairs-rest.result x.out.now c.put_if-in-loop-first.new.out (c.loop-first.from + bit (is_second (value rest.range.low)))) (sym place) g)

pub put_if-requires-2 : goal.put_if-requires-2
put_if-requires-2 c =
    let x = c.args in
    let rest = c.loop-first.rest in
    let left = c.loop-first.invariant in
    let there : c.at_most.result ≡ leb (value rest.range.low) (value rest.range.high) = c.at_most.ensures in
    let no_more = ltb-false (value rest.range.low) (value rest.range.high) (sym c.has_more.ensures ∙ c.loop-first-test.false) in
    left_room left c.at_most.result rest.range.low c.loop-first.out c.loop-first.from (held x.r x.bytes c.requires)
    (room x.r x.bytes c.requires c.count-n.result c.count-n.ensures x.out.now c.if-out-bytes.false) (left_long left)
    (λ e. leb-true (value rest.range.low) (value rest.range.high) (sym there ∙ e))
    (omega (
      arith,
      left.places,
      ap length (prefixes_left rest no_more),
      ap bit there,
      length_alone (leb (value rest.range.low) (value rest.range.high)) rest.bits (value rest.range.low),
    ))

pub returns : goal.returns
returns c =
    let x = c.args in
    let all = whole x.r x.bytes c.requires in
    let rest = c.loop-first.rest in
    let left = c.loop-first.invariant in
    let there : c.at_most.result ≡ leb (value rest.range.low) (value rest.range.high) = c.at_most.ensures in
    let no_more = ltb-false (value rest.range.low) (value rest.range.high) (sym c.has_more.ensures ∙ c.loop-first-test.false) in
    writes_stored (prefix_bytes x.bytes (prefixes_in all)) x.out.now
    (omega (arith, long x.r x.bytes c.requires c.count-n.result c.count-n.ensures, c.if-out-bytes.false)) c.count-n.result c.count-n.ensures
    (left_last left c.put_if-2.new.out no_more
    (c.put_if-2.ensures
    ∙ ap (λ (h : Bool). sets c.loop-first.out (size all * c.loop-first.from) (bytes_at all rest.bits (alone_if h rest.bits (value rest.range.low)))) there)
    ∙ ap (λ (m : ℕ). sets x.out.now 0 (prefix_bytes m (prefixes_in all))) (width x.r x.bytes c.requires))
