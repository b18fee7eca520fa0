-- `bits_of` meets its contract: a test more doubles the number, and adds its bit. Assumes nothing.
use native.Mathlib.Omega.{arith}
use Rattle.std.proofs.Common.{◌≡◌, ◌^◌, ◌<◌, ◌≤◌, [], ◌∷◌, ◌++◌, length, length-append, append_assoc, append-nil, refl, sym, ap, ◌∙◌}
use Rattle.base.specs.Truths.{bit}
use Rattle.base.specs.Bits.{bits_of}
use Rattle.base.proofs.Laws.Passing.{bit_le}
use Rattle.base.proofs.Laws.Bits.{bits_small}
use Rattle.base.proofs.Laws.Lists.{length_none}
use Rattle.kinds.specs.Kinds.{kind_count}
use Rattle.listing.proofs.marks.bits_of.Goals as goal
use Rattle.listing.proofs.marks.bits_of.Goals.{In-Some}

pub loop-h-init : goal.loop-h-init
unfolding bits_of
loop-h-init c =
    let e = ap (λ s. s.iter.rest.now) c.into_iter-h-iterator.ensures.into_iter_gives in
    let s = ap (λ i. i.rest.now) c.rev-h-items.ensures.source in
    ([], append-nil _ ∙ e ∙ s ∙ c.iter.ensures.rest, refl)

-- what is made of all tests but one is small
small : (c : In-Some) → c.loop-h.m < 2 ^ kind_count
small c =
    let i = c.loop-h.invariant in
    let n = ap length i.1 in
    let s = ap length c.in-Some.ensures.steps in
    rw (sym i.2) at
    (bits_small kind_count i.0
    (omega (arith, length-append c.loop-h.h-iterator.iter.rest.now i.0, length-append c.next.new.self.iter.rest.now (c.in-Some.h.now ∷ []))))

pub overflow_mul-m : goal.overflow_mul-m
overflow_mul-m c = let h = small c in omega arith

pub overflow_add-m : goal.overflow_add-m
overflow_add-m c =
    let h = small (goal.at.overflow_add-m c).In-Some in
    let b : c.from.result ≤ 1 = rw c.from.ensures (bit_le c.in-Some.h.now) in
    omega arith

pub loop-h-preserved : goal.loop-h-preserved
unfolding bits_of
loop-h-preserved c =
    let i = c.loop-h.invariant in
    let b : c.from.result ≡ bit c.in-Some.h.now = c.from.ensures in (
      c.in-Some.h.now ∷ i.0,
      sym (append_assoc c.next.new.self.iter.rest.now (c.in-Some.h.now ∷ []) i.0) ∙ ap (λ l. l ++ i.0) (sym c.in-Some.ensures.steps) ∙ i.1,
      omega (arith, i.2),
    )

pub returns : goal.returns
returns c =
    let i = c.loop-h.invariant in
    i.2 ∙ ap bits_of (ap (λ l. l ++ i.0) (sym (length_none c.loop-h.h-iterator.iter.rest.now c.in-None.ensures.steps.0)) ∙ i.1)
