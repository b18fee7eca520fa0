-- Laws of the derived `==` of numbers, ranges and selectors:
--   number_same, range_same, selector_same: what it answers
--   number_decides, range_decides, selector_decides: it is true exactly where the values are the same
-- Assumes nothing.
use mathlib.Core.Path.{◌≡◌, ap}
use mathlib.Core.Bool.{Bool, ◌&&◌}
use Prim.Native.Nat.{ℕ}
use lib.Dec.{eqb}
use lib.ListN.{get_or}
use Rattle.base.specs.Truths.{Decides}
use Rattle.base.proofs.Laws.Decides.{decides_as, decides_and, decides_eqb}
use Rattle.policy.specs.Model.{Selector, no_range}
use Rattle.policy.specs.Views.{SelectorStruct, value, range_of, selector_of}
use Rattle.policy.specs.declared.number.Number.{Number as NumberStruct}
use Rattle.policy.specs.declared.selector.Range.{Range as RangeStruct}

-- ---- what it answers

abbrev pub number_same : NumberStruct → NumberStruct → Bool
number_same a b = eqb a.0 b.0

abbrev pub range_same : RangeStruct → RangeStruct → Bool
range_same a b = number_same a.low b.low && number_same a.high b.high

abbrev pub selector_same : SelectorStruct → SelectorStruct → Bool
selector_same a b =
    range_same a.source_address b.source_address
    && (range_same a.destination_address b.destination_address
    && (range_same a.source_port b.source_port
    && (range_same a.destination_port b.destination_port && range_same a.protocol b.protocol)))

-- ---- it is true exactly where the values are the same

pub number_decides : (a b : NumberStruct) → Decides (number_same a b) (value a ≡ value b)
unfolding value
number_decides a b = decides_eqb a.0 b.0

pub range_decides : (a b : RangeStruct) → Decides (range_same a b) (range_of a ≡ range_of b)
range_decides a b =
    decides_as (λ e i. record { low = e.0 i; high = e.1 i })
    (λ e. (ap (λ r. r.low) e, ap (λ r. r.high) e))
    (decides_and _ _ (number_decides a.low b.low) (number_decides a.high b.high))

pub selector_decides : (a b : SelectorStruct) → Decides (selector_same a b) (selector_of a ≡ selector_of b)
selector_decides a b =
    decides_as (λ e. rw (e.0, e.1.0, e.1.1.0, e.1.1.1.0, e.1.1.1.1))
    (λ e. let at = λ (f : ℕ). ap (λ (s : Selector). get_or s f no_range) e in (at 0, (at 1, (at 2, (at 3, at 4)))))
    (decides_and _ _ (range_decides a.source_address b.source_address)
    (decides_and _ _ (range_decides a.destination_address b.destination_address)
    (decides_and _ _ (range_decides a.source_port b.source_port)
    (decides_and _ _ (range_decides a.destination_port b.destination_port) (range_decides a.protocol b.protocol)))))
