-- Laws of selectors, for any number of fields. Each test is true exactly when the meaning holds: a packet in a selector, ⪰,
-- overlap, some packet in a selector, several selectors that meet, the same selector. ⪰ both ways. Source and
-- destination exchanged. Each relation by the packets of the lows and of the highs.
-- Assumes nothing.
use mathlib.Core.Path.{◌≡◌, refl, sym, ap, ◌∙◌}
use mathlib.Core.Logic.{◌↔◌, inl, inr}
use mathlib.Core.Bool.{true, ◌&&◌, and-eq-true_iff}
use mathlib.Core.List.Memᴰ
use mathlib.Core.List.{List, [], ◌∷◌, map-id, Memᴰ}
use Prim.Native.Nat.{ℕ, suc, ◌≤◌, max}
use native.Mathlib.Omega.{arith}
use borrow.Author.Tests.{leb-true}
use lib.Dec.{leb, eqb}
use lib.ListN.{length}
use Rattle.policy.specs.Model.{Range, Selector, Packet}
use Rattle.policy.specs.Wellformed.{Ordered}
use Rattle.base.specs.Truths.{Decides}
use Rattle.relations.specs.Ranges.{Within, within, contains_range, overlaps_range, inhabited_range, same_range}
use Rattle.base.specs.Pairs.{Pairwise}
use Rattle.relations.specs.Selectors.{lows, highs, none_above, Holds, holds, Contains, contains, Overlap, overlaps, Inhabited, inhabited, meet, meet_all, MeetAll, exchange, same_selector}
use Rattle.base.proofs.Laws.Decides.{decides_true, decides_false, decides_as, decides_leb, decides_eqb, decides_and}
use Rattle.base.proofs.Laws.Firsts.{decides_once}
use Rattle.base.proofs.Laws.Pairs.{pairwise_decides, pairwise_both, pairwise_map}

-- ---- a packet in a selector

pub within_decides : (r : Range) (x : ℕ) → Decides (within r x) (Within r x)
within_decides r x =
    decides_as (λ h. record { low = h.0; high = h.1 }) (λ w. (w.low, w.high))
    (decides_and (leb r.low x) (leb x r.high) (decides_leb r.low x) (decides_leb x r.high))

-- A packet in a selector, field by field.
module _ (r : Range) (s : Selector) (x : ℕ) (p : Packet) where
  pub holds_both : Within r x → Holds s p → Holds (r ∷ s) (x ∷ p)
  unfolding Holds
  holds_both w h = (w, h)

  pub holds_first : Holds (r ∷ s) (x ∷ p) → Within r x
  unfolding Holds
  holds_first h = h.0

  pub holds_rest : Holds (r ∷ s) (x ∷ p) → Holds s p
  unfolding Holds
  holds_rest h = h.1

pub holds_nothing : Holds [] []
unfolding Holds
holds_nothing = tt

pub not_longer : (x : ℕ) (p : Packet) → Holds [] (x ∷ p) → ⊥
unfolding Holds
not_longer x p h = h

pub not_shorter : (r : Range) (s : Selector) → Holds (r ∷ s) [] → ⊥
unfolding Holds
not_shorter r s h = h

pub holds_decides : (s : Selector) (p : Packet) → Decides (holds s p) (Holds s p)
unfolding holds Holds
holds_decides = pairwise_decides within Within within_decides

-- A packet has as many fields as the selector that it is in.
pub holds_length : (s : Selector) (p : Packet) → Holds s p → length p ≡ length s
unfolding Holds
holds_length [] [] h = refl
holds_length [] (x ∷ p) h = absurd h
holds_length (r ∷ s) [] h = absurd h
holds_length (r ∷ s) (x ∷ p) h = ap suc (holds_length s p h.1)

-- The packet of the lows is in the selector, where no low is above its high.
pub lows_in : (s : Selector) → Ordered s → Holds s (lows s)
unfolding Holds
lows_in [] o = tt
lows_in (r ∷ s) o = (record { low = omega arith; high = o.0 }, lows_in s o.1)

-- ---- ⪰

-- Field by field.
pub contains_fields : (r q : Range) (s1 s2 : Selector) → Ordered (q ∷ s2) → Contains (r ∷ s1) (q ∷ s2)
    → ((r.low ≤ q.low) × (q.high ≤ r.high)) × Contains s1 s2
unfolding Holds
contains_fields r q s1 s2 o c =
    let b = lows_in s2 o.1 in
    let l = c (q.low ∷ lows s2) (record { low = omega arith; high = o.0 }, b) in
    let k = c (q.high ∷ lows s2) (record { low = o.0; high = omega arith }, b) in
    ((l.0.low, k.0.high), λ p m. (c (q.low ∷ p) (record { low = omega arith; high = o.0 }, m)).1)

contains_range_decides : (r q : Range) → Decides (contains_range r q) ((r.low ≤ q.low) × (q.high ≤ r.high))
contains_range_decides r q =
    decides_and (leb r.low q.low) (leb q.high r.high) (decides_leb r.low q.low) (decides_leb q.high r.high)

pub contains_decides : (s1 s2 : Selector) → Ordered s2 → Decides (contains s1 s2) (Contains s1 s2)
unfolding contains Holds
contains_decides [] [] o = decides_true (λ p h. h)
contains_decides [] (q ∷ s2) o = decides_false {P = Contains [] (q ∷ s2)} (λ c. c (lows (q ∷ s2)) (lows_in (q ∷ s2) o))
contains_decides (r ∷ s1) [] o = decides_false {P = Contains (r ∷ s1) []} (λ c. c [] tt)
contains_decides (r ∷ s1) (q ∷ s2) o =
    decides_as more (contains_fields r q s1 s2 o)
    (decides_and (contains_range r q) (contains s1 s2) (contains_range_decides r q) (contains_decides s1 s2 o.1))
  where
    more : ((r.low ≤ q.low) × (q.high ≤ r.high)) × Contains s1 s2 → Contains (r ∷ s1) (q ∷ s2)
    more h [] m = m
    more h (x ∷ p) m =
        let l = h.0.0 in
        let k = h.0.1 in
        let w = m.0 in
        (record { low = omega arith; high = omega arith }, h.1 p m.1)

-- Both ways: the same selector.
pub contains_antisym : (s1 s2 : Selector) → Ordered s1 → Ordered s2 → Contains s1 s2 → Contains s2 s1 → s1 ≡ s2
unfolding Holds
contains_antisym [] [] o1 o2 c d = refl
contains_antisym [] (q ∷ s2) o1 o2 c d = absurd (c (lows (q ∷ s2)) (lows_in (q ∷ s2) o2))
contains_antisym (r ∷ s1) [] o1 o2 c d = absurd (d (lows (r ∷ s1)) (lows_in (r ∷ s1) o1))
contains_antisym (r ∷ s1) (q ∷ s2) o1 o2 c d =
    let a = contains_fields r q s1 s2 o2 c in
    let b = contains_fields q r s2 s1 o1 d in
    let l : r.low ≡ q.low = omega (arith, a.0.0, b.0.0) in
    let h : r.high ≡ q.high = omega (arith, a.0.1, b.0.1) in
    let e = contains_antisym s1 s2 o1.1 o2.1 a.1 b.1 in
    λ i. record { low = l i; high = h i } ∷ e i

-- ---- overlap

-- No packet has both no field and one.
no_fields : (q : Range) (s : Selector) (p : Packet) → Holds [] p → Holds (q ∷ s) p → ⊥
unfolding Holds
no_fields q s [] h k = k
no_fields q s (x ∷ p) h k = h

pub overlaps_decides : (s1 s2 : Selector) → Ordered s1 → Ordered s2 → Decides (overlaps s1 s2) (Overlap s1 s2)
unfolding overlaps Holds
overlaps_decides [] [] o1 o2 = decides_true ([], tt, tt)
overlaps_decides [] (q ∷ s2) o1 o2 = decides_false (λ c. no_fields q s2 c.0 c.1 c.2)
overlaps_decides (r ∷ s1) [] o1 o2 = decides_false (λ c. no_fields r s1 c.0 c.2 c.1)
overlaps_decides (r ∷ s1) (q ∷ s2) o1 o2 =
    decides_as more less
    (decides_and (overlaps_range r q) (overlaps s1 s2)
    (decides_and (leb r.low q.high) (leb q.low r.high) (decides_leb r.low q.high) (decides_leb q.low r.high))
    (overlaps_decides s1 s2 o1.1 o2.1))
  where
    more : ((r.low ≤ q.high) × (q.low ≤ r.high)) × Overlap s1 s2 → Overlap (r ∷ s1) (q ∷ s2)
    more h =
        let a = h.0.0 in
        let b = h.0.1 in
        let c = o1.0 in
        let d = o2.0 in (
          max r.low q.low ∷ h.1.0,
          (record { low = omega arith; high = omega arith }, h.1.1),
          (record { low = omega arith; high = omega arith }, h.1.2),
        )

    both : (p : Packet) → Holds (r ∷ s1) p → Holds (q ∷ s2) p → ((r.low ≤ q.high) × (q.low ≤ r.high)) × Overlap s1 s2
    both [] h k = absurd h
    both (x ∷ p) h k = let a = h.0 in let b = k.0 in ((omega arith, omega arith), (p, h.1, k.1))

    less : Overlap (r ∷ s1) (q ∷ s2) → ((r.low ≤ q.high) × (q.low ≤ r.high)) × Overlap s1 s2
    less c = both c.0 c.1 c.2

-- ---- some packet in a selector

pub ordered_inhabited : (s : Selector) → Ordered s → Inhabited s
ordered_inhabited s o = (lows s, lows_in s o)

pub inhabited_decides : (s : Selector) → Decides (inhabited s) (Inhabited s)
unfolding inhabited Holds
inhabited_decides [] = decides_true ([], tt)
inhabited_decides (r ∷ s) =
    decides_as more less
    (decides_and (inhabited_range r) (inhabited s) (decides_leb r.low r.high) (inhabited_decides s))
  where
    more : (r.low ≤ r.high) × Inhabited s → Inhabited (r ∷ s)
    more h = (r.low ∷ h.1.0, (record { low = omega arith; high = h.0 }, h.1.1))

    in_field : (p : Packet) → Holds (r ∷ s) p → (r.low ≤ r.high) × Inhabited s
    in_field [] h = absurd h
    in_field (x ∷ p) h = let w = h.0 in (omega arith, (p, h.1))

    less : Inhabited (r ∷ s) → (r.low ≤ r.high) × Inhabited s
    less c = in_field c.0 c.1

pub inhabited_ordered : (s : Selector) → inhabited s ≡ true → Ordered s
unfolding inhabited
inhabited_ordered [] h = tt
inhabited_ordered (r ∷ s) h =
    let all = (and-eq-true_iff (inhabited_range r) (inhabited s)).0 h in
    (leb-true r.low r.high all.0, inhabited_ordered s all.1)

-- ---- several selectors that meet

pub meet_length : (s1 s2 : Selector) → length s2 ≡ length s1 → length (meet s1 s2) ≡ length s1
unfolding meet
meet_length [] s2 e = refl
meet_length (r ∷ s1) [] e = absurd (omega arith)
meet_length (r ∷ s1) (q ∷ s2) e = ap suc (meet_length s1 s2 (omega arith))

-- A packet is in the meeting of two selectors exactly when it is in both.
pub meet_holds : (s1 s2 : Selector) (p : Packet) → length s2 ≡ length s1 → Holds (meet s1 s2) p ↔ (Holds s1 p × Holds s2 p)
unfolding meet Holds
meet_holds [] [] [] e = (λ h. (tt, tt), λ h. tt)
meet_holds [] [] (x ∷ p) e = (λ h. absurd h, λ h. absurd h.0)
meet_holds [] (q ∷ s2) p e = absurd (omega arith)
meet_holds (r ∷ s1) [] p e = absurd (omega arith)
meet_holds (r ∷ s1) (q ∷ s2) [] e = (λ h. absurd h, λ h. absurd h.0)
meet_holds (r ∷ s1) (q ∷ s2) (x ∷ p) e =
    let rest = meet_holds s1 s2 p (omega arith) in (
      λ h.
          let w = h.0 in
          let k = rest.0 h.1 in (
            (record { low = omega arith; high = omega arith }, k.0),
            (record { low = omega arith; high = omega arith }, k.1),
          ),
      λ h.
          let a = h.0.0 in
          let b = h.1.0 in
          (record { low = omega arith; high = omega arith }, rest.1 (h.0.1, h.1.1)),
    )

-- One selector more: a packet of all lies in the meeting of the first two.
module _ (s q : Selector) (ss : List Selector) (same : length q ≡ length s) where
  pub meet_all_more : MeetAll (meet s q) ss → MeetAll s (q ∷ ss)
  meet_all_more h =
      let b = (meet_holds s q h.0 same).0 h.1 in
      (h.0, b.0, λ x m. elim (Memᴰ.cases_cons m) [ inl e ↦ rw e b.1 | inr k ↦ h.2 x k ])

  pub meet_all_less : MeetAll s (q ∷ ss) → MeetAll (meet s q) ss
  meet_all_less h =
      (h.0, (meet_holds s q h.0 same).1 (h.1, h.2 q (Memᴰ.head refl)), λ x m. h.2 x (Memᴰ.tail m))

pub meet_all_decides : (s : Selector) (ss : List Selector) → ((q : Selector) → Memᴰ q ss → length q ≡ length s)
    → Decides (inhabited (meet_all s ss)) (MeetAll s ss)
unfolding meet_all
meet_all_decides s [] n = decides_as (λ h. (h.0, h.1, λ q m. absurd (Memᴰ.not-nil m))) (λ h. (h.0, h.1)) (inhabited_decides s)
meet_all_decides s (q ∷ ss) n =
    let same = n q (Memᴰ.head refl) in
    decides_as (meet_all_more s q ss same) (meet_all_less s q ss same)
    (meet_all_decides (meet s q) ss (λ x m. n x (Memᴰ.tail m) ∙ sym (meet_length s q same)))

-- ---- exchanged, and the same

pub exchange_twice : {A : Type 0} (l : List A) → exchange (exchange l) ≡ l
unfolding exchange
exchange_twice [] = refl
exchange_twice (x ∷ []) = refl
exchange_twice (x ∷ y ∷ l) = ap (λ m. x ∷ y ∷ m) (exchange_twice l)

-- Of five fields: addresses and ports are exchanged, the protocol stays.
pub exchange_five : {A : Type 0} (a b c d e : A) → exchange (a ∷ b ∷ c ∷ d ∷ e ∷ []) ≡ b ∷ a ∷ d ∷ c ∷ e ∷ []
unfolding exchange
exchange_five a b c d e = refl

-- A packet with source and destination exchanged is in the selector so exchanged.
pub exchange_holds : (s : Selector) (p : Packet) → Holds s p → Holds (exchange s) (exchange p)
unfolding exchange Holds
exchange_holds [] [] h = tt
exchange_holds [] (x ∷ p) h = absurd h
exchange_holds (r ∷ s) [] h = absurd h
exchange_holds (r ∷ []) (x ∷ []) h = h
exchange_holds (r ∷ []) (x ∷ y ∷ p) h = absurd h.1
exchange_holds (r ∷ q ∷ s) (x ∷ []) h = absurd h.1
exchange_holds (r ∷ q ∷ s) (x ∷ y ∷ p) h = (h.1.0, (h.0, exchange_holds s p h.1.1))

abbrev SameRanges : Range → Range → Type 0
SameRanges r q = (r.low ≡ q.low) × (r.high ≡ q.high)

same_range_decides : (r q : Range) → Decides (same_range r q) (SameRanges r q)
same_range_decides r q =
    decides_and (eqb r.low q.low) (eqb r.high q.high) (decides_eqb r.low q.low) (decides_eqb r.high q.high)

pub same_selector_decides : (s1 s2 : Selector) → Decides (same_selector s1 s2) (s1 ≡ s2)
unfolding same_selector
same_selector_decides s1 s2 =
    decides_as (all s1 s2) (λ e. rw (← e) (itself s1)) (pairwise_decides same_range SameRanges same_range_decides s1 s2)
  where
    all : (s1 s2 : Selector) → Pairwise SameRanges s1 s2 → s1 ≡ s2
    all [] [] h = refl
    all [] (q ∷ s2) h = absurd h
    all (r ∷ s1) [] h = absurd h
    all (r ∷ s1) (q ∷ s2) h = let e = all s1 s2 h.1 in λ i. record { low = h.0.0 i; high = h.0.1 i } ∷ e i

    itself : (s : Selector) → Pairwise SameRanges s s
    itself [] = tt
    itself (r ∷ s) = ((refl, refl), itself s)

-- ---- the relations by the packets of the lows and of the highs

pub holds_ends : (s : Selector) (p : Packet) → holds s p ≡ (none_above (lows s) p && none_above p (highs s))
unfolding holds
holds_ends s p =
    pairwise_both within (λ r x. leb r.low x) (λ x r. leb x r.high) (λ r x. refl) s p
    ∙ rw (pairwise_map leb (λ r. r.low) (λ x. x) s p, pairwise_map leb (λ x. x) (λ r. r.high) p s, map-id)

pub inhabited_ends : (s : Selector) → inhabited s ≡ none_above (lows s) (highs s)
unfolding inhabited
inhabited_ends [] = refl
inhabited_ends (r ∷ s) = rw (inhabited_ends s)

module _ (s1 s2 : Selector) where
  pub contains_ends : contains s1 s2 ≡ (none_above (lows s1) (lows s2) && none_above (highs s2) (highs s1))
  unfolding contains
  contains_ends =
      pairwise_both contains_range (λ r q. leb r.low q.low) (λ q r. leb q.high r.high) (λ r q. refl) s1 s2
      ∙ rw (pairwise_map leb (λ r. r.low) (λ q. q.low) s1 s2, pairwise_map leb (λ q. q.high) (λ r. r.high) s2 s1)

  pub overlaps_ends : overlaps s1 s2 ≡ (none_above (lows s1) (highs s2) && none_above (lows s2) (highs s1))
  unfolding overlaps
  overlaps_ends =
      pairwise_both overlaps_range (λ r q. leb r.low q.high) (λ q r. leb q.low r.high) (λ r q. refl) s1 s2
      ∙ rw (pairwise_map leb (λ r. r.low) (λ q. q.high) s1 s2, pairwise_map leb (λ q. q.low) (λ r. r.high) s2 s1)

  -- The same selector, where each contains the other.
  pub same_contains : same_selector s1 s2 ≡ (contains s1 s2 && contains s2 s1)
  unfolding same_selector contains
  same_contains = pairwise_both same_range contains_range contains_range both_ways s1 s2
    where
      both_ways : (r q : Range) → same_range r q ≡ (contains_range r q && contains_range q r)
      both_ways r q =
          decides_once (same_range r q) (contains_range r q && contains_range q r) (same_range_decides r q)
          (decides_as
          (λ h. let x = h.0 in let y = h.1 in (omega (arith, x.0, y.0), omega (arith, x.1, y.1)))
          (λ h. ((omega (arith, h.0), omega (arith, h.1)), (omega (arith, h.0), omega (arith, h.1))))
          (decides_and (contains_range r q) (contains_range q r) (contains_range_decides r q) (contains_range_decides q r)))
