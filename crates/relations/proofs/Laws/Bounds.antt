-- Document 02, [2]: the least that is ⪰ two things.
--   lowest_here, lowest_top, lowest_next: the lowest entity ⪰ two, a step at a time
--   lowest_least: it is the least that is ⪰ both, where they have one root; lowest-swap, lowest-itself
--   larger_least: so is the larger of each coefficient; larger-at, larger-swap, larger-itself
--   hull_least: so is the hull of two selectors, over packets; hull-swap, hull-itself; hull-ordered, hull-fits: it keeps the rules of both
-- Assumes nothing.
use mathlib.Core.Path.{◌≡◌, refl, sym, ap, ◌∙◌}
use mathlib.Core.Logic.{inl, inr}
use mathlib.Core.Bool.{Bool, true, false}
use mathlib.Core.List.{List, [], ◌∷◌}
use Prim.Native.Nat.{ℕ, zero, suc, min, max}
use native.Mathlib.Omega.{arith}
use lib.ListN.{length, get_or}
use Rattle.policy.specs.Model.{no_parent, Coefficients, Range, Selector}
use Rattle.policy.specs.Wellformed.{Ordered, Fits}
use Rattle.base.specs.Truths.{pick}
use Rattle.base.specs.Bounds.{LeastAbove}
use Rattle.base.proofs.Laws.Pairs.{combined_length, combined_swap, combined_itself}
use Rattle.base.proofs.Laws.Bounds.{least_swap, least_one}
use Rattle.relations.specs.Entities.{Tree, ancestors, upward, root_of, AtOrAbove, at_or_above, first_above, lowest_above}
use Rattle.relations.specs.Coefficients.{AtLeast, larger}
use Rattle.relations.specs.Ranges.{hull_range}
use Rattle.relations.specs.Selectors.{Holds, Contains, lows, hull}
use Rattle.relations.proofs.Laws.Entities.{above_self, at_or_above_decides, ancestors_root, ancestors_next, downward, above_next, above_cases, above_antisym, root_top, root_next, root_above}
use Rattle.relations.proofs.Laws.Selectors.{lows_in, contains_fields}

-- ---- entities

module _ (up : ℕ → ℕ) (tree : Tree up) (f : ℕ) where
  pub lowest_here : (e : ℕ) → at_or_above up e f ≡ true → lowest_above up e f ≡ e
  unfolding lowest_above first_above ancestors upward
  lowest_here e h = rw h

  pub lowest_top : (e : ℕ) → up e ≡ no_parent → lowest_above up e f ≡ e
  unfolding lowest_above first_above
  lowest_top e r = ap (first_above up f e) (ancestors_root up e r) ∙ either (at_or_above up e f)
    where
      either : (b : Bool) → pick b e e ≡ e
      either true = refl
      either false = refl

  -- Some entity is the first, so that the other number does not count.
  first_any : (d e : ℕ) → first_above up f d (ancestors up e) ≡ first_above up f e (ancestors up e)
  unfolding first_above ancestors upward
  first_any d e = refl

  pub lowest_next : (e : ℕ) → at_or_above up e f ≡ false → (up e ≡ no_parent → ⊥) → lowest_above up e f ≡ lowest_above up (up e) f
  unfolding lowest_above first_above
  lowest_next e h r =
      ap (first_above up f e) (ancestors_next up tree e r)
      ∙ ap (λ b. pick b e (first_above up f e (ancestors up (up e)))) h
      ∙ first_any e (up e)

  pub lowest_least : (e : ℕ) → root_of up e ≡ root_of up f → LeastAbove (AtOrAbove up) e f (lowest_above up e f)
  lowest_least = downward up tree (λ e. root_of up e ≡ root_of up f → LeastAbove (AtOrAbove up) e f (lowest_above up e f)) top below
    where
      own : (e : ℕ) → AtOrAbove up e f → LeastAbove (AtOrAbove up) e f e
      own e h = record { first = above_self up e; second = h; least = λ z a b. a }

      top : (e : ℕ) → up e ≡ no_parent → root_of up e ≡ root_of up f → LeastAbove (AtOrAbove up) e f (lowest_above up e f)
      top e r q = rw (lowest_top e r) (own e (rw (sym q ∙ root_top up tree e r) at (root_above up tree f)))

      below : (e : ℕ) → (up e ≡ no_parent → ⊥) → (root_of up (up e) ≡ root_of up f → LeastAbove (AtOrAbove up) (up e) f (lowest_above up (up e) f))
          → root_of up e ≡ root_of up f → LeastAbove (AtOrAbove up) e f (lowest_above up e f)
      below e r next q = go (at_or_above up e f) refl
        where
          go : (b : Bool) → at_or_above up e f ≡ b → LeastAbove (AtOrAbove up) e f (lowest_above up e f)
          go true h = rw (lowest_here e h) (own e ((at_or_above_decides up e f).yes h))
          go false h =
              let n = next (sym (root_next up tree e r) ∙ q) in
              rw (lowest_next e h r)
              (record {
                first = above_next up tree (lowest_above up (up e) f) e r n.first;
                second = n.second;
                least = λ z a b.
                    elim (above_cases up tree z e a) [
                      | inl s ↦ absurd ((at_or_above_decides up e f).no h (rw s at b))
                      | inr s ↦ n.least z s.1 b
                    ];
              })

module _ (up : ℕ → ℕ) (tree : Tree up) where
  pub lowest_swap : (e f : ℕ) → root_of up e ≡ root_of up f → lowest_above up e f ≡ lowest_above up f e
  lowest_swap e f q =
      least_one (AtOrAbove up) (above_antisym up tree) (lowest_least up tree f e q)
      (least_swap (AtOrAbove up) (lowest_least up tree e f (sym q)))

  pub lowest_itself : (e : ℕ) → lowest_above up e e ≡ e
  lowest_itself e =
      least_one (AtOrAbove up) (above_antisym up tree) (lowest_least up tree e e refl)
      (record { first = above_self up e; second = above_self up e; least = λ z a b. a })

-- ---- coefficients

pub larger_at : (c d : Coefficients) → length c ≡ length d → (k : ℕ) → get_or (larger c d) k 0 ≡ max (get_or c k 0) (get_or d k 0)
unfolding larger
larger_at [] [] e k = refl
larger_at [] (y ∷ d) e k = absurd (omega arith)
larger_at (x ∷ c) [] e k = absurd (omega arith)
larger_at (x ∷ c) (y ∷ d) e zero = refl
larger_at (x ∷ c) (y ∷ d) e (suc k) = larger_at c d (omega arith) k

module _ (c d : Coefficients) where
  pub larger_length : length c ≡ length d → length (larger c d) ≡ length c
  unfolding larger
  larger_length = combined_length max c d

  pub larger_swap : larger c d ≡ larger d c
  unfolding larger
  larger_swap = combined_swap max (λ x y. omega arith) c d

  pub larger_least : length c ≡ length d → LeastAbove AtLeast c d (larger c d)
  larger_least e =
      record {
        first = record { count = larger_length e; none_smaller = λ k h. omega (arith, larger_at c d e k) };
        second = record { count = larger_length e ∙ e; none_smaller = λ k h. omega (arith, larger_at c d e k) };
        least = λ z a b. record {
          count = a.count ∙ sym (larger_length e);
          none_smaller = λ k h. omega (arith, larger_at c d e k, a.none_smaller k, b.none_smaller k);
        };
      }

pub larger_itself : (c : Coefficients) → larger c c ≡ c
unfolding larger
larger_itself = combined_itself max (λ x. omega arith)

-- ---- selectors

range_swap : (r q : Range) → hull_range r q ≡ hull_range q r
range_swap r q =
    let l : min r.low q.low ≡ min q.low r.low = omega arith in
    let h : max r.high q.high ≡ max q.high r.high = omega arith in
    λ i. record { low = l i; high = h i }

range_itself : (r : Range) → hull_range r r ≡ r
range_itself r =
    let l : min r.low r.low ≡ r.low = omega arith in
    let h : max r.high r.high ≡ r.high = omega arith in
    λ i. record { low = l i; high = h i }

pub hull_swap : (s1 s2 : Selector) → hull s1 s2 ≡ hull s2 s1
unfolding hull
hull_swap = combined_swap hull_range range_swap

pub hull_itself : (s : Selector) → hull s s ≡ s
unfolding hull
hull_itself = combined_itself hull_range range_itself

-- A packet of the first is in the hull.
hull_first : (s1 s2 : Selector) → length s1 ≡ length s2 → Contains (hull s1 s2) s1
unfolding hull Holds
hull_first [] s2 e p h = h
hull_first (r ∷ s1) [] e p h = absurd (omega arith)
hull_first (r ∷ s1) (q ∷ s2) e [] h = h
hull_first (r ∷ s1) (q ∷ s2) e (x ∷ p) h =
    let w = h.0 in
    (record { low = omega arith; high = omega arith }, hull_first s1 s2 (omega arith) p h.1)

-- What contains both contains the hull.
hull_smallest : (s1 s2 z : Selector) → Ordered s1 → Ordered s2 → Contains z s1 → Contains z s2 → Contains z (hull s1 s2)
unfolding hull Holds
hull_smallest [] s2 z o1 o2 a b p h = a p h
hull_smallest (r ∷ s1) [] z o1 o2 a b p h = b p h
hull_smallest (r ∷ s1) (q ∷ s2) [] o1 o2 a b p h = absurd (a (lows (r ∷ s1)) (lows_in (r ∷ s1) o1))
hull_smallest (r ∷ s1) (q ∷ s2) (y ∷ z) o1 o2 a b [] h = h
hull_smallest (r ∷ s1) (q ∷ s2) (y ∷ z) o1 o2 a b (x ∷ p) h =
    let c = contains_fields y r z s1 o1 a in
    let d = contains_fields y q z s2 o2 b in
    let w = h.0 in
    (record { low = omega (arith, c.0, d.0); high = omega (arith, c.0, d.0) }, hull_smallest s1 s2 z o1.1 o2.1 c.1 d.1 p h.1)

pub hull_least : (s1 s2 : Selector) → length s1 ≡ length s2 → Ordered s1 → Ordered s2 → LeastAbove Contains s1 s2 (hull s1 s2)
hull_least s1 s2 e o1 o2 =
    record {
      first = hull_first s1 s2 e;
      second = rw (hull_swap s1 s2) (hull_first s2 s1 (sym e));
      least = λ z a b. hull_smallest s1 s2 z o1 o2 a b;
    }

pub hull_ordered : (s1 s2 : Selector) → Ordered s1 → Ordered s2 → Ordered (hull s1 s2)
unfolding hull
hull_ordered [] s2 o1 o2 = tt
hull_ordered (r ∷ s1) [] o1 o2 = tt
hull_ordered (r ∷ s1) (q ∷ s2) o1 o2 = let a = o1.0 in let b = o2.0 in (omega arith, hull_ordered s1 s2 o1.1 o2.1)

pub hull_fits : (ws : List ℕ) (s1 s2 : Selector) → Fits ws s1 → Fits ws s2 → Fits ws (hull s1 s2)
unfolding hull
hull_fits [] [] [] a b = tt
hull_fits [] [] (q ∷ s2) a b = absurd b
hull_fits [] (r ∷ s1) s2 a b = absurd a
hull_fits (w ∷ ws) [] s2 a b = absurd a
hull_fits (w ∷ ws) (r ∷ s1) [] a b = absurd b
hull_fits (w ∷ ws) (r ∷ s1) (q ∷ s2) a b = let x = a.0 in let y = b.0 in (omega arith, hull_fits ws s1 s2 a.1 b.1)
