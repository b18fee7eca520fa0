-- Selectors, packets and cells field by field, for any number of fields.
-- Assumes nothing.
use Prim.Native.Nat.{ℕ, zero, suc, ◌≤◌, ◌<◌}
use mathlib.Core.Path.{◌≡◌, sym, subst}
use mathlib.Core.Logic.{◌⊎◌, inl, inr}
use mathlib.Core.List.{List, [], ◌∷◌}
use native.Mathlib.Decide.{dec_lt}
use native.Mathlib.Omega.{arith}
use lib.ListN.{length, get_or}
use Rattle.base.specs.Lists.{tabulate}
use Rattle.base.proofs.Laws.Lists.{length_tabulate, get_d_tabulate}
use Rattle.policy.specs.Model.{Range, Selector, Packet, no_range}
use Rattle.policy.specs.Wellformed.{Ordered}
use Rattle.relations.specs.Ranges.{Within}
use Rattle.relations.specs.Selectors.{Holds}
use Rattle.relations.proofs.Laws.Selectors.{holds_both, holds_first, holds_rest, holds_nothing, not_longer, not_shorter}
use Rattle.covers.specs.Least.{◌≤ₚ◌, done, less, same}

-- ---- a selector and a packet

-- The packet is in the selector exactly when each number is in its range.
module _ (r : ℕ → Range) (n : ℕ) where
  pub holds_field : (p : Packet) → Holds (tabulate r n) p → (f : ℕ) → f < n → Within (r f) (get_or p f 0)
  holds_field p h f l = subst (λ (q : Range). Within q (get_or p f 0)) (get_d_tabulate r n f no_range l) (go (tabulate r n) p h f)
    where
      go : (s : Selector) (p : Packet) → Holds s p → (f : ℕ) → Within (get_or s f no_range) (get_or p f 0)
      go [] [] h f = record { low = omega arith; high = omega arith }
      go [] (x ∷ p) h f = absurd (not_longer x p h)
      go (q ∷ s) [] h f = absurd (not_shorter q s h)
      go (q ∷ s) (x ∷ p) h zero = holds_first q s x p h
      go (q ∷ s) (x ∷ p) h (suc f) = go s p (holds_rest q s x p h) f

  pub fields_hold : (p : Packet) → length p ≡ n → ((f : ℕ) → f < n → Within (r f) (get_or p f 0)) → Holds (tabulate r n) p
  fields_hold p e h =
      go (tabulate r n) p (let l = length_tabulate r n in omega arith)
      (λ f l. let k : f < n = omega (arith, length_tabulate r n) in subst (λ (q : Range). Within q (get_or p f 0)) (sym (get_d_tabulate r n f no_range k)) (h f k))
    where
      go : (s : Selector) (p : Packet) → length p ≡ length s → ((f : ℕ) → f < length s → Within (get_or s f no_range) (get_or p f 0)) → Holds s p
      go [] [] e h = holds_nothing
      go [] (x ∷ p) e h = absurd (omega arith)
      go (q ∷ s) [] e h = absurd (omega arith)
      go (q ∷ s) (x ∷ p) e h = holds_both q s x p (h 0 (omega arith)) (go s p (omega arith) (λ f l. h (suc f) (omega arith)))

  -- None of its lows is above the high.
  pub ordered_field : Ordered (tabulate r n) → (f : ℕ) → f < n → (r f).low ≤ (r f).high
  ordered_field o f l =
      subst (λ (q : Range). q.low ≤ q.high) (get_d_tabulate r n f no_range l) (go (tabulate r n) o f)
    where
      go : (s : Selector) → Ordered s → (f : ℕ) → (get_or s f no_range).low ≤ (get_or s f no_range).high
      go [] o f = omega arith
      go (q ∷ s) o zero = o.0
      go (q ∷ s) o (suc f) = go s o.1 f

-- ---- two packets

-- A packet that is not above another in the first f fields, and then smaller or at its end, is at most the other.
pub lower_most : (p q : Packet) (f : ℕ) → length p ≡ length q → f ≤ length p → ((g : ℕ) → g < f → get_or p g 0 ≤ get_or q g 0)
    → (f ≡ length p) ⊎ (get_or p f 0 < get_or q f 0) → p ≤ₚ q
lower_most [] [] f e l h k = done
lower_most [] (y ∷ q) f e l h k = absurd (omega arith)
lower_most (x ∷ p) [] f e l h k = absurd (omega arith)
lower_most (x ∷ p) (y ∷ q) zero e l h (inl k) = absurd (omega arith)
lower_most (x ∷ p) (y ∷ q) zero e l h (inr k) = less k
lower_most (x ∷ p) (y ∷ q) (suc f) e l h k = elim (dec_lt x y) [
  | yes a ↦ less a
  | no a ↦
      let b : x ≤ y = h 0 (omega arith) in
      let d : x ≡ y = omega arith in
      same d (lower_most p q f (omega arith) (omega arith) (λ g m. h (suc g) (omega arith)) (later k))
]
  where
    later : (suc f ≡ length (x ∷ p)) ⊎ (get_or p f 0 < get_or q f 0) → (f ≡ length p) ⊎ (get_or p f 0 < get_or q f 0)
    later (inl e) = inl (omega arith)
    later (inr l) = inr l

-- ---- a list of numbers, one for each field

pub choose : (P : ℕ → ℕ → Type 0) (n : ℕ) → ((f : ℕ) → f < n → (i : ℕ) × P f i) → (c : List ℕ) × ((f : ℕ) → f < n → P f (get_or c f 0))
choose P zero h = ([], λ f l. absurd (omega arith))
choose P (suc n) h =
    let i = h 0 (omega arith) in
    let c = choose (λ f. P (suc f)) n (λ f l. h (suc f) (omega arith)) in
    (i.0 ∷ c.0, each i.0 c.0 i.1 c.1)
  where
    each : (i : ℕ) (c : List ℕ) → P 0 i → ((f : ℕ) → f < n → P (suc f) (get_or c f 0)) → (f : ℕ) → f < suc n → P f (get_or (i ∷ c) f 0)
    each i c p more zero l = p
    each i c p more (suc f) l = more f (omega arith)
