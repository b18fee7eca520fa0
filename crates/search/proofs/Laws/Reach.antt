-- Laws of the loops over a set of boxes that look for the least high, and for the box that reaches furthest.
-- Assumes nothing.
use Prim.Native.Nat.{ℕ, ◌^◌, ◌≤◌, min}
use mathlib.Core.Path.{◌≡◌, refl}
use mathlib.Core.Logic.{◌⊎◌, inr}
use native.Mathlib.Decide.{dec_lt}
use native.Mathlib.Omega.{arith}
use Rattle.std.specs.Prelude.{Option, Some, None}
use Rattle.policy.specs.Model.{Range}
use Rattle.relations.specs.Ranges.{Within}
use Rattle.covers.specs.Sets.{In, FirstOf}
use Rattle.covers.proofs.Laws.Sets.{Left, next_in, seen_next}
use Rattle.search.specs.Covers.{Holding}

module _ (high : ℕ → ℕ) (set : ℕ) where
  -- Of those that were looked at.
  pub record ReachesBefore (top m rest : ℕ) : Type 0 where
    pub most : m ≤ top
    pub each : (i : ℕ) → In set i → (In rest i → ⊥) → m ≤ high i
    pub reached : (m ≡ top) ⊎ ((i : ℕ) × In set i × (m ≡ high i))

  -- One box more.
  module _ (rest j left : ℕ) (l : Left set rest) (n : FirstOf rest j left) where
    pub reaches_next : (top m : ℕ) → ReachesBefore top m rest → ReachesBefore top (min (high j) m) left
    reaches_next top m r = record {
      most = let a = r.most in omega arith;
      each = seen_next set rest j left l n (λ i. min (high j) m ≤ high i) (λ i h o. let a = r.each i h o in omega arith) (omega arith);
      reached = elim (dec_lt (high j) m) [
        | yes a ↦ inr (j, next_in set rest j left l n, omega arith)
        | no a ↦ let q : min (high j) m ≡ m = omega arith in rw q r.reached
      ];
    }

-- ---- the box that reaches furthest, of those whose field holds v

module _ (field : ℕ → Range) (set v : ℕ) where
  abbrev high : ℕ → ℕ
  high k = (field k).high

  -- Of those that were looked at: one, whose high is `top`; or none holds v, and `top` is v.
  pub data BestBefore (best : Option ℕ) (top rest : ℕ) : Type 0 where
    one : (place : ℕ) → best ≡ Some (2 ^ place) → top ≡ high place → Holding field set v place
        → ((i : ℕ) → In set i → (In rest i → ⊥) → Within (field i) v → high i ≤ high place) → BestBefore best top rest
    none : best ≡ None → top ≡ v → ((i : ℕ) → In set i → (In rest i → ⊥) → Within (field i) v → ⊥) → BestBefore best top rest

  -- One box more: it is the best, or the best stays.
  module _ (rest j left : ℕ) (l : Left set rest) (n : FirstOf rest j left) where
    pub best_new : (best : Option ℕ) (top : ℕ) → (field j).low ≤ v → top ≤ high j → BestBefore best top rest → BestBefore (Some (2 ^ j)) (high j) left
    best_new best top a t b =
        let g : v ≤ high j = elim b [ one p e q h f ↦ let w = h.1.high in omega arith | none e q f ↦ omega arith ] in
        one j refl refl (next_in set rest j left l n, record { low = a; high = g })
        (seen_next set rest j left l n (λ i. Within (field i) v → high i ≤ high j)
        (λ i m o w. elim b [ one p e q h f ↦ let u = f i m o w in omega arith | none e q f ↦ absurd (f i m o w) ]) (λ w. omega arith))

    pub best_stays : (best : Option ℕ) (top : ℕ) → ((field j).low ≤ v → top ≤ high j → ⊥) → BestBefore best top rest → BestBefore best top left
    best_stays best top not (one p e q h f) =
        one p e q h
        (seen_next set rest j left l n (λ i. Within (field i) v → high i ≤ high p) f
        (λ w. elim (dec_lt (high j) top) [ yes k ↦ omega arith | no k ↦ absurd (not w.low (omega arith)) ]))
    best_stays best top not (none e q f) =
        none e q (seen_next set rest j left l n (λ i. Within (field i) v → ⊥) f (λ w. let k = w.high in not w.low (omega arith)))
