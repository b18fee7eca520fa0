-- Tests that agree with their meanings, put together: a meaning said otherwise, order and equality of numbers, `not`, `and`, `or`, `not` of
-- `and`, a test that counts where another holds, one test or another.
-- Assumes nothing.
use mathlib.Core.Path.{◌≡◌, refl, sym, ◌∙◌}
use mathlib.Core.Logic.{◌⊎◌, inl, inr}
use mathlib.Core.Bool.{Bool, true, false, not, ◌&&◌, ◌||◌, true≢false, false≢true}
use Prim.Native.Nat.{ℕ, ◌≤◌, ◌<◌}
use native.Mathlib.Omega.{arith}
use lib.Dec.{leb, ltb, eqb}
use borrow.Author.Tests.{leb-true, leb-false, ltb-true, ltb-false, eqb-true, eqb-false}
use Rattle.base.specs.Truths.{Decides}

pub decides_true : {P : Type 0} → P → Decides true P
decides_true p = record { yes = λ e. p; no = λ e q. true≢false e }

pub decides_false : {P : Type 0} → (P → ⊥) → Decides false P
decides_false n = record { yes = λ e. absurd (false≢true e); no = λ e q. n q }

-- The same test decides what is said otherwise.
pub decides_as : {b : Bool} {P Q : Type 0} → (P → Q) → (Q → P) → Decides b P → Decides b Q
decides_as f g d = record { yes = λ e. f (d.yes e); no = λ e q. d.no e (g q) }

pub decides_leb : (x y : ℕ) → Decides (leb x y) (x ≤ y)
decides_leb x y = record { yes = leb-true x y; no = λ e h. let k = leb-false x y e in omega arith }

pub decides_ltb : (x y : ℕ) → Decides (ltb x y) (x < y)
decides_ltb x y = record { yes = ltb-true x y; no = λ e h. let k = ltb-false x y e in omega arith }

pub decides_eqb : (x y : ℕ) → Decides (eqb x y) (x ≡ y)
decides_eqb x y = record { yes = eqb-true x y; no = eqb-false x y }

pub decides_not : (b : Bool) {P : Type 0} → Decides b P → Decides (not b) (P → ⊥)
decides_not true d = decides_false (λ n. n (d.yes refl))
decides_not false d = decides_true (d.no refl)

pub decides_and : (a b : Bool) {P Q : Type 0} → Decides a P → Decides b Q → Decides (a && b) (P × Q)
decides_and true b d e = decides_as (λ q. (d.yes refl, q)) (λ h. h.1) e
decides_and false b d e = decides_false (λ h. d.no refl h.0)

pub decides_or : (a b : Bool) {P Q : Type 0} → Decides a P → Decides b Q → Decides (a || b) (P ⊎ Q)
decides_or true b d e = decides_true (inl (d.yes refl))
decides_or false b d e = record {
  yes = λ h. inr (e.yes h);
  no = λ h s. elim s [ inl p ↦ d.no refl p | inr q ↦ e.no h q ];
}

-- Two tests do not hold together: one of them does not.
pub decides_not_and : (a b : Bool) {P Q : Type 0} → Decides (not a) P → Decides (not b) Q → Decides (not (a && b)) (P ⊎ Q)
decides_not_and true b d e = record {
  yes = λ h. inr (e.yes h);
  no = λ h s. elim s [ inl p ↦ d.no refl p | inr q ↦ e.no h q ];
}
decides_not_and false b d e = decides_true (inl (d.yes refl))

-- The way from a meaning back to its test.
pub decides_holds : (b : Bool) {P : Type 0} → Decides b P → P → b ≡ true
decides_holds true d p = refl
decides_holds false d p = absurd (d.no refl p)

pub decides_fails : (b : Bool) {P : Type 0} → Decides b P → (P → ⊥) → b ≡ false
decides_fails true d n = absurd (n (d.yes refl))
decides_fails false d n = refl

-- The same of a test that is true where the meaning does not hold.
pub not_holds : (b : Bool) {P : Type 0} → Decides (not b) P → P → b ≡ false
not_holds true d p = absurd (d.no refl p)
not_holds false d p = refl

-- What is decided holds, or it doesn't.
pub decided : (b : Bool) {P : Type 0} → Decides b P → P ⊎ (P → ⊥)
decided true d = inl (d.yes refl)
decided false d = inr (d.no refl)

-- A test decides that it is true.
pub decides_itself : (b : Bool) → Decides b (b ≡ true)
decides_itself b = record { yes = λ e. e; no = λ e q. true≢false (sym q ∙ e) }

-- The second test counts where the first holds.
pub decides_given : (a b : Bool) {P Q : Type 0} → Decides a P → (P → Decides b Q) → Decides (a && b) (P × Q)
decides_given true b d e = decides_as (λ q. (d.yes refl, q)) (λ h. h.1) (e (d.yes refl))
decides_given false b d e = decides_false (λ h. d.no refl h.0)

-- One test or another, as a first one says.
pub decides_either : (c a b : Bool) {P Q R : Type 0} → Decides c P → Decides a Q → Decides b R
    → Decides (elim c [ true ↦ a | false ↦ b ]) ((P × Q) ⊎ ((P → ⊥) × R))
decides_either true a b d e f =
    decides_as (λ q. inl (d.yes refl, q)) (λ s. elim s [ inl h ↦ h.1 | inr h ↦ absurd (h.0 (d.yes refl)) ]) e
decides_either false a b d e f =
    decides_as (λ r. inr (d.no refl, r)) (λ s. elim s [ inl h ↦ absurd (d.no refl h.0) | inr h ↦ h.1 ]) f
