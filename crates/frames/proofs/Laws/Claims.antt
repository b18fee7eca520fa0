-- Laws of what frames claim:
--   nothing_faulty: where nothing is claimed, nothing is broken
--   Tests, tests_one, tests_and: a test that fails exactly where one of some claims is broken; of one claim, and of two lists of them
--   tests_root, tests_roots, tests_end, tests_technology, tests_ranges: the tests of these claims
--   Judges, judges_none, judges_one, judges_more: conditions by which claims are judged
-- Assumes nothing.
use Prim.Native.Nat.{ℕ}
use mathlib.Core.Path.{◌≡◌, refl}
use mathlib.Core.Logic.{◌⊎◌, inl, inr, ◌↔◌}
use mathlib.Core.Bool.{Bool, true, false, ◌&&◌, and-false, true≢false}
use mathlib.Core.List.{List, [], ◌∷◌, ◌++◌, map}
use mathlib.Core.List.Memᴰ
use native.Mathlib.Omega.{arith}
use borrow.Author.Tests.{leb-false, lt-leb}
use lib.Dec.{leb}
use Rattle.base.specs.Checks.{Check, or_else}
use Rattle.base.proofs.Laws.Checks.{Faults, Breaks, faults_as}
use Rattle.base.proofs.Laws.Decides.{decides_fails}
use Rattle.policy.specs.Limits.{technologies}
use Rattle.policy.specs.Model.{Range, Selector, Table, parents_of}
use Rattle.relations.specs.Selectors.{lows, highs, none_above, inhabited}
use Rattle.relations.proofs.Laws.Selectors.{inhabited_ends}
use Rattle.frames.specs.Refusals.{bad_number, empty_range}
use Rattle.frames.specs.Faults.{Claim, a_root, an_end, a_technology, a_range, Broken, no_root, no_entity, no_technology, low_above_high, ContentFault}
use Rattle.frames.specs.Numbers.{is_entity, is_root, all_roots}
use Rattle.frames.proofs.Laws.Numbers.{is_entity_decides, is_root_decides}

pub nothing_faulty : (t : Table) (n : ℕ) → ContentFault t [] n → ⊥
nothing_faulty t n f = Memᴰ.not-nil f.1

-- A fault of two lists together is one of a part.
module _ {t : Table} {n : ℕ} (xs ys : List Claim) where
  fault_parts : ContentFault t (xs ++ ys) n ↔ (ContentFault t xs n ⊎ ContentFault t ys n)
  fault_parts = (
    λ f. elim (Memᴰ.append_cases xs f.1) [ inl m ↦ inl (f.0, m, f.2) | inr m ↦ inr (f.0, m, f.2) ],
    λ s. elim s [ inl f ↦ (f.0, Memᴰ.append_left ys f.1, f.2) | inr f ↦ (f.0, Memᴰ.append_right xs f.1, f.2) ],
  )

-- ---- a test of claims

-- The test b fails exactly where one of the claims is broken, and each of them is broken by the number n alone.
pub record Tests (t : Table) (b : Bool) (n : ℕ) (claims : List Claim) : Type 0 where
  pub fails : b ≡ false → ContentFault t claims n
  pub only : (m : ℕ) → ContentFault t claims m → (b ≡ false) × (m ≡ n)

module _ {t : Table} {n : ℕ} where
  tests_none : Tests t true n []
  tests_none = record { fails = λ e. absurd (true≢false e); only = λ m f. absurd (nothing_faulty t m f) }

  pub tests_one : {b : Bool} {c : Claim} → (b ≡ false → Broken t c n) → ((m : ℕ) → Broken t c m → (b ≡ false) × (m ≡ n)) → Tests t b n (c ∷ [])
  tests_one {c} fails only = record {
    fails = λ e. (c, Memᴰ.head refl, fails e);
    only = λ m f. only m (rw (← Memᴰ.eq_of_singleton f.1) f.2);
  }

  pub tests_and : {a b : Bool} {xs ys : List Claim} → Tests t a n xs → Tests t b n ys → Tests t (a && b) n (xs ++ ys)
  tests_and {a} {b} {xs} {ys} g h = record {
    fails = fails a refl;
    only = λ m f. elim ((fault_parts xs ys).0 f) [
      | inl x ↦ let k = g.only m x in (rw k.0, k.1)
      | inr y ↦ let k = h.only m y in (rw k.0 (and-false a), k.1)
    ];
  }
    where
      fails : (c : Bool) → a ≡ c → (c && b) ≡ false → ContentFault t (xs ++ ys) n
      fails true e k = (fault_parts xs ys).1 (inr (h.fails k))
      fails false e k = (fault_parts xs ys).1 (inl (g.fails e))

-- ---- by the sorts of claims

module _ (t : Table) where
  root_only : (e m : ℕ) → Broken t (a_root e) m → (is_root (parents_of t) e ≡ false) × (m ≡ bad_number)
  root_only e m (no_root x h) = (decides_fails _ (is_root_decides t e) h, refl)

  pub tests_root : (e : ℕ) → Tests t (is_root (parents_of t) e) bad_number (a_root e ∷ [])
  tests_root e = tests_one (λ b. no_root e ((is_root_decides t e).no b)) (root_only e)

  pub tests_roots : (es : List ℕ) → Tests t (all_roots (parents_of t) es) bad_number (map a_root es)
  unfolding all_roots
  tests_roots [] = tests_none
  tests_roots (e ∷ es) = tests_and (tests_root e) (tests_roots es)

  end_only : (e m : ℕ) → Broken t (an_end e) m → (is_entity (parents_of t) e ≡ false) × (m ≡ bad_number)
  end_only e m (no_entity x h) = (decides_fails _ (is_entity_decides t e) h, refl)

  pub tests_end : (e : ℕ) → Tests t (is_entity (parents_of t) e) bad_number (an_end e ∷ [])
  tests_end e = tests_one (λ b. no_entity e ((is_entity_decides t e).no b)) (end_only e)

  technology_only : (u m : ℕ) → Broken t (a_technology u) m → (leb u technologies ≡ false) × (m ≡ bad_number)
  technology_only u m (no_technology x h) = (lt-leb u technologies h, refl)

  pub tests_technology : (u : ℕ) → Tests t (leb u technologies) bad_number (a_technology u ∷ [])
  tests_technology u = tests_one (λ b. no_technology u (leb-false u technologies b)) (technology_only u)

  range_only : (r : Range) (m : ℕ) → Broken t (a_range r) m → (leb r.low r.high ≡ false) × (m ≡ empty_range)
  range_only r m (low_above_high x h) = (lt-leb r.low r.high h, refl)

  tests_bounds : (s : Selector) → Tests t (none_above (lows s) (highs s)) empty_range (map a_range s)
  tests_bounds [] = tests_none
  tests_bounds (r ∷ s) = tests_and (tests_one (λ b. low_above_high r (leb-false r.low r.high b)) (range_only r)) (tests_bounds s)

  pub tests_ranges : (s : Selector) → Tests t (inhabited s) empty_range (map a_range s)
  tests_ranges s = rw (inhabited_ends s) (tests_bounds s)

-- ---- conditions by which claims are judged

-- Each condition that is broken is a fault of its number, and each fault breaks one, with no larger number.
pub record Judges (t : Table) (checks : List Check) (claims : List Claim) : Type 0 where
  pub faults : Faults (ContentFault t claims) checks
  pub breaks : (n : ℕ) → ContentFault t claims n → Breaks n checks

module _ {t : Table} where
  pub judges_none : Judges t [] []
  judges_none = record { faults = tt; breaks = λ n f. nothing_faulty t n f }

  pub judges_one : {b : Bool} {n : ℕ} {xs : List Claim} → Tests t b n xs → Judges t (or_else b n ∷ []) xs
  judges_one g = record { faults = (g.fails, tt); breaks = λ m f. let k = g.only m f in inl (k.0, omega (arith, k.1)) }

  -- One condition more, and what it tests.
  pub judges_more : {b : Bool} {n : ℕ} {checks : List Check} {xs ys : List Claim} → Tests t b n xs → Judges t checks ys
      → Judges t (or_else b n ∷ checks) (xs ++ ys)
  judges_more {checks} {xs} {ys} g h = record {
    faults = ((λ e. (fault_parts xs ys).1 (inl (g.fails e))), faults_as (λ m f. (fault_parts xs ys).1 (inr f)) checks h.faults);
    breaks = λ m f. elim ((fault_parts xs ys).0 f) [
      | inl x ↦ let k = g.only m x in inl (k.0, omega (arith, k.1))
      | inr y ↦ inr (h.breaks m y)
    ];
  }
