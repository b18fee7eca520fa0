-- Two tests of one thing. Laws of what a loop has found so far: what holds of each number below a bound, and of the bound; the first
-- number below a bound that passes a test; the first of two lists, compared.
-- Assumes nothing.
use Prim.Native.Nat.{ℕ, zero, suc, ◌+◌, ◌≤◌, ◌<◌}
use mathlib.Core.Path.{◌≡◌, refl, sym, ap, ◌∙◌}
use mathlib.Core.Bool.{Bool, true, false}
use mathlib.Core.Logic.{◌⊎◌, inl, inr}
use mathlib.Core.List.{List}
use native.Mathlib.Decide.{dec_lt}
use native.Mathlib.Omega.{arith}
use lib.ListN.{length, get_or, take}
use lib.Seq.{length-take-le, get_or-take, ext_get_or}
use Rattle.base.specs.Truths.{Decides}
use Rattle.base.specs.Lists.{same}
use Rattle.base.proofs.Laws.Decides.{decides_holds, decides_fails}
use Rattle.base.proofs.Laws.Members.{same_decides}

-- Two tests that decide one thing agree.
pub decides_once : (a b : Bool) {P : Type 0} → Decides a P → Decides b P → a ≡ b
decides_once true b d e = sym (decides_holds b e (d.yes refl))
decides_once false b d e = sym (decides_fails b e (d.no refl))

-- One number more.
pub below_more : (P : ℕ → Type 0) (k : ℕ) → ((j : ℕ) → j < k → P j) → P k → (j : ℕ) → j < k + 1 → P j
below_more P k h e j b = elim (dec_lt j k) [ yes l ↦ h j l | no l ↦ let q : j ≡ k = omega arith in rw q e ]

module _ (f : ℕ → Bool) where
  -- No number below k passes.
  abbrev pub NoneBelow : ℕ → Type 0
  NoneBelow k = (j : ℕ) → j < k → f j ≡ false

  -- k is the first number below n that passes.
  pub record FirstBelow (n k : ℕ) : Type 0 where
    pub inside : k < n
    pub passes : f k ≡ true
    pub first : NoneBelow k

  pub first_or_none : (n : ℕ) → ((k : ℕ) × FirstBelow n k) ⊎ NoneBelow n
  first_or_none zero = inr (λ j l. absurd (omega arith))
  first_or_none (suc n) =
      elim (first_or_none n) [
        | inl h ↦ inl (h.0, record { inside = omega (arith, h.1.inside); passes = h.1.passes; first = h.1.first })
        | inr h ↦ last (f n) refl h
      ]
    where
      last : (c : Bool) → f n ≡ c → NoneBelow n → ((k : ℕ) × FirstBelow (suc n) k) ⊎ NoneBelow (suc n)
      last true e h = inl (n, record { inside = omega arith; passes = e; first = h })
      last false e h = inr (λ j l. below_more (λ i. f i ≡ false) n h e j (omega arith))

-- The first n of two lists: they differ at a place, or are the same at each.
module _ (a b : List ℕ) (n : ℕ) where
  pub first_differ : (k : ℕ) → k < n → (get_or a k 0 ≡ get_or b k 0 → ⊥) → same (take n a) (take n b) ≡ false
  first_differ k h d =
      decides_fails (same (take n a) (take n b)) (same_decides (take n a) (take n b))
      (λ e. d (sym (get_or-take n a k 0 h) ∙ ap (λ (l : List ℕ). get_or l k 0) e ∙ get_or-take n b k 0 h))

  pub first_same : n ≤ length a → n ≤ length b → ((k : ℕ) → k < n → get_or a k 0 ≡ get_or b k 0) → same (take n a) (take n b) ≡ true
  first_same la lb h =
      let x = length-take-le n a la in
      let y = length-take-le n b lb in
      decides_holds (same (take n a) (take n b)) (same_decides (take n a) (take n b))
      (ext_get_or 0 (take n a) (take n b) (x ∙ sym y)
      (λ i l. let k : i < n = omega arith in get_or-take n a i 0 k ∙ h i k ∙ sym (get_or-take n b i 0 k)))
