-- Laws of conditions:
--   both: two that hold together
--   refusal_first, refusal_holds, refusal_broken, refusal_none: the refusal of a list of conditions, by the first of them
--   none_broken, one_kept: conditions that are all kept
--   Numbered, refusal_most: numbers up to a bound
--   Rising, Faults, Breaks, refusal_least, refusal_fault: the refusal of conditions by ascending number is the least fault
-- Assumes nothing.
use Prim.Native.Nat.{ℕ, ◌≤◌, ◌<◌}
use mathlib.Core.Path.{◌≡◌, refl, sym, subst, ◌∙◌}
use mathlib.Core.Logic.{◌⊎◌, inl, inr}
use mathlib.Core.Bool.{Bool, true, false, ◌&&◌, and-eq-true_iff, true≢false}
use mathlib.Core.List.{List, [], ◌∷◌}
use native.Mathlib.Omega.{arith}
use Rattle.base.specs.Truths.{pick}
use Rattle.base.specs.Checks.{Check, or_else, refusal}

-- Two tests that hold together hold each.
pub both : (a b : Bool) → (a && b) ≡ true → (a ≡ true) × (b ≡ true)
both a b h = (and-eq-true_iff a b).0 h

-- The refusal of the others where the first holds, else its number.
pub refusal_first : (b : Bool) (n : ℕ) (cs : List Check) → refusal (or_else b n ∷ cs) ≡ pick b (refusal cs) n
unfolding refusal
refusal_first b n cs = refl

-- A condition that holds is passed by.
pub refusal_holds : (b : Bool) (n : ℕ) (cs : List Check) → b ≡ true → refusal (or_else b n ∷ cs) ≡ refusal cs
unfolding refusal
refusal_holds b n cs h = rw h

-- A condition that is broken gives the number.
pub refusal_broken : (b : Bool) (n : ℕ) (cs : List Check) → b ≡ false → refusal (or_else b n ∷ cs) ≡ n
unfolding refusal
refusal_broken b n cs h = rw h

-- What is not refused keeps the first condition and all others.
pub refusal_none : (b : Bool) (n : ℕ) (cs : List Check) → (n ≡ 0 → ⊥) → refusal (or_else b n ∷ cs) ≡ 0 → (b ≡ true) × (refusal cs ≡ 0)
unfolding refusal
refusal_none true n cs z h = (refl, h)
refusal_none false n cs z h = absurd (z h)

-- Where there is no condition, none is broken.
pub none_broken : refusal [] ≡ 0
unfolding refusal
none_broken = refl

-- What keeps the first condition and all others is not refused.
pub one_kept : (b : Bool) (n : ℕ) (cs : List Check) → b ≡ true → refusal cs ≡ 0 → refusal (or_else b n ∷ cs) ≡ 0
one_kept b n cs h z = refusal_holds b n cs h ∙ z

-- No condition of the list has a number above most.
abbrev pub Numbered : ℕ → List Check → Type 0
Numbered most [] = Unit {0}
Numbered most (c ∷ cs) = (c.number ≤ most) × Numbered most cs

pub refusal_most : (most : ℕ) (cs : List Check) → Numbered most cs → refusal cs ≤ most
refusal_most most [] h = omega (arith, none_broken)
refusal_most most (c ∷ cs) h = go c.holds refl (refusal_most most cs h.1)
  where
    go : (b : Bool) → c.holds ≡ b → refusal cs ≤ most → refusal (c ∷ cs) ≤ most
    go true e r = let f = refusal_holds c.holds c.number cs e in omega arith
    go false e r = let f = refusal_broken c.holds c.number cs e in omega (arith, h.0)

-- ---- the least number

-- The numbers ascend, and are above m.
abbrev pub Rising : ℕ → List Check → Type 0
Rising m [] = Unit {0}
Rising m (c ∷ cs) = (m < c.number) × Rising c.number cs

-- Each condition that is broken is the fault of its number.
abbrev pub Faults : (ℕ → Type 0) → List Check → Type 0
Faults Fault [] = Unit {0}
Faults Fault (c ∷ cs) = (c.holds ≡ false → Fault c.number) × Faults Fault cs

pub faults_as : {F G : ℕ → Type 0} → ((n : ℕ) → F n → G n) → (cs : List Check) → Faults F cs → Faults G cs
faults_as f [] h = tt
faults_as f (c ∷ cs) h = ((λ b. f c.number (h.0 b)), faults_as f cs h.1)

-- Some condition with a number up to n is broken.
abbrev pub Breaks : ℕ → List Check → Type 0
Breaks n [] = ⊥
Breaks n (c ∷ cs) = ((c.holds ≡ false) × (c.number ≤ n)) ⊎ Breaks n cs

pub refusal_least : (m n : ℕ) (cs : List Check) → Rising m cs → Breaks n cs → (m < refusal cs) × (refusal cs ≤ n)
refusal_least m n [] r b = absurd b
refusal_least m n (c ∷ cs) r b = go c.holds refl b (refusal_least c.number n cs r.1)
  where
    go : (t : Bool) → c.holds ≡ t → Breaks n (c ∷ cs) → (Breaks n cs → (c.number < refusal cs) × (refusal cs ≤ n))
        → (m < refusal (c ∷ cs)) × (refusal (c ∷ cs) ≤ n)
    go true e (inl h) later = absurd (true≢false (sym e ∙ h.0))
    go true e (inr h) later = let f = refusal_holds c.holds c.number cs e in let l = later h in omega (arith, r.0)
    go false e (inl h) later = let f = refusal_broken c.holds c.number cs e in omega (arith, r.0, h.1)
    go false e (inr h) later = let f = refusal_broken c.holds c.number cs e in let l = later h in omega (arith, r.0)

pub refusal_fault : (Fault : ℕ → Type 0) (cs : List Check) → Faults Fault cs → (refusal cs ≡ 0 → ⊥) → Fault (refusal cs)
refusal_fault Fault [] b z = absurd (z none_broken)
refusal_fault Fault (c ∷ cs) b z = go c.holds refl (refusal_fault Fault cs b.1)
  where
    go : (t : Bool) → c.holds ≡ t → ((refusal cs ≡ 0 → ⊥) → Fault (refusal cs)) → Fault (refusal (c ∷ cs))
    go true e later = let f = refusal_holds c.holds c.number cs e in subst Fault (sym f) (later (λ h. z (f ∙ h)))
    go false e later = subst Fault (sym (refusal_broken c.holds c.number cs e)) (b.0 e)
