-- Laws of answers:
--   Kept, given_kept: all conditions hold, and the value is returned
--   Broken, given_broken: one is broken, those before it hold, and its number is the refusal's
--   Told, told_why, refused_why: why a call returns, and why it refuses
--   given_after, broken_first: further conditions, after some that all hold, and after some of which one is broken
--   told_room, wrote_room: a call whose one condition is that its result has room in the output
--   wrote_refused: a refusal writes nothing
--   case_of: an enum that stands for an answer
-- Assumes nothing.
use Prim.Native.Nat.{ℕ}
use mathlib.Core.Path.{◌≡◌, refl, sym, ap, ◌∙◌}
use mathlib.Core.Bool.{Bool, true, false}
use mathlib.Core.Logic.{◌⊎◌, inl, inr}
use mathlib.Core.List.{List, [], ◌∷◌, ◌++◌}
use native.Mathlib.Omega.{arith}
use Rattle.base.specs.Truths.{pick}
use Rattle.base.specs.Outputs.{fits, written}
use Rattle.base.specs.Checks.{Check, or_else}
use Rattle.base.specs.Answers.{Answer, returned, refused_by, told, given, wrote, call_on}

-- All conditions hold.
abbrev pub Kept : List Check → Type 0
Kept [] = Unit {0}
Kept (c ∷ cs) = (c.holds ≡ true) × Kept cs

-- The first condition that is broken has this number.
abbrev pub Broken : List Check → ℕ → Type 0
Broken [] n = ⊥
Broken (c ∷ cs) n = ((c.holds ≡ false) × (n ≡ c.number)) ⊎ ((c.holds ≡ true) × Broken cs n)

module _ {A : Type 0} (a : A) where
  pub given_kept : (cs : List Check) → Kept cs → given cs a ≡ returned a
  given_kept [] h = refl
  given_kept (c ∷ cs) h = rw h.0 (given_kept cs h.1)

  pub given_broken : (cs : List Check) (n : ℕ) → Broken cs n → given cs a ≡ refused_by n 0
  given_broken [] n h = absurd h
  given_broken (c ∷ cs) n (inl h) = rw h.0 (ap (λ k. refused_by k 0) (sym h.1))
  given_broken (c ∷ cs) n (inr h) = rw h.0 (given_broken cs n h.1)

  -- Conditions that hold leave it to those after them.
  pub given_after : (cs ds : List Check) → Kept cs → given (cs ++ ds) a ≡ given ds a
  given_after [] ds h = refl
  given_after (c ∷ cs) ds h = rw h.0 (given_after cs ds h.1)

-- The first that is broken is so with others after it.
pub broken_first : (cs ds : List Check) (n : ℕ) → Broken cs n → Broken (cs ++ ds) n
broken_first [] ds n h = absurd h
broken_first (c ∷ cs) ds n (inl h) = inl h
broken_first (c ∷ cs) ds n (inr h) = inr (h.0, broken_first cs ds n h.1)

-- One or the other it is.
pub kept_or_broken : (cs : List Check) → Kept cs ⊎ ((n : ℕ) × Broken cs n)
kept_or_broken [] = inl tt
kept_or_broken (c ∷ cs) = go c.holds refl (kept_or_broken cs)
  where
    go : (b : Bool) → c.holds ≡ b → Kept cs ⊎ ((n : ℕ) × Broken cs n) → Kept (c ∷ cs) ⊎ ((n : ℕ) × Broken (c ∷ cs) n)
    go true e (inl h) = inl (e, h)
    go true e (inr h) = inr (h.0, inr (e, h.1))
    go false e h = inr (c.number, inl (e, refl))

-- ---- why a call ends as it does

-- A refusal is that of what was read, or of a condition.
abbrev pub Why : {T : Type 0} → (T → List Check) → Answer T → ℕ → ℕ → Type 0
Why {T} conditions x number line = (x ≡ refused_by number line) ⊎ ((t : T) × (x ≡ returned t) × Broken (conditions t) number × (line ≡ 0))

module _ {T A B : Type 0} (conditions : T → List Check) (value : T → A) (f : A → B) where
  -- What is told of a value is told of a table that keeps all conditions.
  pub record Told (x : Answer T) (b : B) : Type 0 where
    pub of : T
    pub read : x ≡ returned of
    pub keeps : Kept (conditions of)
    pub tells : b ≡ f (value of)

  pub told_why : (x : Answer T) (b : B) → told f (call_on conditions value x) ≡ returned b → Told x b
  told_why (returned t) b e = elim (kept_or_broken (conditions t)) [
    | inl h ↦ let g = ap (told f) (given_kept (value t) (conditions t) h) in record { of = t; read = refl; keeps = h; tells = cc }
    | inr h ↦ let g = ap (told f) (given_broken (value t) (conditions t) h.0 h.1) in
        let z : ◌≡◌ {A = ℕ} 0 1 = cc in absurd (omega arith)
  ]
  told_why (refused_by number line) b e = let z : ◌≡◌ {A = ℕ} 0 1 = cc in absurd (omega arith)

  pub refused_why : (x : Answer T) (number line : ℕ) → told f (call_on conditions value x) ≡ refused_by number line → Why conditions x number line
  refused_why (returned t) number line e = elim (kept_or_broken (conditions t)) [
    | inl h ↦ let g = ap (told f) (given_kept (value t) (conditions t) h) in
        let z : ◌≡◌ {A = ℕ} 0 1 = cc in absurd (omega arith)
    | inr h ↦ let g = ap (told f) (given_broken (value t) (conditions t) h.0 h.1) in
        let n : h.0 ≡ number = cc in
        inr (t, refl, rw n at h.1, cc)
  ]
  refused_why (refused_by k l) number line e = let a : k ≡ number = cc in let b : l ≡ line = cc in inl (λ i. refused_by (a i) (b i))

-- ---- a result with room in the output

module _ {A B : Type 0} (a : A) (n : ℕ) where
  pub told_room : (f : A → B) (b : Bool) → told f (given (or_else b n ∷ []) a) ≡ pick b (returned (f a)) (refused_by n 0)
  told_room f true = refl
  told_room f false = refl

module _ {A : Type 0} (a : A) (n : ℕ) (result : A → List ℕ) (out : List ℕ) where
  pub wrote_room : wrote result (given (or_else (fits (result a) out) n ∷ []) a) out ≡ written (result a) out
  wrote_room = go (fits (result a) out) refl
    where
      go : (b : Bool) → fits (result a) out ≡ b → wrote result (given (or_else b n ∷ []) a) out ≡ written (result a) out
      go true e = rw e refl
      go false e = rw e refl

-- ---- a refusal leaves the output

module _ {A B : Type 0} (f : A → B) (result : A → List ℕ) (out : List ℕ) where
  pub wrote_refused : (x : Answer A) (number line : ℕ) → told f x ≡ refused_by number line → wrote result x out ≡ out
  wrote_refused (returned a) number line e = let z : ◌≡◌ {A = ℕ} 0 1 = cc in absurd (omega arith)
  wrote_refused (refused_by k l) number line e = refl

-- ---- an enum that stands for an answer

module _ {E A B : Type 0} (f : A → B) (view : E → A) where
  -- The result r is the case c of its enum, and stands for x.
  pub case_of : {r c : E} {x : A} → r ≡ c → view r ≡ x → f (view c) ≡ f x
  case_of e h = sym (ap (λ q. f (view q)) e) ∙ ap f h
