-- Answers of calls: a value, or a refusal by its number and its line.
-- Assumes nothing.
use Rattle.std.specs.Prelude.{ℕ, List, [], ◌∷◌, ◌++◌, length, drop}
use Rattle.base.specs.Truths.{pick}
use Rattle.base.specs.Checks.{Check}

pub data Answer (A : Type 0) : Type 0 where
  returned : A → Answer A
  refused_by : (number line : ℕ) → Answer A

module _ {A B : Type 0} where
  -- What follows for the value, where there is one; a refusal stays.
  abbrev pub and_then : Answer A → (A → Answer B) → Answer B
  and_then (returned a) f = f a
  and_then (refused_by number line) f = refused_by number line

  -- The same answer, its value told as another.
  abbrev pub told : (A → B) → Answer A → Answer B
  told f (returned a) = returned (f a)
  told f (refused_by number line) = refused_by number line

module _ {A : Type 0} where
  -- The value, where there is one; for a call that tells no refusal, else this.
  abbrev pub value_or : A → Answer A → A
  value_or other (returned a) = a
  value_or other (refused_by number line) = other

  -- The value, if all conditions hold; else the refusal of the first that is broken, which names no line: 0.
  abbrev pub given : List Check → A → Answer A
  given [] a = returned a
  given (c ∷ cs) a = pick c.holds (given cs a) (refused_by c.number 0)

  -- The output after a call that answers so: what the value writes, from the output's start, and the rest unchanged. A refusal writes nothing.
  abbrev pub wrote : (A → List ℕ) → Answer A → List ℕ → List ℕ
  wrote result (returned a) out = result a ++ drop (length (result a)) out
  wrote result (refused_by number line) out = out

module _ {T A : Type 0} where
  -- A call on what another answer gives: its refusal; else that of the first condition that is broken; else the value.
  abbrev pub call_on : (T → List Check) → (T → A) → Answer T → Answer A
  call_on conditions value x = and_then x (λ t. given (conditions t) (value t))
