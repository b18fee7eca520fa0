-- What the code's answers stand for: the number and the values of each case, in document 01's terms.
-- Assumes nothing.
use Rattle.std.specs.Prelude.{ℕ, Result, Ok, Err}
use Rattle.base.specs.Answers.{Answer, returned, refused_by}
use Rattle.policy.specs.Views.{packet_of}
use Rattle.frames.specs.declared.refusals.Refusal.{Refusal}
use Rattle.covers.specs.Least.{SearchResult, found, none}
use Rattle.calls.specs.declared.Witness.{Witness}
use Rattle.calls.specs.declared.Witness.TheVariants.{Dead, Packet, Refused}

module _ {A B : Type 0} where
  -- A call's result, whose value stands for what `value` says; a refusal has its number and its line.
  abbrev pub answer_of : (value : A → B) → Result A Refusal → Answer B
  answer_of value (Ok a) = returned (value a)
  answer_of value (Err r) = refused_by r.number r.line

-- A refusal with this number and line.
abbrev pub refusal : (number line : ℕ) → Refusal
refusal number line = record { number = number; line = line }

-- "Witness answers an enum: Dead, Packet with a struct of five numbers, or Refused with number and line."
abbrev pub witness_answer : Witness → Answer SearchResult
witness_answer Dead = returned none
witness_answer (Packet p) = returned (found (packet_of p))
witness_answer (Refused number line) = refused_by number line
