-- Laws of reasons and their numbers: a number says which reason it is, and whether there is one.
--   number_above_0: no reason's number is 0
--   number_injective: reasons with the same number are the same
--   fault_none, fault_some: the result that a number says
-- Assumes nothing.
use Prim.Native.Nat.{ℕ, ◌<◌}
use mathlib.Core.Path.{◌≡◌, refl, sym, ap, ◌∙◌}
use mathlib.Core.List.{List, [], ◌∷◌}
use native.Mathlib.Omega.{arith}
use lib.ListN.{get_or}
use Rattle.std.specs.Prelude.{Result, Ok, Err}
use Rattle.frames.specs.declared.refusals.Reason.{Reason}
use Rattle.frames.specs.declared.refusals.Reason.TheVariants.{NoLine, WrongForm, OutOfSequence, BadEntity, BadNumber, EmptyRange, ProtectedNull, ShortOutput, NoSuchRow, NoSuchEntity, NotJoinable, NoSuchSide}
use Rattle.frames.specs.Views.{number_of, fault_of}

pub number_above_0 : (a : Reason) → 0 < number_of a
number_above_0 NoLine = omega arith
number_above_0 WrongForm = omega arith
number_above_0 OutOfSequence = omega arith
number_above_0 BadEntity = omega arith
number_above_0 BadNumber = omega arith
number_above_0 EmptyRange = omega arith
number_above_0 ProtectedNull = omega arith
number_above_0 ShortOutput = omega arith
number_above_0 NoSuchRow = omega arith
number_above_0 NoSuchEntity = omega arith
number_above_0 NotJoinable = omega arith
number_above_0 NoSuchSide = omega arith

-- The reasons by their numbers, from 0; 0 is no reason's.
abbrev reasons : List Reason
reasons =
    NoLine ∷ NoLine ∷ WrongForm ∷ OutOfSequence ∷ BadEntity ∷ BadNumber ∷ EmptyRange ∷ ProtectedNull ∷ ShortOutput
    ∷ NoSuchRow ∷ NoSuchEntity ∷ NotJoinable ∷ NoSuchSide ∷ []

abbrev numbered : ℕ → Reason
numbered n = get_or reasons n NoLine

numbered_back : (a : Reason) → numbered (number_of a) ≡ a
numbered_back NoLine = refl
numbered_back WrongForm = refl
numbered_back OutOfSequence = refl
numbered_back BadEntity = refl
numbered_back BadNumber = refl
numbered_back EmptyRange = refl
numbered_back ProtectedNull = refl
numbered_back ShortOutput = refl
numbered_back NoSuchRow = refl
numbered_back NoSuchEntity = refl
numbered_back NotJoinable = refl
numbered_back NoSuchSide = refl

pub number_injective : (a b : Reason) → number_of a ≡ number_of b → a ≡ b
number_injective a b e = sym (numbered_back a) ∙ ap numbered e ∙ numbered_back b

pub fault_none : (r : Result Unit Reason) → fault_of r ≡ 0 → r ≡ Ok tt
fault_none (Ok tt) e = refl
fault_none (Err a) e = let h = number_above_0 a in absurd (omega arith)

pub fault_some : (r : Result Unit Reason) (a : Reason) → fault_of r ≡ number_of a → r ≡ Err a
fault_some (Ok u) a e = let h = number_above_0 a in absurd (omega arith)
fault_some (Err b) a e = ap Err (number_injective b a e)
