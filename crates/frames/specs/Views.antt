-- What the code's reasons for a refusal, and its results, stand for: the numbers of the documents.
-- Assumes nothing.
use Rattle.std.specs.Prelude.{ℕ, Result, Ok, Err}
use Rattle.frames.specs.declared.refusals.Reason.{Reason}
use Rattle.frames.specs.declared.refusals.Reason.TheVariants.{NoLine, WrongForm, OutOfSequence, BadEntity, BadNumber, EmptyRange, ProtectedNull, ShortOutput, NoSuchRow, NoSuchEntity, NotJoinable, NoSuchSide}
use Rattle.frames.specs.Refusals.{no_line, wrong_form, out_of_sequence, bad_entity, bad_number, empty_range, protected_null, short_output, no_such_row, no_such_entity, not_joinable, no_such_side}

-- The number of a reason.
abbrev pub number_of : Reason → ℕ
number_of NoLine = no_line
number_of WrongForm = wrong_form
number_of OutOfSequence = out_of_sequence
number_of BadEntity = bad_entity
number_of BadNumber = bad_number
number_of EmptyRange = empty_range
number_of ProtectedNull = protected_null
number_of ShortOutput = short_output
number_of NoSuchRow = no_such_row
number_of NoSuchEntity = no_such_entity
number_of NotJoinable = not_joinable
number_of NoSuchSide = no_such_side

-- The number of the refusal, or 0.
abbrev pub fault_of : Result Unit Reason → ℕ
fault_of (Ok u) = 0
fault_of (Err reason) = number_of reason
