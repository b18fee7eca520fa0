-- Document 01, "The six calls": a call on a row, of what reading a text gives. "The first faulty line counts ..; then 9".
-- Assumes nothing.
use Rattle.std.specs.Prelude.{ℕ, [], ◌∷◌, ltb, length}
use Rattle.base.specs.Checks.{Check, or_else}
use Rattle.base.specs.Answers.{Answer, call_on}
use Rattle.policy.specs.Model.{Table}
use Rattle.frames.specs.Refusals.{no_such_row}
use Rattle.reader.specs.States.{Parsed, table_read}

-- "no such row"
abbrev pub has_row : ℕ → Table → Check
has_row k t = or_else (ltb k (length t.rows)) no_such_row

-- The answer of a call on row k, if there is such a row.
abbrev pub on_row : {A : Type 0} → (Table → ℕ → A) → Answer Parsed → ℕ → Answer A
on_row value x k = call_on (λ r. has_row k r.table ∷ []) (λ r. value r.table k) x

-- What was read, if it has such a row.
abbrev pub with_row : Answer Parsed → ℕ → Answer Parsed
with_row x k = on_row (λ t i. table_read t) x k
