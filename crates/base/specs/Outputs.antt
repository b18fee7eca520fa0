-- Document 01 on the caller's output: 8, "output shorter than the result"; "the rest of the buffer is unchanged"; "a refusal writes to no
-- output".
-- Assumes nothing.
use Rattle.std.specs.Prelude.{ℕ, ◌≡◌, Bool, List, ◌++◌, leb, length, drop, Result, Ok, Err}
use Rattle.base.specs.Truths.{pick}
use Rattle.base.specs.declared.Short.{Short}

-- The output has room for the result.
abbrev pub fits : List ℕ → List ℕ → Bool
fits result out = leb (length result) (length out)

-- The output with the result at its start and the rest unchanged; as it was, if it is too short.
abbrev pub written : List ℕ → List ℕ → List ℕ
written result out = pick (fits result out) (result ++ drop (length result) out) out

-- The one value of the code's error.
abbrev pub short : Short
short = record {}

-- What becomes of the output, and what is answered: how many the result is, or that the output is shorter than it.
pub record WritesCounted (n : ℕ) (result before after : List ℕ) (r : Result ℕ Short) : Type 0 where
  pub output : after ≡ written result before
  pub answer : r ≡ pick (fits result before) (Ok n) (Err short)

-- The same of a text, which is told by its length.
abbrev pub Writes : (result before after : List ℕ) → Result ℕ Short → Type 0
Writes result before after r = WritesCounted (length result) result before after r
