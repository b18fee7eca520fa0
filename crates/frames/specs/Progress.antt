-- What has been read of a text so far, and what is said of a kind of frame.
-- Assumes nothing.
use Rattle.std.specs.Prelude.{ℕ, ◌+◌, Bool, List, length}
use Rattle.base.specs.Checks.{Check}
use Rattle.base.specs.Truths.{pick}
use Rattle.policy.specs.Model.{Table, lines_before}
use Rattle.policy.specs.Views.{no_table}
use Rattle.frames.specs.Refusals.{wrong_form, out_of_sequence}
use Rattle.frames.specs.Faults.{Claim}

-- The table so far, and 1 once the floor has been read, else 0.
pub record Progress : Type 0 where
  pub table : Table
  pub floored : ℕ

abbrev pub nothing : Progress
nothing = record { table = no_table; floored = 0 }

-- A whole table has been read.
abbrev pub all_read : Table → Progress
all_read t = record { table = t; floored = 1 }

-- How many lines have been read: those before the rows, and the rows'.
abbrev pub lines_read : Progress → ℕ
lines_read p = lines_before p.floored p.table + length p.table.rows

-- A kind of frame, each of which says an A.
pub record FrameKind (A : Type 0) : Type 1 where
  -- its kind byte
  pub byte : ℕ
  -- the bytes have the kind's length; else 2
  pub long : List ℕ → Bool
  -- what they say: as a value, and what it is to say it
  pub value : List ℕ → A
  pub says : List ℕ → A → Type 0
  -- the sequence can go on with it; else 3
  pub placed : Progress → A → Bool
  -- the rules of its content: 4 to 7
  pub content : Table → A → List Check
  -- what it says that they judge
  pub judged : A → List Claim
  -- what has been read, and it
  pub grown : A → Progress → Progress

-- The number that refuses a frame for its form or for its place in the sequence, or 0.
abbrev pub misfit_of : (long placed : Bool) → ℕ
misfit_of long placed = pick long (pick placed 0 out_of_sequence) wrong_form
