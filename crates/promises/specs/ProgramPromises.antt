-- Document 01, "Programs", for every input: the bytes that rowlist and strike print. Numbers of the document stand here as it prints them; of
-- characters, ! is 33, 0 is 48, and a line feed 10. (Digits: `DigitValues`.)
-- Assumes nothing.
use Rattle.std.specs.Prelude.{ℕ, ◌≤◌, ◌<◌, ◌≡◌, List, [], ◌∷◌, ◌++◌, length, take, drop, Result, Ok}
use Rattle.base.specs.Answers.{returned, refused_by}
use Rattle.base.specs.declared.Short.{Short}
use Rattle.hexlines.specs.Digits.{digits_of}
use Rattle.policy.specs.Model.{Table}
use Rattle.reader.specs.States.{table_read, parse}
use Rattle.kinds.specs.Entries.{Entry, entry, entries}
use Rattle.striking.specs.Texts.{struck_text}
use Rattle.printing.specs.Printed.{entry_lines, rowlist_prints, strike_prints, Prints}

-- "each List entry as six digits a line", in the order of the list
pub record EntryLines : Type 0 where
  pub none : entry_lines [] ≡ []
  pub more : (i kind j : ℕ) (l : List Entry)
      → entry_lines (entry i kind j ∷ l) ≡ digits_of i ++ (digits_of kind ++ (digits_of j ++ (10 ∷ entry_lines l)))

-- A program that prints this of its input, and `of_table` of an accepted text; its output has `space` bytes.
pub record ProgramPromise (prints : List ℕ → List ℕ) (of_table : List ℕ → Table → List ℕ) (space : ℕ) : Type 0 where
  -- "Both read standard input of up to 16 KiB .. longer input prints !00": of one byte more than that, or of all
  pub longer : (input : List ℕ) (read : ℕ) → 16385 ≤ read → 16384 < length input → prints (take read input) ≡ 33 ∷ 48 ∷ 48 ∷ 10 ∷ []
  -- "A refused text prints ! and two digits each of number and line"
  pub refused : (input : List ℕ) (number line : ℕ) → length input ≤ 16384 → parse input ≡ refused_by number line
      → prints input ≡ 33 ∷ (digits_of number ++ (digits_of line ++ (10 ∷ [])))
  pub accepted : (input : List ℕ) (t : Table) → length input ≤ 16384 → parse input ≡ returned (table_read t) → prints input ≡ of_table input t
  -- it stands at the output's start, whole: the program writes the first n bytes, and the others are unchanged
  pub written : (input before after : List ℕ) (r : Result ℕ Short) → space ≤ length before → Prints (prints input) before after r
      → (n : ℕ) × (r ≡ Ok n) × (take n after ≡ prints input) × (drop n after ≡ drop n before)

pub record ProgramPromises : Type 0 where
  pub lines : EntryLines
  -- "rowlist prints each List entry as six digits a line": seven bytes for each of 13,792 entries
  pub rowlist : ProgramPromise rowlist_prints (λ input t. entry_lines (entries t)) 96544
  -- "strike prints Strike's text"
  pub strike : ProgramPromise strike_prints struck_text 16384
