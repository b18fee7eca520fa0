-- Document 01, "Programs: rowlist prints each List entry as six digits a line; strike prints Strike's text. Both read standard input of up
-- to 16 KiB. A refused text prints ! and two digits each of number and line; longer input prints !00; each of these ends with a line feed."
-- Assumes nothing.
use Rattle.std.specs.Prelude.{ℕ, ◌≤◌, ◌≡◌, List, [], ◌∷◌, ◌++◌, leb, length, take, Result, Ok, Err, IfOk}
use Rattle.base.specs.Truths.{pick}
use Rattle.hexlines.specs.Lines.{line_of}
use Rattle.base.specs.Outputs.{fits, written, short}
use Rattle.base.specs.declared.Short.{Short}
use Rattle.policy.specs.Model.{Table}
use Rattle.reader.specs.Lines.{line_feed}
use Rattle.base.specs.Answers.{Answer, returned, refused_by}
use Rattle.reader.specs.States.{Parsed, parse}
use Rattle.kinds.specs.Entries.{Entry, entries}
use Rattle.striking.specs.Texts.{struck_text}
use Rattle.printing.specs.Limits.{most_input}

-- The character !.
abbrev pub mark : ℕ
mark = 33

abbrev pub too_long : List ℕ
too_long = mark ∷ 48 ∷ 48 ∷ line_feed ∷ []

abbrev pub refusal_line : ℕ → ℕ → List ℕ
refusal_line number line = mark ∷ (line_of (number ∷ line ∷ []) ++ (line_feed ∷ []))

abbrev pub entry_line : ℕ → ℕ → ℕ → List ℕ
entry_line first kind second = line_of (first ∷ kind ∷ second ∷ []) ++ (line_feed ∷ [])

unfoldable pub entry_lines : List Entry → List ℕ
entry_lines [] = []
entry_lines (e ∷ es) = entry_line e.first e.kind e.second ++ entry_lines es

-- The same of the bytes of entries, three each.
unfoldable pub hex_lines : List ℕ → List ℕ
hex_lines [] = []
hex_lines (a ∷ []) = []
hex_lines (a ∷ b ∷ []) = []
hex_lines (a ∷ b ∷ c ∷ rest) = entry_line a b c ++ hex_lines rest

-- What is printed of a text, given what is printed of its table.
abbrev pub printed_of : (Table → List ℕ) → Answer Parsed → List ℕ
printed_of of_table (returned r) = of_table r.table
printed_of of_table (refused_by number line) = refusal_line number line

unfoldable pub list_printed : Answer Parsed → List ℕ
list_printed x = printed_of (λ t. entry_lines (entries t)) x

unfoldable pub struck_printed : List ℕ → Answer Parsed → List ℕ
struck_printed text x = printed_of (struck_text text) x

-- What is printed of an input, given what is printed of it as a text.
abbrev pub printed : List ℕ → List ℕ → List ℕ
printed as_text input = pick (leb (length input) most_input) as_text too_long

unfoldable pub rowlist_prints : List ℕ → List ℕ
rowlist_prints input = printed (list_printed (parse input)) input

unfoldable pub strike_prints : List ℕ → List ℕ
strike_prints input = printed (struck_printed input (parse input)) input

-- What is to be printed stands at the output's start, and its length is returned; if there is no room for it, nothing is done, and that is told.
pub record Prints (result before after : List ℕ) (r : Result ℕ Short) : Type 0 where
  pub output : after ≡ written result before
  pub answer : r ≡ pick (fits result before) (Ok (length result)) (Err short)
  -- the first n bytes stand in the output; in two ways, as a caller that takes this part of it is asked
  pub within : IfOk r (λ n. n ≤ length after)
  pub part : IfOk r (λ n. n ≡ length (take n after))
