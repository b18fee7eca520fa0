-- What is printed of an input, by what it is: longer than a text may be, a refused text, an accepted one; and that it stands whole in an output with room.
-- Assumes nothing.
use Prim.Native.Nat.{ℕ, ◌≤◌}
use mathlib.Core.Path.{◌≡◌, refl, sym, ◌∙◌}
use mathlib.Core.List.{List, [], ◌∷◌, ◌++◌}
use lib.ListN.{length, take, drop}
use lib.Seq.{take-append_seam, drop-append_seam}
use Rattle.std.specs.Prelude.{Result, Ok}
use Rattle.base.specs.declared.Short.{Short}
use Rattle.base.specs.Answers.{returned, refused_by}
use Rattle.base.proofs.Laws.Outputs.{fits_all, written_all}
use Rattle.policy.specs.Model.{Table}
use Rattle.reader.specs.States.{table_read, parse}
use Rattle.kinds.specs.Entries.{Entry, entries}
use Rattle.striking.specs.Texts.{struck_text}
use Rattle.printing.specs.Limits.{most_input}
use Rattle.printing.specs.Printed.{refusal_line, entry_line, entry_lines, printed_of, printed, list_printed, struck_printed, rowlist_prints, strike_prints, Prints}
use Rattle.printing.proofs.Laws.Printed.{printed_text}

module _ (of_table : Table → List ℕ) (input : List ℕ) (short : length input ≤ most_input) where
  printed_refused : (number line : ℕ) → parse input ≡ refused_by number line → printed (printed_of of_table (parse input)) input ≡ refusal_line number line
  printed_refused number line e = printed_text (printed_of of_table (parse input)) input short ∙ rw e

  printed_accepted : (t : Table) → parse input ≡ returned (table_read t) → printed (printed_of of_table (parse input)) input ≡ of_table t
  printed_accepted t e = printed_text (printed_of of_table (parse input)) input short ∙ rw e

module _ (input : List ℕ) (short : length input ≤ most_input) where
  pub rowlist_refused : (number line : ℕ) → parse input ≡ refused_by number line → rowlist_prints input ≡ refusal_line number line
  unfolding rowlist_prints list_printed
  rowlist_refused = printed_refused (λ t. entry_lines (entries t)) input short

  pub rowlist_accepted : (t : Table) → parse input ≡ returned (table_read t) → rowlist_prints input ≡ entry_lines (entries t)
  unfolding rowlist_prints list_printed
  rowlist_accepted = printed_accepted (λ t. entry_lines (entries t)) input short

  pub strike_refused : (number line : ℕ) → parse input ≡ refused_by number line → strike_prints input ≡ refusal_line number line
  unfolding strike_prints struck_printed
  strike_refused = printed_refused (struck_text input) input short

  pub strike_accepted : (t : Table) → parse input ≡ returned (table_read t) → strike_prints input ≡ struck_text input t
  unfolding strike_prints struck_printed
  strike_accepted = printed_accepted (struck_text input) input short

-- ---- the lines of entries

pub lines_none : entry_lines [] ≡ []
unfolding entry_lines
lines_none = refl

pub lines_more : (e : Entry) (es : List Entry) → entry_lines (e ∷ es) ≡ entry_line e.first e.kind e.second ++ entry_lines es
unfolding entry_lines
lines_more e es = refl

-- ---- the output

pub prints_whole : (result before after : List ℕ) (r : Result ℕ Short) → length result ≤ length before → Prints result before after r
    → (r ≡ Ok (length result)) × (take (length result) after ≡ result) × (drop (length result) after ≡ drop (length result) before)
prints_whole result before after r h p =
    let whole : after ≡ result ++ drop (length result) before = p.output ∙ sym (written_all result before h) in (
      p.answer ∙ rw (fits_all result before h),
      rw whole (take-append_seam result (drop (length result) before)),
      rw whole (drop-append_seam result (drop (length result) before)),
    )
