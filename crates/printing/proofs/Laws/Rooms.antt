-- How long what is printed can be: so much room loses nothing.
-- Assumes nothing.
use Prim.Native.Nat.{ℕ, ◌≤◌}
use mathlib.Core.Path.{◌≡◌, refl}
use mathlib.Core.List.{List}
use native.Mathlib.Decide.{dec_lt}
use native.Mathlib.Omega.{arith}
use lib.ListN.{length}
use Rattle.policy.specs.Model.{Table}
use Rattle.base.specs.Answers.{Answer, returned, refused_by}
use Rattle.reader.specs.States.{Parsed, table_read, parse}
use Rattle.reader.proofs.Laws.Wellformed.{accepted_wellformed}
use Rattle.kinds.specs.Entries.{entries}
use Rattle.kinds.proofs.Laws.Few.{entries_few}
use Rattle.striking.proofs.Laws.Bytes.{struck_shorter}
use Rattle.printing.specs.Limits.{most_input, most_printed}
use Rattle.printing.specs.Printed.{printed_of, printed, list_printed, struck_printed, rowlist_prints, strike_prints}
use Rattle.printing.proofs.Laws.Lines.{length_lines}
use Rattle.printing.proofs.Laws.Printed.{printed_long, printed_text}

-- A refusal's line has six bytes.
printed_room : (of_table : Table → List ℕ) (input : List ℕ) (n : ℕ) → 6 ≤ n
    → ((t : Table) → parse input ≡ returned (table_read t) → length input ≤ most_input → length (of_table t) ≤ n)
    → length (printed (printed_of of_table (parse input)) input) ≤ n
printed_room of_table input n six room =
    elim (dec_lt most_input (length input)) [
      | yes l ↦ rw (printed_long (printed_of of_table (parse input)) input l) (omega arith)
      | no l ↦ rw (printed_text (printed_of of_table (parse input)) input (omega arith)) (go (parse input) refl (omega arith))
    ]
  where
    go : (p : Answer Parsed) → parse input ≡ p → length input ≤ most_input → length (printed_of of_table p) ≤ n
    go (returned r) e l = room r.table e l
    go (refused_by number line) e l = six

pub rowlist_room : (input : List ℕ) → length (rowlist_prints input) ≤ most_printed
unfolding rowlist_prints list_printed
rowlist_room input =
    printed_room _ input most_printed (omega arith)
    (λ t e l. omega (arith, length_lines (entries t), entries_few t (accepted_wellformed input t e)))

pub strike_room : (input : List ℕ) → length (strike_prints input) ≤ most_input
unfolding strike_prints struck_printed
strike_room input = printed_room _ input most_input (omega arith) (λ t e l. omega (arith, struck_shorter input t e))
