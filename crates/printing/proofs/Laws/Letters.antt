-- Two inputs that differ only in the case of letters: rowlist prints the same of both, and what strike prints of them differs only so.
-- Assumes nothing.
use Prim.Native.Nat.{ℕ}
use mathlib.Core.Path.{◌≡◌}
use mathlib.Core.Bool.{Bool, true, false}
use mathlib.Core.List.{List}
use lib.Dec.{leb}
use lib.ListN.{length}
use Rattle.base.specs.Truths.{pick}
use Rattle.base.specs.Answers.{Answer, returned, refused_by}
use Rattle.base.proofs.Laws.Pairs.{pairwise_length}
use Rattle.hexlines.specs.Letters.{SameLetter, SameButCase}
use Rattle.hexlines.proofs.Laws.Letters.{case_itself}
use Rattle.reader.specs.States.{Parsed, parse}
use Rattle.reader.proofs.Laws.Letters.{parse_case}
use Rattle.striking.proofs.Laws.Letters.{struck_case}
use Rattle.printing.specs.Limits.{most_input}
use Rattle.printing.specs.Printed.{too_long, refusal_line, struck_printed, rowlist_prints, strike_prints}

module _ (a b : List ℕ) (h : SameButCase a b) where
  pub rowlist_case : rowlist_prints a ≡ rowlist_prints b
  unfolding rowlist_prints
  rowlist_case = rw (parse_case a b h, pairwise_length SameLetter a b h)

  pub strike_case : SameButCase (strike_prints a) (strike_prints b)
  unfolding strike_prints struck_printed
  strike_case = rw (parse_case a b h, pairwise_length SameLetter a b h) (go (leb (length b) most_input) (parse b))
    where
      go : (fits : Bool) (x : Answer Parsed) → SameButCase (pick fits (struck_printed a x) too_long) (pick fits (struck_printed b x) too_long)
      go true (returned r) = struck_case a b h r.table
      go true (refused_by number line) = case_itself (refusal_line number line)
      go false x = case_itself too_long
