-- Two texts that differ only in the case of letters: so do Line's parts, and what Strike leaves in the output, whose answers are the same.
-- Assumes nothing.
use Prim.Native.Nat.{ℕ, ◌+◌}
use mathlib.Core.Path.{◌≡◌, refl, ap}
use mathlib.Core.Bool.{Bool, true, false}
use mathlib.Core.List.{List, [], ◌∷◌}
use lib.Dec.{ltb}
use lib.ListN.{length, drop}
use Rattle.base.specs.Checks.{or_else}
use Rattle.base.specs.Answers.{Answer, returned, refused_by, told, value_or, given, wrote}
use Rattle.base.specs.Outputs.{fits}
use Rattle.base.proofs.Laws.Pairs.{pairwise_length, pairwise_at, pairwise_append}
use Rattle.hexlines.specs.Letters.{SameLetter, SameButCase}
use Rattle.hexlines.proofs.Laws.Letters.{case_itself}
use Rattle.policy.specs.Model.{Table, lines_before}
use Rattle.frames.specs.Refusals.{short_output, no_such_row}
use Rattle.reader.specs.Lines.{lines_of}
use Rattle.reader.specs.States.{Parsed, parse}
use Rattle.reader.proofs.Laws.Letters.{lines_case, parse_case}
use Rattle.striking.specs.Texts.{struck_text}
use Rattle.striking.proofs.Laws.Letters.{struck_case}
use Rattle.calls.specs.Rows.{on_row}
use Rattle.analyser.specs.Calls.{line_in, line_part, writing, no_conditions, strike_of, strike_written}

-- ---- a call that writes one of two such results

-- The answer that tells the length, and the output.
abbrev WrittenAlike : (out : List ℕ) → (x y : Answer (List ℕ)) → Type 0
WrittenAlike out x y = (told length x ≡ told length y) × SameButCase (wrote (λ l. l) x out) (wrote (λ l. l) y out)

written_case : (out l m : List ℕ) → SameButCase l m
    → WrittenAlike out (given (or_else (fits l out) short_output ∷ []) l) (given (or_else (fits m out) short_output ∷ []) m)
written_case out l m h = rw long (go (fits m out))
  where
    long : length l ≡ length m
    long = pairwise_length SameLetter l m h

    go : (b : Bool) → WrittenAlike out (given (or_else b short_output ∷ []) l) (given (or_else b short_output ∷ []) m)
    go true = (ap returned long, rw long (pairwise_append SameLetter l m _ _ h (case_itself (drop (length m) out))))
    go false = (refl, case_itself out)

module _ (a b : List ℕ) (h : SameButCase a b) where
  pub line_case : (k : ℕ) → SameButCase (line_part a (parse a) k) (line_part b (parse b) k)
  unfolding line_part
  line_case k = rw (parse_case a b h) (go (parse b))
    where
      part : List ℕ → Answer Parsed → List ℕ
      part text x = value_or [] (on_row (λ t i. line_in text i t) x k)

      part_if : Bool → List ℕ → Table → List ℕ
      part_if there text t = value_or [] (given (or_else there no_such_row ∷ []) (line_in text k t))

      at : (there : Bool) (t : Table) → SameButCase (part_if there a t) (part_if there b t)
      at true t = pairwise_at SameButCase [] [] tt (lines_of a) (lines_of b) (lines_case a b h) (lines_before 1 t + k)
      at false t = tt

      go : (x : Answer Parsed) → SameButCase (part a x) (part b x)
      go (returned r) = at (ltb k (length r.table.rows)) r.table
      go (refused_by number line) = tt

  pub strike_case : (out : List ℕ)
      → (strike_of a (parse a) out ≡ strike_of b (parse b) out) × SameButCase (strike_written a (parse a) out) (strike_written b (parse b) out)
  unfolding strike_of strike_written
  strike_case out = rw (parse_case a b h) (go (parse b))
    where
      go : (x : Answer Parsed) → WrittenAlike out (writing no_conditions (λ l. l) (struck_text a) out x) (writing no_conditions (λ l. l) (struck_text b) out x)
      go (returned r) = written_case out (struck_text a r.table) (struck_text b r.table) (struck_case a b h r.table)
      go (refused_by number line) = (refl, case_itself out)
