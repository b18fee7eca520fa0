-- Texts that differ only in the case of letters:
--   lines_case, rest_case: so do their lines, one by one, and what stands after their last line feeds
--   text_case: so do the texts of such lines
--   parse_case: they are the same table, or the same refusal
-- Assumes nothing.
use mathlib.Core.Path.{◌≡◌, refl, sym, ap, ◌∙◌}
use mathlib.Core.Bool.{Bool, true, false}
use mathlib.Core.List.{List, [], ◌∷◌, ◌++◌}
use Prim.Native.Nat.{ℕ}
use native.Mathlib.Omega.{arith}
use lib.Dec.{eqb}
use Rattle.base.specs.Pairs.{Pairwise}
use Rattle.base.proofs.Laws.Pairs.{pairwise_length, pairwise_append, pairwise_as}
use Rattle.hexlines.specs.Letters.{SameLetter, SameButCase}
use Rattle.hexlines.proofs.Laws.Letters.{letter_itself, letter_other, is_line_case, bytes_of_case}
use Rattle.reader.specs.Lines.{line_feed, lines_from, rest_from, lines_of, rest_of, text_of}
use Rattle.reader.specs.States.{parse}
use Rattle.reader.proofs.Laws.Alike.{SameBytes, parse_alike}

-- Of two such texts, whose first lines have begun so too.
abbrev CutAlike : (x a y b : List ℕ) → Type 0
CutAlike x a y b = Pairwise SameButCase (lines_from x a) (lines_from y b) × SameButCase (rest_from x a) (rest_from y b)

cut_case : (x a y b : List ℕ) → SameButCase x y → SameButCase a b → CutAlike x a y b
unfolding lines_from rest_from
cut_case x [] y [] h k = (tt, h)
cut_case x [] y (d ∷ b) h k = absurd k
cut_case x (c ∷ a) y [] h k = absurd k
cut_case x (c ∷ a) y (d ∷ b) h k =
    go (eqb c line_feed) refl (cut_case [] a [] b tt k.1)
    (cut_case (x ++ (c ∷ [])) a (y ++ (d ∷ [])) b (pairwise_append SameLetter x y (c ∷ []) (d ∷ []) h (k.0, tt)) k.1)
  where
    both : eqb c line_feed ≡ eqb d line_feed
    both = letter_other line_feed c d (omega arith) k.0

    go : (t : Bool) → eqb c line_feed ≡ t → CutAlike [] a [] b → CutAlike (x ++ (c ∷ [])) a (y ++ (d ∷ [])) b → CutAlike x (c ∷ a) y (d ∷ b)
    go true e ended on = rw (e, sym both ∙ e, lines_from, rest_from) ((h, ended.0), ended.1)
    go false e ended on = rw (e, sym both ∙ e, lines_from, rest_from) on

pub text_case : (ls ms : List (List ℕ)) → Pairwise SameButCase ls ms → SameButCase (text_of ls) (text_of ms)
text_case [] [] h = tt
text_case [] (m ∷ ms) h = absurd h
text_case (l ∷ ls) [] h = absurd h
text_case (l ∷ ls) (m ∷ ms) h =
    pairwise_append SameLetter l m (line_feed ∷ text_of ls) (line_feed ∷ text_of ms) h.0 (letter_itself line_feed, text_case ls ms h.1)

module _ (a b : List ℕ) (h : SameButCase a b) where
  pub lines_case : Pairwise SameButCase (lines_of a) (lines_of b)
  lines_case = (cut_case [] a [] b tt h).0

  pub rest_case : SameButCase (rest_of a) (rest_of b)
  rest_case = (cut_case [] a [] b tt h).1

  pub parse_case : parse a ≡ parse b
  parse_case =
      parse_alike a b
      (pairwise_as SameButCase SameBytes (λ l m k. (is_line_case l m k, bytes_of_case l m k)) (lines_of a) (lines_of b) lines_case)
      (ap (λ (n : ℕ). eqb n 0) (pairwise_length SameLetter (rest_of a) (rest_of b) rest_case))
