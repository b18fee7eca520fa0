-- Two texts that differ only in the case of letters: so do their struck texts.
-- Assumes nothing.
use Prim.Native.Nat.{ℕ, ◌+◌}
use mathlib.Core.List.{List, [], map}
use lib.ListN.{get_or, take}
use Rattle.base.specs.Pairs.{Pairwise}
use Rattle.base.proofs.Laws.Pairs.{pairwise_at, pairwise_take, pairwise_append, pairwise_told}
use Rattle.hexlines.specs.Letters.{SameButCase}
use Rattle.policy.specs.Model.{Table, lines_before}
use Rattle.reader.specs.Lines.{lines_of}
use Rattle.reader.proofs.Laws.Letters.{lines_case, text_case}
use Rattle.striking.specs.Striking.{kept}
use Rattle.striking.specs.Texts.{kept_lines, struck_text}

-- The same lines of both are kept.
kept_case : (before : ℕ) (rows : List ℕ) (ls ms : List (List ℕ)) → Pairwise SameButCase ls ms
    → Pairwise SameButCase (kept_lines before rows ls) (kept_lines before rows ms)
kept_case before rows ls ms h =
    pairwise_append SameButCase (take before ls) (take before ms) (map (line ls) rows) (map (line ms) rows)
    (pairwise_take SameButCase before ls ms h)
    (pairwise_told SameButCase (line ls) (line ms) (λ i. pairwise_at SameButCase [] [] tt ls ms h (before + i)) rows)
  where
    line : List (List ℕ) → ℕ → List ℕ
    line lines i = get_or lines (before + i) []

pub struck_case : (a b : List ℕ) → SameButCase a b → (t : Table) → SameButCase (struck_text a t) (struck_text b t)
unfolding struck_text
struck_case a b h t =
    let before = lines_before 1 t in
    text_case (kept_lines before (kept t) (lines_of a)) (kept_lines before (kept t) (lines_of b))
    (kept_case before (kept t) (lines_of a) (lines_of b) (lines_case a b h))
