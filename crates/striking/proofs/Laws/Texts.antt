-- An accepted text with some of its rows' lines, by their numbers, is accepted, and its table has those rows. So is the struck text, whose
-- table is the struck table; it has the text's own lines, as they were written.
-- Assumes nothing.
use Prim.Native.Nat.{ℕ, suc, ◌+◌, ◌-◌, ◌≤◌, ◌<◌}
use mathlib.Core.Path.{◌≡◌}
use mathlib.Core.List.{List, [], ◌∷◌, ◌++◌, map}
use native.Mathlib.Omega.{arith}
use lib.ListN.{length, get_or, take, length-map}
use Rattle.base.specs.Answers.{returned}
use Rattle.policy.specs.Limits.{most_rows}
use Rattle.policy.specs.Model.{Table, with_rows, lines_before, row_at}
use Rattle.reader.specs.Lines.{lines_of, text_of}
use Rattle.reader.specs.States.{table_read, parse}
use Rattle.reader.proofs.Laws.Rows.{RowLine, RowLines, accepted_row, accepted_lines}
use Rattle.reader.proofs.Laws.Texts.{accepted_text_other_rows}
use Rattle.reader.proofs.Laws.Wellformed.{accepted_wellformed}
use Rattle.striking.specs.Striking.{kept, struck}
use Rattle.striking.specs.Texts.{kept_lines, struck_text}
use Rattle.striking.proofs.Laws.Kept.{kept_rows, kept_row}

module _ (text : List ℕ) (t : Table) (e : parse text ≡ returned (table_read t)) where
  abbrev line_at : ℕ → List ℕ
  line_at i = get_or (lines_of text) (lines_before 1 t + i) []

  -- the rows are the last lines
  before : length (lines_of text) - length t.rows ≡ lines_before 1 t
  before = let n = accepted_lines text t e in omega arith

  pub struck_written : struck_text text t
      ≡ text_of (take (length (lines_of text) - length t.rows) (lines_of text)
      ++ map (λ i. get_or (lines_of text) (length (lines_of text) - length t.rows + i) []) (kept t))
  unfolding struck_text
  struck_written = rw before

  row_line : (k : ℕ) → k < length t.rows → RowLine t (line_at k) (row_at t k)
  row_line k h = rw before at (accepted_row text t e k h)

  row_lines : (ks : List ℕ) → ((m : ℕ) → m < length ks → get_or ks m 0 < length t.rows) → RowLines t (map line_at ks) (map (row_at t) ks)
  row_lines [] h = tt
  row_lines (k ∷ ks) h = (row_line k (h 0 (omega arith)), row_lines ks (λ m b. h (suc m) (omega arith)))

  pub kept_parses : (ks : List ℕ) → length ks ≤ most_rows → ((m : ℕ) → m < length ks → get_or ks m 0 < length t.rows)
      → parse (text_of (kept_lines (lines_before 1 t) ks (lines_of text))) ≡ returned (table_read (with_rows (map (row_at t) ks) t))
  kept_parses ks few h =
      let n = length-map ks line_at in
      rw before at (accepted_text_other_rows text t e (map line_at ks) (map (row_at t) ks) (omega arith) (row_lines ks h))

  pub struck_parses : parse (struck_text text t) ≡ returned (table_read (struck t))
  unfolding struck_text
  struck_parses =
      let k = kept_rows t in
      let w = (accepted_wellformed text t e).counts.few_rows in
      kept_parses (kept t) (omega (arith, k.few)) (kept_row t)
