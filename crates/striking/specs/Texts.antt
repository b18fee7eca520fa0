-- Document 01, "Strike writes the text without its dead rows' lines".
-- Assumes nothing.
use Rattle.std.specs.Prelude.{ℕ, ◌+◌, List, [], ◌++◌, map, get_or, take}
use Rattle.policy.specs.Model.{Table, lines_before}
use Rattle.reader.specs.Lines.{lines_of, text_of}
use Rattle.striking.specs.Striking.{kept}

-- Of lines of which `before` stand before the rows: those, and the lines of the rows of these numbers, as they were written.
abbrev pub kept_lines : ℕ → List ℕ → List (List ℕ) → List (List ℕ)
kept_lines before rows lines = take before lines ++ map (λ i. get_or lines (before + i) []) rows

-- The text of a table, struck.
unfoldable pub struck_text : List ℕ → Table → List ℕ
struck_text text t = text_of (kept_lines (lines_before 1 t) (kept t) (lines_of text))
