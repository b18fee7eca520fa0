-- Document 02, [1], "Small letters from the installers' editor", on the calls and the programs, for every text.
-- Assumes nothing.
use Rattle.std.specs.Prelude.{ℕ, ◌+◌, ◌-◌, ◌<◌, ◌≡◌, List, [], ◌∷◌, ◌++◌, map, length, take, get_or}
use Rattle.hexlines.specs.Letters.{SameLetter, SameButCase}
use Rattle.hexlines.specs.Lines.{bytes_of}
use Rattle.policy.specs.Model.{Table, row_at}
use Rattle.reader.specs.Lines.{lines_of, text_of}
use Rattle.reader.specs.Frames.{a_row, frame_of}
use Rattle.reader.specs.States.{parse}
use Rattle.striking.specs.Striking.{kept}
use Rattle.striking.specs.Texts.{struck_text}
use Rattle.analyser.specs.Calls.{line_part, strike_written}
use Rattle.analyser.specs.CallAnswers.{SameAnswers, StrikeAnswers}
use Rattle.printing.specs.Printed.{rowlist_prints, strike_prints}

-- Row k's line of an accepted text, as it was written: the rows' lines are the last.
abbrev pub row_line : List ℕ → Table → ℕ → List ℕ
row_line text t k = get_or (lines_of text) (length (lines_of text) - length t.rows + k) []

-- "Strike and Line hand lines back as they were written, letters and all." (Of a text that is refused they hand back none: `RefusedText`.)
pub record AsWritten (text : List ℕ) (t : Table) : Type 0 where
  pub line : (k : ℕ) → k < length t.rows → line_part text (parse text) k ≡ row_line text t k
  -- which says the row
  pub says : (k : ℕ) → k < length t.rows → frame_of (bytes_of (line_part text (parse text) k)) ≡ a_row (row_at t k)
  pub struck_lines : struck_text text t ≡ text_of (take (length (lines_of text) - length t.rows) (lines_of text) ++ map (row_line text t) (kept t))

-- What it is to differ only so: a byte may be itself or the letter in its other case, a-f or A-F, at as many places.
pub record CaseLetters : Type 0 where
  pub same : (c : ℕ) → SameLetter c c
  pub small : (v : ℕ) → v < 6 → SameLetter (65 + v) (97 + v)
  pub capital : (v : ℕ) → v < 6 → SameLetter (97 + v) (65 + v)
  pub none : SameButCase [] []
  pub more : (c d : ℕ) (a b : List ℕ) → SameLetter c d → SameButCase a b → SameButCase (c ∷ a) (d ∷ b)

-- "Two texts that differ only in the case of letters must produce one list, one set of witnesses and one set of winners." Whatever they are,
-- accepted or refused:
pub record CasePromise (a b : List ℕ) : Type 0 where
  -- what is read is the same, table or refusal with its line, and so are the answers of all calls, which are defined on it
  pub read : parse a ≡ parse b
  -- what Line and Strike hand back differs as the texts do
  pub line : (k : ℕ) → SameButCase (line_part a (parse a) k) (line_part b (parse b) k)
  pub strike : (out : List ℕ)
      → SameAnswers (StrikeAnswers a (parse a) out) (StrikeAnswers b (parse b) out)
      × SameButCase (strike_written a (parse a) out) (strike_written b (parse b) out)
  pub struck_texts : (t : Table) → SameButCase (struck_text a t) (struck_text b t)
  -- and so do the programs
  pub rowlist_prints_lem : rowlist_prints a ≡ rowlist_prints b
  pub strike_prints_lem : SameButCase (strike_prints a) (strike_prints b)
