-- Document 01, "The table text": "each line ended by a line feed".
-- Assumes nothing.
use Rattle.std.specs.Prelude.{ℕ, zero, suc, ◌≡◌, true, false, Option, Some, None, List, [], ◌∷◌, ◌++◌, eqb}
use Rattle.std.specs.Borrow.{Bor}
use Rattle.base.specs.Truths.{pick}
use Rattle.reader.specs.declared.lines.Lines.{Lines}

abbrev pub line_feed : ℕ
line_feed = 10

-- The lines that a line feed ends, without it, of a text whose first line has begun.
unfoldable pub lines_from : List ℕ → List ℕ → List (List ℕ)
lines_from line [] = []
lines_from line (c ∷ text) =
    elim (eqb c line_feed) [ true ↦ line ∷ lines_from [] text | false ↦ lines_from (line ++ (c ∷ [])) text ]

-- What stands after the last line feed.
unfoldable pub rest_from : List ℕ → List ℕ → List ℕ
rest_from line [] = line
rest_from line (c ∷ text) =
    elim (eqb c line_feed) [ true ↦ rest_from [] text | false ↦ rest_from (line ++ (c ∷ [])) text ]

abbrev pub lines_of : List ℕ → List (List ℕ)
lines_of text = lines_from [] text

abbrev pub rest_of : List ℕ → List ℕ
rest_of text = rest_from [] text

-- The text of some lines: each ended by a line feed.
abbrev pub text_of : List (List ℕ) → List ℕ
text_of [] = []
text_of (line ∷ lines) = line ++ (line_feed ∷ text_of lines)

-- ---- where the lines stand

-- How many characters the first line has: those before the first line feed, or all where there is none.
abbrev pub line_length : List ℕ → ℕ
line_length [] = 0
line_length (c ∷ text) = pick (eqb c line_feed) 0 (suc (line_length text))

-- Where the line at place n starts, past n line feeds, or the text's end where there are fewer.
abbrev pub line_start : List ℕ → ℕ → ℕ
line_start text zero = 0
line_start [] (suc n) = 0
line_start (c ∷ text) (suc n) = suc (pick (eqb c line_feed) (line_start text n) (line_start text (suc n)))

-- ---- one line after the other

-- What is given of the lines that are unread: the first one, and what follows its line feed is unread then; where there is none, what is
-- unread stays so.
abbrev pub GivesLine : Lines → Option (Bor (List ℕ)) → Lines → Type 0
GivesLine before None after = (lines_of before.unread.now ≡ []) × (after.unread.now ≡ before.unread.now)
GivesLine before (Some line) after =
    (lines_of before.unread.now ≡ line.now ∷ lines_of after.unread.now) × (rest_of before.unread.now ≡ rest_of after.unread.now)
