-- The struck text byte by byte.
-- Assumes nothing.
use Rattle.std.specs.Prelude.{ℕ, suc, Bool, true, false, List, [], ◌∷◌, eqb}
use Rattle.base.specs.Truths.{pick}
use Rattle.reader.specs.Lines.{line_feed}

-- The place of the next byte's line: a line feed is of the line that it ends.
abbrev pub next_place : ℕ → ℕ → ℕ
next_place n c = pick (eqb c line_feed) (suc n) n

-- The bytes of the lines that are kept, of a text whose first line is at place n.
unfoldable pub kept_bytes : (ℕ → Bool) → ℕ → List ℕ → List ℕ
kept_bytes keep n [] = []
kept_bytes keep n (c ∷ text) =
    elim (keep n) [ true ↦ c ∷ kept_bytes keep (next_place n c) text | false ↦ kept_bytes keep (next_place n c) text ]
