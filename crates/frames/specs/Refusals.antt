-- Document 01's table of returns, and document 02's further numbers: the numbers of refusals, by name. The code's are in src/refusals.rt.
-- Assumes nothing.
use Rattle.std.specs.Prelude.{ℕ}

-- "empty line, other character, odd digits, last line without line feed"
abbrev pub no_line : ℕ
no_line = 1

-- "unknown kind, length not the kind's, n above 8"; document 02, [7]: "an action above 1"
abbrev pub wrong_form : ℕ
wrong_form = 2

-- "the sequence can't go on so; a text ending before the floor"
abbrev pub out_of_sequence : ℕ
out_of_sequence = 3

-- "entity breaks its rules"
abbrev pub bad_entity : ℕ
bad_entity = 4

-- "holder, filter root or gateway isn't a root; s or d no entity; t above 6"
abbrev pub bad_number : ℕ
bad_number = 5

-- "a low above its high"
abbrev pub empty_range : ℕ
empty_range = 6

-- "NULL with a coefficient above 0"
abbrev pub protected_null : ℕ
protected_null = 7

-- The largest number with which a text itself is refused.
abbrev pub last_of_text : ℕ
last_of_text = protected_null

-- "output shorter than the result"
abbrev pub short_output : ℕ
short_output = 8

-- "no such row"
abbrev pub no_such_row : ℕ
no_such_row = 9

-- "a or b no entity"
abbrev pub no_such_entity : ℕ
no_such_entity = 10

-- Document 02, [2]: "when holder, technology, G or either end's root differ"
abbrev pub not_joinable : ℕ
not_joinable = 11

-- Document 02, [5]: "when the side is above 1"
abbrev pub no_such_side : ℕ
no_such_side = 12
