-- Document 01, "The table text": what several kinds of frames have, a byte at a place, coefficients and a box. A box is of any widths.
-- Assumes nothing.
use Rattle.std.specs.Prelude.{ℕ, ◌+◌, ◌*◌, ◌≡◌, List, [], ◌∷◌, ◌++◌, length, get_or}
use Rattle.hexlines.specs.Numbers.{number_of, field, number_bytes}
use Rattle.policy.specs.Model.{Coefficients, Range, Selector}

-- Three coefficients, a byte each, from place `at` on.
abbrev pub coefficients_from : ℕ → List ℕ → Coefficients
coefficients_from at bs = get_or bs at 0 ∷ get_or bs (at + 1) 0 ∷ get_or bs (at + 2) 0 ∷ []

-- The low and the high of a field of this width, from place `at` on.
unfoldable pub range_from : ℕ → ℕ → List ℕ → Range
range_from at width bs = record { low = field at width bs; high = field (at + width) width bs }

-- The box whose fields have these widths, from place `at` on.
abbrev pub selector_from : ℕ → List ℕ → List ℕ → Selector
selector_from at [] bs = []
selector_from at (w ∷ ws) bs = range_from at w bs ∷ selector_from (at + 2 * w) ws bs

-- "Numbers are most significant byte first": `width` bytes say the number.
abbrev pub SaysNumber : ℕ → List ℕ → ℕ → Type 0
SaysNumber width bs n = (length bs ≡ width) × (number_of bs ≡ n)

-- "A box has low and high of five fields": the bytes say them, of fields with these widths.
abbrev pub SaysBox : List ℕ → List ℕ → Selector → Type 0
SaysBox [] bs [] = bs ≡ []
SaysBox [] bs (r ∷ s) = ⊥
SaysBox (w ∷ ws) bs [] = ⊥
SaysBox (w ∷ ws) bs (r ∷ s) =
    (low : List ℕ) × (high : List ℕ) × (rest : List ℕ) × (bs ≡ low ++ (high ++ rest))
    × SaysNumber w low r.low × SaysNumber w high r.high × SaysBox ws rest s

-- The bytes of a range, of a field of this width: its low, then its high.
abbrev pub bytes_of_range : ℕ → Range → List ℕ
bytes_of_range width r = number_bytes width r.low ++ number_bytes width r.high

-- The bytes of a box, of fields with these widths.
abbrev pub bytes_of_box : List ℕ → Selector → List ℕ
bytes_of_box [] s = []
bytes_of_box (w ∷ ws) [] = []
bytes_of_box (w ∷ ws) (r ∷ s) = bytes_of_range w r ++ bytes_of_box ws s

-- The widest number that the code reads from a line or writes to one, in bytes.
abbrev pub most_width : ℕ
most_width = 8

-- How many bytes such a box has: low and high of each field.
abbrev pub box_bytes : List ℕ → ℕ
box_bytes [] = 0
box_bytes (w ∷ ws) = 2 * w + box_bytes ws

-- The widths of a box with addresses of `address` bytes: source and destination address, source and destination port, protocol.
abbrev pub box_of : ℕ → List ℕ
box_of address = address ∷ address ∷ 2 ∷ 2 ∷ 1 ∷ []

-- "source address (4 bytes each), destination address (4), source port (2), destination port (2), protocol (1)"
abbrev pub box_widths : List ℕ
box_widths = box_of 4
