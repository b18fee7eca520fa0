-- Document 01's limits, by name, and how many numbers the runs of a table have. The code's are in src/limits.rt.
-- Assumes nothing.
use Rattle.std.specs.Prelude.{ℕ, ◌+◌, ◌*◌}

-- "Sequence: 1 to 128 entities, six caps for technologies 1 to 6 in order, one floor, 0 to 32 filters, 0 to 64 rows."
abbrev pub most_entities : ℕ
most_entities = 128

-- The technologies besides NULL, which have a cap.
abbrev pub technologies : ℕ
technologies = 6

abbrev pub most_filters : ℕ
most_filters = 32

abbrev pub most_rows : ℕ
most_rows = 64

-- "n (0 to 8), then G, n gateway roots"
abbrev pub most_gateways : ℕ
most_gateways = 8

-- "three largest coefficients"
abbrev pub coefficient_count : ℕ
coefficient_count = 3

-- "low and high of five fields"
abbrev pub field_count : ℕ
field_count = 5

-- The bytes of the largest number that a field of the code's packets and ranges can hold.
abbrev pub number_width : ℕ
number_width = 16

-- ---- the runs of a table

-- The selectors of the rows, and after them those of the filters.
abbrev pub most_selectors : ℕ
most_selectors = most_rows + most_filters

-- A selector's words: two for each bound of the two addresses, one for the ports, one for the protocol.
abbrev pub word_count : ℕ
word_count = 2 * 4 + 1 + 1

-- A row's bytes besides its selector: holder, source, destination, technology, coefficients, the number of gateways, gateways.
abbrev pub head_count : ℕ
head_count = 8 + most_gateways
