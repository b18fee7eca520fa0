-- Document 01, "Programs": how much the programs read and print. The code's are in src/limits.rt.
-- Assumes nothing.
use Rattle.std.specs.Prelude.{ℕ, ◌*◌}
use Rattle.kinds.specs.Entries.{most_entries}

-- "Both read standard input of up to 16 KiB."
abbrev pub most_input : ℕ
most_input = 16384

-- "six digits a line"
abbrev pub line_bytes : ℕ
line_bytes = 7

-- The lines of the most entries.
abbrev pub most_printed : ℕ
most_printed = line_bytes * most_entries
