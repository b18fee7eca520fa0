-- How many bytes were moved by reads or writes, all of them or up to one that failed.
-- Assumes nothing.
use Rattle.std.specs.Prelude.{ℕ, Result, Ok, Err}
use Rattle.standard.specs.declared.Broken.{Broken}

abbrev pub moved : Result ℕ Broken → ℕ
moved (Ok n) = n
moved (Err broken) = broken.length
