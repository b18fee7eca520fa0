-- The calls' answers as numbers, for a caller that takes a number alone.
-- Assumes nothing.
use Rattle.std.specs.Prelude.{ℕ}
use Rattle.base.specs.Answers.{Answer, returned, refused_by}
use Rattle.covers.specs.Least.{SearchResult, found, none}
use Rattle.analyser.specs.Calls.{TableCounts}

-- 0 for a text that is accepted, else 1.
abbrev pub check_code : Answer TableCounts → ℕ
check_code (returned counts) = 0
check_code (refused_by number line) = 1

-- 0 for a packet, 1 for a dead row, 2 for a refusal.
abbrev pub witness_code : Answer SearchResult → ℕ
witness_code (returned (found p)) = 0
witness_code (returned none) = 1
witness_code (refused_by number line) = 2
