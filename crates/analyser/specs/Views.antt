-- What the code's answers stand for: the number and the values of each case, in document 01's terms. (That of Witness and Mesh is in `calls`.)
-- Assumes nothing.
use Rattle.std.specs.Prelude.{ℕ, Result, Ok, Err, Option}
use Rattle.base.specs.Answers.{Answer, returned, refused_by}
use Rattle.base.specs.declared.Short.{Short}
use Rattle.frames.specs.Refusals.{short_output}
use Rattle.frames.specs.declared.refusals.Refusal.{Refusal}
use Rattle.calls.specs.Views.{answer_of}
use Rattle.analyser.specs.Calls.{TableCounts, RowOrNobody, outcome_of}
use Rattle.analyser.specs.declared.Counts.{Counts}

abbrev pub table_counts : Counts → TableCounts
table_counts c = record { entities = c.entities; filters = c.filters; rows = c.rows }

abbrev pub check_answer : Result Counts Refusal → Answer TableCounts
check_answer r = answer_of table_counts r

abbrev pub winner_answer : Result (Option ℕ) Refusal → Answer RowOrNobody
winner_answer r = answer_of outcome_of r

abbrev pub count_answer : Result ℕ Refusal → Answer ℕ
count_answer r = answer_of (λ n. n) r

-- What is answered of a result, once all other conditions are kept: its length or count, or that the output is shorter.
abbrev pub room_answer : Result ℕ Short → Answer ℕ
room_answer (Ok n) = returned n
room_answer (Err e) = refused_by short_output 0
