-- Document 01, "The six calls", and document 02, [2] and [5]: the answers of the calls, and their outputs, for every input. Each is a call on x, what reading
-- the text gives: the text's refusal, else that of the first condition that is broken, else a value. Where lines are handed back, it takes the text too. "The first faulty line counts ..; then 9, 10, 8."
-- Assumes nothing.
use Rattle.std.specs.Prelude.{ℕ, ◌+◌, ◌*◌, List, [], ◌∷◌, ◌++◌, ltb, length, get_or, Option, Some, None}
use Rattle.base.specs.Outputs.{fits}
use Rattle.base.specs.Checks.{Check, or_else}
use Rattle.base.specs.Answers.{Answer, returned, refused_by, told, value_or, wrote, call_on}
use Rattle.policy.specs.Model.{Packet, Row, Table, lines_before, row_at, parent_of}
use Rattle.relations.specs.Groups.{winner}
use Rattle.joining.specs.Joining.{joinable, joined}
use Rattle.prefixes.specs.Prefixes.{Prefix, prefixes}
use Rattle.prefixes.specs.Bytes.{address_bytes, prefix_bytes}
use Rattle.prefixes.specs.Sides.{is_side, side_of}
use Rattle.frames.specs.Parts.{box_widths}
use Rattle.frames.specs.Refusals.{short_output, no_such_entity, not_joinable, no_such_side}
use Rattle.frames.specs.Kinds.{of_row, describe}
use Rattle.frames.specs.Rows.{line_of_row}
use Rattle.reader.specs.Lines.{lines_of}
use Rattle.reader.specs.States.{Parsed}
use Rattle.covers.specs.Least.{SearchResult}
use Rattle.verdicts.specs.Verdicts.{verdict_on}
use Rattle.calls.specs.Rows.{has_row, on_row}
use Rattle.kinds.specs.Entries.{entries}
use Rattle.listing.specs.Bytes.{bytes}
use Rattle.striking.specs.Texts.{struck_text}

-- ---- conditions

-- "a or b no entity"
abbrev pub has_entity : ℕ → Table → Check
has_entity e t = or_else (ltb e (length t.entities)) no_such_entity

-- Document 02, [2]: "11 when holder, technology, G or either end's root differ"
abbrev pub can_join : ℕ → ℕ → Table → Check
can_join i j t = or_else (joinable (parent_of t) (row_at t i) (row_at t j)) not_joinable

-- Document 02, [5]: "12 when the side is above 1"
abbrev pub has_side : ℕ → Check
has_side side = or_else (is_side side) no_such_side

-- "output shorter than the result"
abbrev pub has_room : List ℕ → List ℕ → Check
has_room result out = or_else (fits result out) short_output

-- ---- Check and Line

-- "Check: counts of entities, filters and rows."
pub record TableCounts : Type 0 where
  pub entities : ℕ
  pub filters : ℕ
  pub rows : ℕ

abbrev pub counts_of : Table → TableCounts
counts_of t = record { entities = length t.entities; filters = length t.filters; rows = length t.rows }

unfoldable pub check_of : Answer Parsed → Answer TableCounts
check_of x = call_on (λ r. []) (λ r. counts_of r.table) x

-- Row k's line is the one after those before the rows, and k rows.
abbrev pub line_in : List ℕ → ℕ → Table → List ℕ
line_in text k t = get_or (lines_of text) (lines_before 1 t + k) []

-- "Line, of a row: that part of the caller's own text, without line feed. Any refusal gives the empty part and no number."
unfoldable pub line_part : List ℕ → Answer Parsed → ℕ → List ℕ
line_part text x k = value_or [] (on_row (λ t i. line_in text i t) x k)

-- ---- Witness and Winner

-- "Witness, of a row: either dead, or the least packet for which the row wins the probe with its own s and d."
unfoldable pub witness_of : Answer Parsed → ℕ → Answer SearchResult
witness_of x k = on_row verdict_on x k

-- "the winning row or none"
pub data RowOrNobody : Type 0 where
  winning_row : ℕ → RowOrNobody
  nobody_wins : RowOrNobody

abbrev pub outcome_of : Option ℕ → RowOrNobody
outcome_of (Some i) = winning_row i
outcome_of None = nobody_wins

-- "Winner, of a row naming the group and a probe: the winning row or none."
unfoldable pub winner_of : Answer Parsed → (k a b : ℕ) → Packet → Answer RowOrNobody
winner_of x k a b p =
    call_on (λ r. has_row k r.table ∷ has_entity a r.table ∷ has_entity b r.table ∷ []) (λ r. outcome_of (winner r.table k a b p)) x

-- ---- List and Strike

-- The answer of a call that writes its value, as the bytes `result` gives: these conditions first, and last that the output has room.
abbrev pub writing : {A : Type 0} → (Table → List Check) → (A → List ℕ) → (Table → A) → List ℕ → Answer Parsed → Answer A
writing conditions result value out x =
    call_on (λ r. conditions r.table ++ (has_room (result (value r.table)) out ∷ [])) (λ r. value r.table) x

-- No conditions.
abbrev pub no_conditions : Table → List Check
no_conditions t = []

-- "List writes three bytes an entry (first row, kind, second number) in ascending order, .. and returns the count."
unfoldable pub list_of : Answer Parsed → List ℕ → Answer ℕ
list_of x out = told length (writing no_conditions bytes entries out x)

unfoldable pub list_written : Answer Parsed → List ℕ → List ℕ
list_written x out = wrote bytes (writing no_conditions bytes entries out x) out

-- "Strike writes the text without its dead rows' lines and returns its length."
unfoldable pub strike_of : List ℕ → Answer Parsed → List ℕ → Answer ℕ
strike_of text x out = told length (writing no_conditions (λ l. l) (struck_text text) out x)

unfoldable pub strike_written : List ℕ → Answer Parsed → List ℕ → List ℕ
strike_written text x out = wrote (λ l. l) (writing no_conditions (λ l. l) (struck_text text) out x) out

-- ---- Join

-- The row that rows i and j are joined to.
abbrev pub joined_row : ℕ → ℕ → Table → Row
joined_row i j t = joined (parent_of t) (row_at t i) (row_at t j)

-- "one row line without line feed .., in capitals", of "the common frame kind".
abbrev pub joined_line : ℕ → ℕ → Table → List ℕ
joined_line i j t = line_of_row (describe of_row).byte box_widths (joined_row i j t)

-- "11 .., after 9 and before 8"
abbrev pub join_conditions : ℕ → ℕ → Table → List Check
join_conditions i j t = has_row i t ∷ has_row j t ∷ can_join i j t ∷ []

-- "Given two row numbers, the call writes one row line .. It returns the length, .. what lies past a result stays unchanged."
unfoldable pub join_of : Answer Parsed → (i j : ℕ) → List ℕ → Answer ℕ
join_of x i j out = told length (writing (join_conditions i j) (λ l. l) (joined_line i j) out x)

unfoldable pub join_written : Answer Parsed → (i j : ℕ) → List ℕ → List ℕ
join_written x i j out = wrote (λ l. l) (writing (join_conditions i j) (λ l. l) (joined_line i j) out x) out

-- ---- Prefixes

-- "For a row and a side .., .. the range's prefixes"
abbrev pub row_prefixes : ℕ → ℕ → Table → List Prefix
row_prefixes k side t = prefixes (8 * address_bytes) (side_of side (row_at t k).selector)

-- "12 .., after 9 and before 8"
abbrev pub prefix_conditions : ℕ → ℕ → Table → List Check
prefix_conditions k side t = has_row k t ∷ has_side side ∷ []

-- "write the range's prefixes .., with the count returned"
unfoldable pub prefixes_of : Answer Parsed → (k side : ℕ) → List ℕ → Answer ℕ
prefixes_of x k side out = told length (writing (prefix_conditions k side) (prefix_bytes address_bytes) (row_prefixes k side) out x)

unfoldable pub prefixes_written : Answer Parsed → (k side : ℕ) → List ℕ → List ℕ
prefixes_written x k side out =
    wrote (prefix_bytes address_bytes) (writing (prefix_conditions k side) (prefix_bytes address_bytes) (row_prefixes k side) out x) out

-- ---- List for C

-- "65,536 × refusal"
abbrev pub refusal_weight : ℕ
refusal_weight = 65536

-- "a number in return: the count, or 65,536 × refusal + line"
abbrev pub packed : Answer ℕ → ℕ
packed (returned n) = n
packed (refused_by number line) = refusal_weight * number + line
