-- Document 02, [2], "Joining two rows": what is promised of the call Join, for every text. Numbers of the documents stand here as they print them.
-- Assumes nothing.
use Rattle.std.specs.Prelude.{ℕ, ◌+◌, ◌*◌, ◌≤◌, ◌<◌, ◌≡◌, true, ◌↔◌, List, [], ◌∷◌, ◌++◌, length, drop, Ok, Err}
use Rattle.hexlines.specs.Lines.{is_line, bytes_of}
use Rattle.hexlines.specs.Letters.{InCapitals}
use Rattle.policy.specs.Model.{Coefficients, Selector, Table, extended, row_at, parent_of}
use Rattle.policy.specs.Wellformed.{Ordered}
use Rattle.base.specs.Answers.{returned}
use Rattle.base.specs.Bounds.{LeastAbove}
use Rattle.relations.specs.Entities.{Tree, root_of, AtOrAbove, lowest_above}
use Rattle.relations.specs.Coefficients.{AtLeast, larger}
use Rattle.relations.specs.Selectors.{Contains, hull}
use Rattle.relations.specs.Groups.{SameGroup}
use Rattle.joining.specs.Joining.{RowAbove, Joinable}
use Rattle.reader.specs.Frames.{a_row, frame_of}
use Rattle.reader.specs.States.{table_read, parse}
use Rattle.analyser.specs.Calls.{line_part, joined_row, joined_line, join_written}
use Rattle.analyser.specs.CallAnswers.{Only, SameAnswers, JoinAnswers}
use Rattle.calls.specs.Views.{refusal}

-- Each is ⪰ both, and whatever is ⪰ both is ⪰ it.
pub record UpperBounds : Type 1 where
  -- "the lowest entity that is ⪰ both", of one root
  pub lowest : (up : ℕ → ℕ) → Tree up → (e f : ℕ) → root_of up e ≡ root_of up f → LeastAbove (AtOrAbove up) e f (lowest_above up e f)
  -- "the larger of each coefficient", of any number of them
  pub coefficients : (c d : Coefficients) → length c ≡ length d → LeastAbove AtLeast c d (larger c d)
  -- "the smallest box holding both boxes", of any number of fields, over packets
  pub box : (s1 s2 : Selector) → length s1 ≡ length s2 → Ordered s1 → Ordered s2 → LeastAbove Contains s1 s2 (hull s1 s2)

-- Rows i and j of an accepted text, which can be joined:
pub record JoinedRows (text : List ℕ) (t : Table) (i j : ℕ) : Type 0 where
  -- "the call writes one row line without line feed .. It returns the length, .. what lies past a result stays unchanged"; 8 where there is no room
  pub written : (out : List ℕ) → length (joined_line i j t) ≤ length out
      → Only (JoinAnswers (parse text) i j out) (Ok (length (joined_line i j t)))
      × (join_written (parse text) i j out ≡ joined_line i j t ++ drop (length (joined_line i j t)) out)
  pub short : (out : List ℕ) → length out < length (joined_line i j t)
      → Only (JoinAnswers (parse text) i j out) (Err (refusal 8 0)) × (join_written (parse text) i j out ≡ out)
  -- the line says the joined row, "in capitals"
  pub line : is_line (joined_line i j t) ≡ true
  pub says : frame_of (bytes_of (joined_line i j t)) ≡ a_row (joined_row i j t)
  pub capitals : InCapitals (joined_line i j t)
  pub size : length (joined_line i j t) ≡ 2 * (35 + length (row_at t i).gateways)
  -- "the common .. holder, technology and G"
  pub common : SameGroup (joined_row i j t) (row_at t i) × SameGroup (joined_row i j t) (row_at t j)
  -- "the lowest entity that is ⪰ both sources, the same for destinations, the larger of each coefficient, the smallest box holding both boxes"
  pub source : LeastAbove (AtOrAbove (parent_of t)) (row_at t i).source (row_at t j).source (joined_row i j t).source
  pub destination : LeastAbove (AtOrAbove (parent_of t)) (row_at t i).destination (row_at t j).destination (joined_row i j t).destination
  pub coefficients : LeastAbove AtLeast (row_at t i).coefficients (row_at t j).coefficients (joined_row i j t).coefficients
  pub box : LeastAbove Contains (row_at t i).selector (row_at t j).selector (joined_row i j t).selector
  -- so it is ⪰ both rows "in source, destination, box and coefficients", and "every row that is ⪰ both .. is ⪰ the joined one"
  pub least : LeastAbove (RowAbove (parent_of t)) (row_at t i) (row_at t j) (joined_row i j t)
  -- it keeps the table's rules: the text with the line and a line feed is accepted, if it has less than 64 rows
  pub added : length t.rows < 64
      → parse (text ++ (joined_line i j t ++ (10 ∷ []))) ≡ returned (table_read (extended (joined_row i j t ∷ []) t))

-- Of an accepted text:
pub record JoinPromise (text : List ℕ) (t : Table) : Type 0 where
  -- "9", whether one is there or none
  pub no_row : (i j : ℕ) (out : List ℕ) → ((i < length t.rows) × (j < length t.rows) → ⊥)
      → Only (JoinAnswers (parse text) i j out) (Err (refusal 9 0)) × (join_written (parse text) i j out ≡ out)
  -- "11 when holder, technology, G or either end's root differ, after 9 and before 8; its line is 0", whatever the output
  pub differ : (i j : ℕ) (out : List ℕ) → i < length t.rows → j < length t.rows → (Joinable (parent_of t) (row_at t i) (row_at t j) → ⊥)
      → Only (JoinAnswers (parse text) i j out) (Err (refusal 11 0)) × (join_written (parse text) i j out ≡ out)
  -- two rows can be joined that have equal holder, technology and gateways, whose sources are of one device, some entity being ⪰ both, and so their
  -- destinations
  pub joinable : (i j : ℕ)
      → Joinable (parent_of t) (row_at t i) (row_at t j)
      ↔ (((row_at t i).holder ≡ (row_at t j).holder) × ((row_at t i).technology ≡ (row_at t j).technology) × ((row_at t i).gateways ≡ (row_at t j).gateways)
      × ((e : ℕ) × AtOrAbove (parent_of t) e (row_at t i).source × AtOrAbove (parent_of t) e (row_at t j).source)
      × ((e : ℕ) × AtOrAbove (parent_of t) e (row_at t i).destination × AtOrAbove (parent_of t) e (row_at t j).destination))
  pub rows : (i j : ℕ) → i < length t.rows → j < length t.rows → Joinable (parent_of t) (row_at t i) (row_at t j) → JoinedRows text t i j
  -- "a row with itself gives its own fields", and its own line, if that is in capitals
  pub itself : (i : ℕ) → i < length t.rows → Joinable (parent_of t) (row_at t i) (row_at t i) × (joined_row i i t ≡ row_at t i)
  pub own_line : (i : ℕ) → i < length t.rows → InCapitals (line_part text (parse text) i) → joined_line i i t ≡ line_part text (parse text) i

-- "Joining is commutative", in answer and bytes, of any text, any two numbers and any output. (A refused text's own number and line: `RefusedText`.)
abbrev pub Commutes : List ℕ → (i j : ℕ) → List ℕ → Type 0
Commutes text i j out =
    SameAnswers (JoinAnswers (parse text) i j out) (JoinAnswers (parse text) j i out) × (join_written (parse text) i j out ≡ join_written (parse text) j i out)
