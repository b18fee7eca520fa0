-- Document 02, [6], "Rows added at the end": what is promised of the calls, for every accepted text and every run of row lines that may follow it in an
-- accepted text. Numbers of the documents stand here as they print them.
-- "Kinds 12, 16 and 19 may change for old rows, and new pairs may appear; this statement leaves those out." Nor does it say who wins a probe that nobody won: a
-- new row may. Executed texts show each of these changing (`season_..`, crates/answers).
-- Assumes nothing.
use Rattle.std.specs.Prelude.{ℕ, ◌*◌, ◌<◌, ◌≡◌, ◌↔◌, List, [], ◌∷◌, ◌++◌, length, take, drop, Ok, Some}
use Rattle.policy.specs.Model.{Row, Table, extended, row_at}
use Rattle.base.specs.Answers.{returned}
use Rattle.relations.specs.Groups.{SameGroup}
use Rattle.relations.specs.declared.group.Probe.{Probe}
use Rattle.reader.specs.States.{table_read, parse}
use Rattle.reader.specs.Rules.{RowRun}
use Rattle.kinds.specs.Extended.{MayChange, OfOldThings}
use Rattle.mesh_call.specs.Calls.{MeshAnswers}
use Rattle.analyser.specs.Calls.{list_written}
use Rattle.analyser.specs.CallAnswers.{SameAnswers, WitnessAnswers, WinnerAnswers, ListAnswers}

-- List, given this output, writes the entry: among those that it counts, one has these three bytes.
pub record Lists (text out : List ℕ) (i kind j : ℕ) : Type 0 where
  pub count : ℕ
  pub counted : ListAnswers (parse text) out (Ok count)
  pub place : ℕ
  pub inside : place < count
  pub three : take 3 (drop (3 * place) (list_written (parse text) out)) ≡ i ∷ kind ∷ j ∷ []

-- The entry is in the one text's list exactly when it is in the other's, given space for both.
abbrev pub BothList : (text other : List ℕ) (i kind j : ℕ) → Type 0
BothList text other i kind j = (out lent : List ℕ) (n m : ℕ) → ListAnswers (parse text) out (Ok n) → ListAnswers (parse other) lent (Ok m)
    → Lists text out i kind j ↔ Lists other lent i kind j

-- Of a text that gives the table t, a run of lines of the rows `added`, and the two together, which give the table u:
pub record AnswersStand (text more : List ℕ) (added : List Row) (t u : Table) : Type 0 where
  -- the old rows stand first, with their numbers; nothing but the rows is changed
  pub table : u ≡ extended added t
  -- "each old row keeps its dead mark": its entry of kind 20 is in the one list exactly when it is in the other,
  pub dead_mark : (i : ℕ) → i < length t.rows → BothList text (text ++ more) i 20 255
  -- "or its witness", by either method,
  pub witness : (i : ℕ) → i < length t.rows → SameAnswers (WitnessAnswers (parse (text ++ more)) i) (WitnessAnswers (parse text) i)
  pub mesh : (i : ℕ) → i < length t.rows → SameAnswers (MeshAnswers (parse (text ++ more)) i) (MeshAnswers (parse text) i)
  -- "and a probe that had a winner keeps that winner", whichever old row names the group,
  pub winner : (g : ℕ) (p : Probe) (i : ℕ) → WinnerAnswers (parse text) g p (Ok (Some i)) → WinnerAnswers (parse (text ++ more)) g p (Ok (Some i))
  -- and if a new row of the group names it.
  pub named : (g h : ℕ) (p : Probe) (i : ℕ) → h < length u.rows → SameGroup (row_at u h) (row_at t g)
      → WinnerAnswers (parse text) g p (Ok (Some i)) → WinnerAnswers (parse (text ++ more)) h p (Ok (Some i))
  -- "Kinds 12, 16 and 19 may change for old rows, and new pairs may appear": every other entry of old rows stands, and every entry of filters.
  pub others : (i kind j : ℕ) → OfOldThings t i kind j → (MayChange kind → ⊥) → BothList text (text ++ more) i kind j

-- "for every accepted text and every run of row lines that may follow it in an accepted text"
abbrev pub AddedRows : Type 0
AddedRows = (text more : List ℕ) (added : List Row) (t u : Table) → parse text ≡ returned (table_read t) → RowRun more added
    → parse (text ++ more) ≡ returned (table_read u)
    → AnswersStand text more added t u
