-- What the code's state stands for, what becomes of it by a line and by a text, and what the result that a text comes to stands for.
-- Assumes nothing.
use Rattle.std.specs.Prelude.{ℕ, suc, ◌≤◌, ◌≡◌, List, map, length, take, Some, None, Result, Ok, Err, IfOk}
use Rattle.base.specs.Answers.{Answer, returned, refused_by}
use Rattle.base.specs.Checks.{Check, refusal}
use Rattle.base.specs.Lists.{tabulate}
use Rattle.base.specs.Truths.{bit}
use Rattle.hexlines.specs.Lines.{bytes_of}
use Rattle.policy.specs.Limits.{most_entities, technologies, most_filters, most_rows}
use Rattle.policy.specs.Model.{Table, no_parent}
use Rattle.policy.specs.Views.{coefficients_of, parent_in, entity_in, table_of, Held, Stands}
use Rattle.policy.specs.declared.table.Table.{Table as TableStruct}
use Rattle.frames.specs.Progress.{Progress, all_read, lines_read}
use Rattle.frames.specs.Kinds.{FrameName}
use Rattle.frames.specs.Views.{number_of}
use Rattle.frames.specs.declared.refusals.Reason.{Reason}
use Rattle.frames.specs.declared.refusals.Refusal.{Refusal}
use Rattle.reader.specs.Frames.{frame_in, frame_of}
use Rattle.reader.specs.States.{Parsed, table_read, State, reading, refused, checks, line_checks, grown, parse}
use Rattle.reader.specs.Rules.{KeepsRules}
use Rattle.reader.specs.declared.state.State.{State as StateStruct}

-- ---- the state

-- The struct has room for what it counts, and no parent past its entities.
pub record Ready (r : StateStruct) : Type 0 where
  pub entities : r.entities ≤ most_entities
  pub capped : r.capped ≤ technologies
  pub filters : r.filters ≤ most_filters
  pub rows : r.rows ≤ most_rows
  pub unused : (e : ℕ) → r.entities ≤ e → parent_in r.parents e ≡ no_parent

-- It has what has been read, but of filters and rows their counts alone.
pub record Has (r : StateStruct) (p : Progress) : Type 0 where
  pub entities : tabulate (entity_in r.parents r.layers r.masks) r.entities ≡ p.table.entities
  pub caps : map coefficients_of (take r.capped r.caps) ≡ p.table.caps
  pub floor : coefficients_of r.floor ≡ p.table.floor
  pub floored : bit r.floored ≡ p.floored
  pub filters : r.filters ≡ length p.table.filters
  pub rows : r.rows ≡ length p.table.rows

-- The struct is refused by this number, which is not 0, at this line.
pub record IsRefused (r : StateStruct) (number line : ℕ) : Type 0 where
  pub is : r.refusal ≡ Some (record { number = number; line = line })
  pub some : number ≡ 0 → ⊥

-- The struct r stands for the state.
abbrev pub Reads : StateStruct → State → Type 0
Reads r (reading n p) = (r.refusal ≡ None) × (n ≡ lines_read p) × Has r p
Reads r (refused number line) = IsRefused r number line

-- ---- what becomes of it

-- The refusal is by this number, at the line after those that have been read.
abbrev pub IsNext : StateStruct → ℕ → Refusal → Type 0
IsNext r number refusal = (p : Progress) → Has r p → refusal ≡ record { number = number; line = suc (lines_read p) }

-- The struct q stands for what comes after all that r has, whatever filters and rows those are.
pub record Goes (r : StateStruct) (after : Progress → State) (q : StateStruct) : Type 0 where
  pub ready : Ready q
  pub reads : (p : Progress) → Has r p → Reads q (after p)

-- Refused by this number at the line after those that have been read.
abbrev pub Refuses : StateStruct → ℕ → StateStruct → Type 0
Refuses r number q = Goes r (λ p. refused number (suc (lines_read p))) q

-- All that r has keeps these conditions, and the struct q has what comes after it.
pub record Took (r : StateStruct) (conditions : Progress → List Check) (after : Progress → Progress) (q : StateStruct) : Type 0 where
  pub ready : Ready q
  pub going : q.refusal ≡ r.refusal
  pub kept : (p : Progress) → Has r p → refusal (conditions p) ≡ 0
  pub has : (p : Progress) → Has r p → Has q (after p)

-- By a result: so it is, or the reason's number is that of the first condition that is broken, and nothing has changed.
abbrev pub Judges : StateStruct → (Progress → List Check) → (Progress → Progress) → Result Unit Reason → StateStruct → Type 0
Judges r conditions after (Ok u) q = Took r conditions after q
Judges r conditions after (Err reason) q = (q ≡ r) × ((p : Progress) → Has r p → refusal (conditions p) ≡ number_of reason)

-- A frame's line is judged, of this kind, with these bytes after the kind byte.
abbrev pub Takes : StateStruct → FrameName → List ℕ → Result Unit Reason → StateStruct → Type 0
Takes r k bs result q = Judges r (λ p. checks p (frame_in k bs)) (λ p. grown p (frame_in k bs)) result q

-- A line is judged: that it is one, and its frame.
abbrev pub TakesLine : StateStruct → List ℕ → Result Unit Reason → StateStruct → Type 0
TakesLine r line result q = Judges r (λ p. line_checks p line) (λ p. grown p (frame_of (bytes_of line))) result q

-- The struct q stands for what the step makes of each state that r stands for.
pub record Moves (r : StateStruct) (step : State → State) (q : StateStruct) : Type 0 where
  pub ready : Ready q
  pub reads : (s : State) → Reads r s → Reads q (step s)

-- ---- a whole text

-- The text says a table, and keeps the rules; the struct has it, but for its filters and rows.
pub record Fillable (text : List ℕ) (r : StateStruct) : Type 0 where
  pub table : Table
  pub keeps : KeepsRules text table
  pub ready : Ready r
  pub has : Has r (all_read table)

-- The state is that of an accepted text, or the refusal is that of the text.
abbrev pub Ends : List ℕ → Result StateStruct Refusal → Type 0
Ends text (Ok r) = Fillable text r
Ends text (Err r) = parse text ≡ refused_by r.number r.line

-- The table is that of the text.
abbrev pub Filled : List ℕ → StateStruct → TableStruct → Type 0
Filled text r t = (a : Fillable text r) → Stands t a.table

abbrev pub parsed_of : Result TableStruct Refusal → Answer Parsed
parsed_of (Ok t) = returned (table_read (table_of t))
parsed_of (Err r) = refused_by r.number r.line

-- The result r stands for what a text is.
pub record Parses (r : Result TableStruct Refusal) (x : Answer Parsed) : Type 0 where
  pub same : parsed_of r ≡ x
  pub held : IfOk r Held
