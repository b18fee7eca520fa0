-- Demand 3 on dead rows and witnesses, of a row of a table, over all probes; and document 02, [6], on rows added at the end.
-- Assumes nothing.
use Rattle.std.specs.Prelude.{ℕ, ◌<◌, ◌≡◌, ◌↔◌, List, length, Some}
use Rattle.policy.specs.Model.{Packet, Row, Table, extended, row_at, parent_of}
use Rattle.relations.specs.Groups.{Wins, Dead, winner_from}
use Rattle.covers.specs.Least.{found, none, ◌≤ₚ◌}
use Rattle.verdicts.specs.Verdicts.{verdict_on}

pub record Verdicts (t : Table) (i : ℕ) : Type 0 where
  -- The verdict is dead exactly when the row wins no probe.
  pub dead : (verdict_on t i ≡ none) ↔ Dead t i
  -- Otherwise its packet wins the probe from the row's own source to its own destination,
  pub wins : (p : Packet) → verdict_on t i ≡ found p → Wins t i (row_at t i).source (row_at t i).destination p
  -- and no probe that the row wins has a smaller packet.
  pub least : (p : Packet) → verdict_on t i ≡ found p → (a b : ℕ) (q : Packet) → Wins t i a b q → p ≤ₚ q

-- Document 02, [6], "Rows added at the end": what stands when these rows are added. It leaves out kinds 12, 16 and 19 of the old rows, pairs of which a row
-- is new, and probes that had no winner, which a new row may win.
pub record OldRowsKeep (t : Table) (added : List Row) : Type 0 where
  -- An old row wins the probes that it won, and no others:
  pub wins : (i a b : ℕ) (p : Packet) → i < length t.rows → Wins t i a b p ↔ Wins (extended added t) i a b p
  -- "each old row keeps its dead mark
  pub dead : (i : ℕ) → i < length t.rows → Dead t i ↔ Dead (extended added t) i
  -- or its witness,
  pub verdict : (i : ℕ) → i < length t.rows → verdict_on (extended added t) i ≡ verdict_on t i
  -- and a probe that had a winner keeps that winner", in whichever group, as the row g names it.
  pub winner : (g : Row) (a b : ℕ) (p : Packet) (i : ℕ) → winner_from (parent_of t) g a b p 0 t.rows ≡ Some i
      → winner_from (parent_of (extended added t)) g a b p 0 (extended added t).rows ≡ Some i
