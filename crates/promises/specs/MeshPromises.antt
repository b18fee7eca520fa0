-- Document 02, [8], "Dead rows by a mesh": the call beside Witness, for every text and row; and the mesh, for any number of fields.
-- Assumes nothing.
use Rattle.std.specs.Prelude.{ℕ, ◌≤◌, ◌<◌, ◌≡◌, ◌↔◌, length}
use mathlib.Core.List.{List, Memᴰ}
use Rattle.base.specs.Answers.{returned}
use Rattle.policy.specs.Model.{Range, Selector, Packet, Table, row_at}
use Rattle.policy.specs.Wellformed.{Ordered}
use Rattle.policy.specs.Views.{PacketStruct, packet_of}
use Rattle.reader.specs.States.{Parsed, parse}
use Rattle.covers.specs.Least.{◌≤ₚ◌, Claimed}
use Rattle.covers.specs.Covers.{cover_on, CoverExact}
use Rattle.mesh.specs.Promises.{Cuts, CutInEach, Cells}
use Rattle.calls.specs.declared.Witness.TheVariants.{Dead as DeadCase, Packet as PacketCase}
use Rattle.mesh_call.specs.Calls.{MeshAnswers}
use Rattle.analyser.specs.CallAnswers.{SameAnswers, WitnessAnswers}

-- The packet is one that is examined, of row i of a table: each of its numbers is a cut of its field, by the boxes of the row's cover. And no box of it has the
-- packet.
abbrev pub Examined : Table → ℕ → Packet → Type 0
Examined t i p = CutInEach (row_at t i).selector (cover_on t i) p

abbrev pub Unclaimed : Table → ℕ → Packet → Type 0
Unclaimed t i p = Claimed (cover_on t i) p → ⊥

-- What Mesh answers of row i of what was read:
pub record MeshOfRow (r : Parsed) (i : ℕ) : Type 0 where
  -- "the earlier boxes that could cover it"
  pub cover : CoverExact r.table i
  -- the first of the examined packets that none of them has; dead, where there is none
  pub dead : MeshAnswers (returned r) i DeadCase ↔ ((p : Packet) → Examined r.table i p → Unclaimed r.table i p → ⊥)
  pub packet : (p : PacketStruct)
      → MeshAnswers (returned r) i (PacketCase p)
      ↔ (Examined r.table i (packet_of p) × Unclaimed r.table i (packet_of p)
      × ((q : Packet) → Examined r.table i q → Unclaimed r.table i q → packet_of p ≤ₚ q))

pub record MeshPromise : Type 0 where
  -- "Its verdict on dead rows and its least unclaimed packet equal Witness's for every accepted text and row .. with the same refusals": whatever the text
  -- and the number, the two answers are one. (What Witness's are: `WitnessPromise`, `RefusedText` and `AcceptedText`.)
  pub same : (text : List ℕ) (k : ℕ) → SameAnswers (MeshAnswers (parse text) k) (WitnessAnswers (parse text) k)
  -- "examine the least packet of each cell"
  pub rows : (text : List ℕ) (r : Parsed) (i : ℕ) → parse text ≡ returned r → i < length r.table.rows → MeshOfRow r i
  -- the cuts of a field of a row, whatever the boxes
  pub cuts : (r : Range) (qs : List Range) → r.low ≤ r.high → Cuts r qs
  -- "Show once, for any number of fields, that all packets of a cell lie in the same of those boxes", and what follows from it
  pub cells : (s : Selector) (bs : List Selector) → Ordered s → ((b : Selector) → Memᴰ b bs → length b ≡ length s) → Cells s bs
