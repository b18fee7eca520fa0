-- Demand 3 on dead rows, witnesses, striking and winners, for what was read of every accepted text. A call's contract is on `parse text`, which is then
-- `returned r`. Numbers of the documents stand here as they print them.
-- Assumes nothing.
use Rattle.std.specs.Prelude.{ℕ, ◌≤◌, ◌<◌, ◌≡◌, ◌↔◌, ◌⊎◌, length, drop, get_or, Result, Ok, Option, Some, None}
use mathlib.Core.List.{List, ◌++◌, map, Memᴰ}
use Rattle.base.specs.Answers.{returned}
use Rattle.policy.specs.Model.{Packet, Row, Table, row_at, parent_of}
use Rattle.policy.specs.Wellformed.{IsEntity}
use Rattle.policy.specs.Views.{PacketStruct, packet_of}
use Rattle.relations.specs.Groups.{SameGroup, Matches, Wins, Dead}
use Rattle.relations.specs.declared.group.Probe.{Probe}
use Rattle.reader.specs.States.{Parsed, table_read, parse}
use Rattle.covers.specs.Least.{◌≤ₚ◌}
use Rattle.kinds.specs.Entries.{entry, entries}
use Rattle.striking.specs.Striking.{kept, struck}
use Rattle.striking.specs.Texts.{struck_text}
use Rattle.calls.specs.declared.Witness.{Witness}
use Rattle.calls.specs.declared.Witness.TheVariants.{Dead as DeadCase, Packet as PacketCase}
use Rattle.analyser.specs.Calls.{strike_written}
use Rattle.analyser.specs.CallAnswers.{Only, SameAnswers, WitnessAnswers, WinnerAnswers, StrikeAnswers}
use Rattle.frames.specs.declared.refusals.Refusal.{Refusal}

-- In the group that the row g names, row i wins the probe.
abbrev pub WinsFor : Table → Row → (i a b : ℕ) → Packet → Type 0
WinsFor t g i a b p = SameGroup (row_at t i) g × Wins t i a b p

-- The row that names the group and the two entities are there.
abbrev pub There : Table → ℕ → Probe → Type 0
There t g p = (g < length t.rows) × IsEntity t p.source × IsEntity t p.destination

-- Of what was read of an accepted text:
module _ (r : Parsed) where
  abbrev t : Table
  t = r.table

  -- What Witness answers of row i:
  pub record WitnessPromise : Type 0 where
    -- "A row is listed as dead exactly when it wins no probe, and exactly then Witness says dead."
    pub listed : (i : ℕ) → i < length t.rows → Memᴰ (entry i 20 255) (entries t) ↔ Dead t i
    pub witnessed : (i : ℕ) (w : Witness) → i < length t.rows → WitnessAnswers (returned r) i w → (w ≡ DeadCase) ↔ Dead t i
    -- "For every other row Witness gives a packet with which the row wins the probe from its own source to its own destination, and no
    -- probe that the row wins has a smaller packet."
    pub others : (i : ℕ) (w : Witness) → i < length t.rows → WitnessAnswers (returned r) i w → (Dead t i → ⊥)
        → (p : PacketStruct)
        × (w ≡ PacketCase p)
        × Wins t i (row_at t i).source (row_at t i).destination (packet_of p)
        × ((a b : ℕ) (q : Packet) → Wins t i a b q → packet_of p ≤ₚ q)

  -- The text is the one that was read.
  pub record StrikePromise (text : List ℕ) : Type 0 where
    -- given space, Strike writes the struck text and returns its length
    pub written : (out : List ℕ) → length (struck_text text t) ≤ length out
        → Only (StrikeAnswers text (returned r) out) (Ok (length (struck_text text t)))
        × (strike_written text (returned r) out ≡ struck_text text t ++ drop (length (struck_text text t)) out)
    -- it is no longer than the text
    pub shorter : length (struck_text text t) ≤ length text
    -- "The text that Strike writes is accepted, and none of its rows is dead."
    pub taken : parse (struck_text text t) ≡ returned (table_read (struck t))
    pub alive : (k : ℕ) → k < length (struck t).rows → Dead (struck t) k → ⊥
    -- "kept are all rows but the dead", in their order
    pub all_kept : (i : ℕ) → Memᴰ i (kept t) ↔ ((i < length t.rows) × (Dead t i → ⊥))
    pub in_order : (j m : ℕ) → j < m → m < length (kept t) → get_or (kept t) j 0 < get_or (kept t) m 0
    -- the struck text has these rows, and all else as it was
    pub rows : (struck t).rows ≡ map (row_at t) (kept t)
    pub others : ((struck t).entities ≡ t.entities) × ((struck t).caps ≡ t.caps) × ((struck t).floor ≡ t.floor) × ((struck t).filters ≡ t.filters)
    -- "For every group and every probe, the winner in that text is the row that won before; where none won before, none wins." The row g
    -- names a group by its holder, technology and gateways; row k of the struck text is compared as the k-th kept row. A row that won is kept.
    pub winners : (g : Row) (a b : ℕ) (p : Packet) (k : ℕ) → IsEntity t a → IsEntity t b → k < length (kept t)
        → WinsFor (struck t) g k a b p ↔ WinsFor t g (get_or (kept t) k 0) a b p
    pub winner_kept : (g : Row) (a b : ℕ) (p : Packet) (i : ℕ) → IsEntity t a → IsEntity t b → WinsFor t g i a b p
        → (k : ℕ) × (k < length (kept t)) × (get_or (kept t) k 0 ≡ i)

  -- "In demand 3 the winner is the one defined above; Winner returns it, whichever of the group's rows names the group."
  pub record WinnerPromise : Type 0 where
    -- a row or nobody, and no refusal
    pub told : (g : ℕ) (p : Probe) (w : Result (Option ℕ) Refusal) → There t g p → WinnerAnswers (returned r) g p w → ((i : ℕ) × (w ≡ Ok (Some i))) ⊎ (w ≡ Ok None)
    -- the winner is the group's first matching row, and there is none exactly when no row of the group matches
    pub first : (g : ℕ) (p : Probe) (i : ℕ) → There t g p
        → WinnerAnswers (returned r) g p (Ok (Some i)) ↔ WinsFor t (row_at t g) i p.source p.destination (packet_of p.packet)
    pub unmatched : (g : ℕ) (p : Probe) → There t g p
        → WinnerAnswers (returned r) g p (Ok None)
        ↔ ((i : ℕ) → i < length t.rows → SameGroup (row_at t i) (row_at t g)
        → Matches (parent_of t) (row_at t i) p.source p.destination (packet_of p.packet) → ⊥)
    pub named : (g h : ℕ) (p : Probe) → g < length t.rows → h < length t.rows → SameGroup (row_at t g) (row_at t h)
        → SameAnswers (WinnerAnswers (returned r) g p) (WinnerAnswers (returned r) h p)
