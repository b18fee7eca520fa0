-- Document 01, "Relations": groups, probes and winners.
-- Assumes nothing.
use Rattle.std.specs.Prelude.{ℕ, suc, ◌<◌, ◌≡◌, Bool, true, false, ◌&&◌, List, [], ◌∷◌, eqb, length, get_or, Option, Some, None}
use Rattle.policy.specs.Model.{Packet, Row, Table, no_row, row_at, parent_of}
use Rattle.policy.specs.Wellformed.{IsEntity}
use Rattle.base.specs.Lists.{same}
use Rattle.relations.specs.Entities.{AtOrAbove, at_or_above}
use Rattle.relations.specs.Selectors.{Holds, holds}
use Rattle.policy.specs.Views.{packet_of}
use Rattle.relations.specs.declared.group.Probe.{Probe as ProbeStruct}

-- "A group is all rows with equal holder, t and G."
pub record SameGroup (r q : Row) : Type 0 where
  pub holder : r.holder ≡ q.holder
  pub technology : r.technology ≡ q.technology
  pub gateways : r.gateways ≡ q.gateways

unfoldable pub same_group : Row → Row → Bool
same_group r q = eqb r.holder q.holder && (eqb r.technology q.technology && same r.gateways q.gateways)

-- "A probe is two entities a, b and a packet. Row i matches it when s ⪰ a, d ⪰ b and the packet is in S."
pub record Matches (up : ℕ → ℕ) (r : Row) (a b : ℕ) (p : Packet) : Type 0 where
  pub source : AtOrAbove up r.source a
  pub destination : AtOrAbove up r.destination b
  pub packet : Holds r.selector p

unfoldable pub matches : (ℕ → ℕ) → Row → ℕ → ℕ → Packet → Bool
matches up r a b p = at_or_above up r.source a && (at_or_above up r.destination b && holds r.selector p)

-- "A group's first matching row wins the probe."
pub record Wins (t : Table) (i a b : ℕ) (p : Packet) : Type 0 where
  pub row : i < length t.rows
  pub matches : Matches (parent_of t) (row_at t i) a b p
  pub first : (j : ℕ) → j < i → SameGroup (row_at t j) (row_at t i) → Matches (parent_of t) (row_at t j) a b p → ⊥

-- Row i wins no probe.
abbrev pub Dead : Table → ℕ → Type 0
Dead t i = (a b : ℕ) (p : Packet) → IsEntity t a → IsEntity t b → Wins t i a b p → ⊥

-- Row j hides row i's packet p: it is earlier, of i's group, ⪰ i in source and destination, and has the packet.
pub record Hides (t : Table) (j i : ℕ) (p : Packet) : Type 0 where
  pub earlier : j < i
  pub group : SameGroup (row_at t j) (row_at t i)
  pub source : AtOrAbove (parent_of t) (row_at t j).source (row_at t i).source
  pub destination : AtOrAbove (parent_of t) (row_at t j).destination (row_at t i).destination
  pub packet : Holds (row_at t j).selector p

-- The first row of the list, counted from i, that is of g's group and matches the probe.
unfoldable pub winner_from : (ℕ → ℕ) → Row → ℕ → ℕ → Packet → ℕ → List Row → Option ℕ
winner_from up g a b p i [] = None
winner_from up g a b p i (r ∷ rs) =
    elim (same_group r g && matches up r a b p) [ true ↦ Some i | false ↦ winner_from up g a b p (suc i) rs ]

-- The winner of a probe in the group that row g names.
unfoldable pub winner_in : (ℕ → ℕ) → List Row → ℕ → ℕ → ℕ → Packet → Option ℕ
winner_in up rows g a b p = winner_from up (get_or rows g no_row) a b p 0 rows

-- The same, of the probe that a struct holds.
abbrev pub winner_of_probe : (ℕ → ℕ) → List Row → ℕ → ProbeStruct → Option ℕ
winner_of_probe up rows g p = winner_in up rows g p.source p.destination (packet_of p.packet)

abbrev pub winner : Table → ℕ → ℕ → ℕ → Packet → Option ℕ
winner t g a b p = winner_in (parent_of t) t.rows g a b p
