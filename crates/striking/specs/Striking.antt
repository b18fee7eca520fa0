-- Document 01, "Strike", of a table: the kept rows, the table that has only them, and demand 3 on it, over all groups and probes.
-- Assumes nothing.
use Rattle.std.specs.Prelude.{ℕ, ◌<◌, ◌≡◌, not, List, map, length, get_or, Option, Some, None}
use Rattle.policy.specs.Model.{Packet, Row, Table, with_rows, row_at, parent_of}
use Rattle.policy.specs.Wellformed.{IsEntity, Wellformed}
use Rattle.relations.specs.Groups.{Dead, winner_from}
use Rattle.verdicts.specs.Verdicts.{dead}
use Rattle.base.specs.Lists.{numbers_from}

-- "kept are all rows but the dead": their numbers, ascending.
abbrev pub kept : Table → List ℕ
kept t = numbers_from (λ i. not (dead t i)) (length t.rows) 0

-- "the text without its dead rows' lines .. the rest is unchanged"
abbrev pub struck : Table → Table
struck t = with_rows (map (row_at t) (kept t)) t

-- "Row k of the struck text is compared as the k-th kept row of the old text, both from 0": the winner of the old table, of whose rows
-- ks are kept, and the winner of the struck one.
abbrev pub SameWinner : List ℕ → Option ℕ → Option ℕ → Type 0
SameWinner ks (Some i) (Some k) = (k < length ks) × (get_or ks k 0 ≡ i)
SameWinner ks (Some i) None = ⊥
SameWinner ks None (Some k) = ⊥
SameWinner ks None None = Unit {0}

pub record Struck (t : Table) : Type 0 where
  -- "The text that Strike writes is accepted,"
  pub well : Wellformed (struck t)
  -- "and none of its rows is dead."
  pub alive : (k : ℕ) → k < length (struck t).rows → Dead (struck t) k → ⊥
  -- "For every group and every probe, the winner in that text is the row that won before; where none won before, none wins." The row g
  -- names a group by its holder, technology and gateways: "Groups of the two texts are the same when holder, t and G are."
  pub winners : (g : Row) (a b : ℕ) (p : Packet) → IsEntity t a → IsEntity t b
      → SameWinner (kept t) (winner_from (parent_of t) g a b p 0 t.rows) (winner_from (parent_of (struck t)) g a b p 0 (struck t).rows)
