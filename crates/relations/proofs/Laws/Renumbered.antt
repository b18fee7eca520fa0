-- A table with other rows, of which some are rows of the old table under other numbers. Whether a row wins a probe goes by it and the rows before it.
-- Assumes nothing.
use Prim.Native.Nat.{ℕ, ◌≤◌, ◌<◌}
use mathlib.Core.Path.{◌≡◌, sym, subst}
use mathlib.Core.List.{List}
use native.Mathlib.Omega.{arith}
use lib.ListN.{length, get_or}
use Rattle.policy.specs.Model.{Packet, Row, Table, with_rows, no_row, row_at, parent_of}
use Rattle.relations.specs.Groups.{SameGroup, Matches, Wins}

-- Row k is the old table's row old(k), and so are those before it, in the old order: it wins the probes that that row won.
pub wins_renumbered : (t : Table) (rs : List Row) (old : ℕ → ℕ) (k a b : ℕ) (p : Packet) → k < length rs
    → ((j : ℕ) → j ≤ k → get_or rs j no_row ≡ row_at t (old j)) → ((j : ℕ) → j < k → old j < old k)
    → Wins t (old k) a b p → Wins (with_rows rs t) k a b p
wins_renumbered t rs old k a b p h same order w =
    record {
      row = h;
      matches = subst (λ r. Matches (parent_of t) r a b p) (sym (same k (omega arith))) w.matches;
      first = λ j l s m.
          w.first (old j) (order j l)
          (subst (λ r. SameGroup r (row_at t (old k))) (same j (omega arith)) (subst (SameGroup (get_or rs j no_row)) (same k (omega arith)) s))
          (subst (λ r. Matches (parent_of t) r a b p) (same j (omega arith)) m);
    }
