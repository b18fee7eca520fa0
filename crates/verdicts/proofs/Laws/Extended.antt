-- A verdict looks at the rows before its own alone: rows added at the end leave it as it is.
-- Assumes nothing.
use Prim.Native.Nat.{ℕ, ◌<◌}
use mathlib.Core.Path.{◌≡◌, ap, ◌∙◌}
use mathlib.Core.List.{List}
use native.Mathlib.Omega.{arith}
use lib.ListN.{length, take}
use lib.Seq.{take-append-le}
use Rattle.policy.specs.Model.{Row, Table, extended, row_at, parent_of}
use Rattle.relations.proofs.Laws.Extended.{row_extended, wins_extended, dead_extended, winner_extended}
use Rattle.verdicts.specs.Verdicts.{verdict_after, verdict_on}
use Rattle.verdicts.specs.Promises.{OldRowsKeep}

verdict_extended : (t : Table) (added : List Row) (i : ℕ) → i < length t.rows → verdict_on (extended added t) i ≡ verdict_on t i
verdict_extended t added i h =
    ap (λ (before : List Row). verdict_after (parent_of t) before (row_at (extended added t) i)) (take-append-le i t.rows added (omega arith))
    ∙ ap (verdict_after (parent_of t) (take i t.rows)) (row_extended t added i h)

pub old_rows_keep : (t : Table) (added : List Row) → OldRowsKeep t added
old_rows_keep t added =
    record {
      wins = wins_extended t added;
      dead = dead_extended t added;
      verdict = verdict_extended t added;
      winner = winner_extended t added;
    }
