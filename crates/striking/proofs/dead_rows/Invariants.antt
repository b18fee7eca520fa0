-- Before row i stands whether each row is dead, and no flag from i on is set.
use Rattle.std.proofs.Common.{ℕ, ◌≡◌, ◌≤◌, ◌<◌, false, get_or, length}
use Rattle.policy.specs.Limits.{most_rows}
use Rattle.policy.specs.Views.{table_of}
use Rattle.verdicts.specs.Verdicts.{dead}
use Rattle.striking.proofs.dead_rows.Given as goal

abbrev pub invariant-loop-i : goal.invariant-loop-i
invariant-loop-i l =
    record {
      long : length l.dead ≡ most_rows;
      at : (k : ℕ) → k < l.i → get_or l.dead k false ≡ dead (table_of l.t) k;
      past : (k : ℕ) → l.i ≤ k → get_or l.dead k false ≡ false;
    }
