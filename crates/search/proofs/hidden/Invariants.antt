-- The limit grows, by 1 at least.
use Rattle.std.proofs.Common.{◌-◌, ◌<◌, ◌≤◌}
use Rattle.policy.specs.Limits.{field_count}
use Rattle.search.proofs.hidden.Given as goal

abbrev pub invariant-loop-limit : goal.invariant-loop-limit
invariant-loop-limit l = (l.lead < field_count) × (4 ≤ l.limit)

abbrev pub decreases-loop-limit : goal.decreases-loop-limit
decreases-loop-limit l = 1048576 - l.limit
