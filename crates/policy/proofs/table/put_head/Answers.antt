use native.Mathlib.Omega.{arith}
use borrow.Author.Rules.{rules}
use mathlib.Core.Path.{◌≡◌}
use lib.ListN.{length}
use Prim.Native.Nat.{◌+◌, ◌-◌, ◌*◌}
use Rattle.policy.specs.Limits.{head_count}
use Rattle.policy.proofs.Laws.Runs.{part_stored}
use Rattle.policy.proofs.table.put_head.Goals as goal

pub returns : goal.returns
returns c =
    let a = c.args in
    let h = head_count * a.i in
    let whole : length a.head ≡ head_count = search rules in
    part_stored h (h + head_count - h) a.heads.now c.copy_from_slice.new.self a.head c.copy_from_slice.ensures.after (omega arith) (search rules)
