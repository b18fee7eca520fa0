-- The high is stored after the low.
use native.Mathlib.Omega.{arith}
use Rattle.hexlines.specs.Numbers.{number_bytes}
use Rattle.hexlines.proofs.Laws.Numbers.{length_number_bytes}
use Rattle.policy.specs.Views.{value}
use Rattle.base.proofs.Laws.Lists.{sets_after}
use Rattle.frames.proofs.parts.put_range.Goals as goal

pub returns : goal.returns
returns c =
    let a = c.args in
    let low = number_bytes a.width (value a.r.low) in
    let high = number_bytes a.width (value a.r.high) in
    let long = length_number_bytes a.width (value a.r.low) in
    sets_after a.bytes.now a.at low high c.put.ensures c.put-2.ensures (omega arith)
