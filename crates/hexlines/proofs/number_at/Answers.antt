use mathlib.Core.Path.{◌≡◌, ◌∙◌}
use Prim.Native.Nat.{◌+◌, ◌-◌, ◌*◌}
use native.Mathlib.Omega.{arith}
use Rattle.hexlines.proofs.Laws.Lines.{bytes_of_part}
use Rattle.hexlines.proofs.number_at.Goals as goal

pub returns : goal.returns
returns c =
    let a = c.args in
    let e : 2 * (a.i + a.width) - 2 * a.i ≡ 2 * a.width = omega arith in
    c.number.ensures ∙ rw (e, bytes_of_part)
