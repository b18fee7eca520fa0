-- It is the line after those that have been read. Assumes nothing.
use borrow.Author.Rules.{rules}
use mathlib.Core.Path.{◌≡◌}
use native.Mathlib.Omega.{arith}
use Prim.Native.Nat.{suc, ◌+◌}
use Rattle.frames.specs.Progress.{lines_read}
use Rattle.reader.proofs.Laws.Readers.{counted}
use Rattle.reader.proofs.state.State.refusal_by.Goals as goal

pub returns : goal.returns
returns c = λ p h.
    let n = counted c.args.self.now (search rules) c.requires p h in
    let e = c.lines_before-before.ensures in
    let f = c.from-floored.ensures in
    let line : c.lines_before-before.result + c.args.self.now.rows + 1 ≡ suc (lines_read p) = omega arith in
    λ i. record { number = c.args.number; line = line i }
