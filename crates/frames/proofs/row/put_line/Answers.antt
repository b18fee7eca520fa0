-- The digits of the row's frame are put where there is room for them.
use Prim.Native.Nat.{ℕ}
use mathlib.Core.Path.{ap, ◌∙◌}
use mathlib.Core.List.{List, ◌∷◌}
use native.Mathlib.Omega.{arith}
use lib.ListN.{length}
use lib.Seq.{sets}
use Rattle.base.proofs.Laws.Outputs.{writes_not, writes_stored}
use Rattle.hexlines.specs.Lines.{line_of}
use Rattle.hexlines.proofs.Laws.Digits.{length_line_of}
use Rattle.policy.specs.Views.{row_of}
use Rattle.frames.specs.Parts.{box_of}
use Rattle.frames.specs.Rows.{bytes_of_row}
use Rattle.frames.proofs.row.put_line.Goals as goal

pub returns-then-out-length : goal.returns-then-out-length
returns-then-out-length c =
    let a = c.args in
    let all = a.kind ∷ bytes_of_row (box_of a.address) (row_of a.r) in
    let long = ap length c.write-frame.ensures in
    writes_not (line_of all) a.out.now (omega (arith, length_line_of all))

pub returns : goal.returns
returns c =
    let a = c.args in
    let all = a.kind ∷ bytes_of_row (box_of a.address) (row_of a.r) in
    let long = ap length c.write-frame.ensures in
    writes_stored (line_of all) a.out.now (omega (arith, length_line_of all)) _ (omega (arith, length_line_of all))
    (c.put.ensures ∙ ap (λ (l : List ℕ). sets a.out.now 0 (line_of l)) c.write-frame.ensures)
