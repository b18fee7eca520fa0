-- `put_entries` meets its contract: each turn puts an entry's digits and its line feed. Assumes nothing.
use Prim.Native.Nat.{ℕ, ◌+◌, ◌*◌, ◌/◌, ◌≤◌}
use mathlib.Core.Path.{◌≡◌, refl, sym, ◌∙◌}
use mathlib.Core.List.{List, [], ◌∷◌}
use native.Mathlib.Omega.{arith}
use lib.ListN.{length, drop, length-take, length-drop}
use Rattle.base.proofs.Laws.Outputs.{written_stored}
use Rattle.base.proofs.Laws.Copying.{Copying, copying_end, copying_more}
use Rattle.hexlines.specs.Lines.{line_of}
use Rattle.hexlines.proofs.Laws.Digits.{length_line_of}
use Rattle.reader.specs.Lines.{line_feed}
use Rattle.listing.specs.Bytes.{entry_bytes}
use Rattle.printing.specs.Limits.{line_bytes}
use Rattle.printing.specs.Printed.{hex_lines}
use Rattle.printing.proofs.Laws.Lines.{length_hex, entry_at, line_next, line_end}
use Rattle.printing.proofs.Laws.Printed.{prints_not, prints_all}
use Rattle.printing.proofs.put_entries.Goals as goal

pub returns-then-out-count : goal.returns-then-out-count
returns-then-out-count c =
    let a = c.args in
    let h = c.if-out-count.true in
    let e = length_hex a.entries.now in
    prints_not (hex_lines a.entries.now) a.out.now (omega arith)

pub loop-i-preserved : goal.loop-i-preserved
loop-i-preserved c =
    let entries : List ℕ = c.args.entries.now in
    let i : ℕ = c.loop-i.i in
    let left : List ℕ = hex_lines (drop (entry_bytes * (i + 1)) entries) in
    let digits : Copying c.args.out.now c.put.new.out (line_bytes * i + 2 * entry_bytes) (hex_lines entries) (line_feed ∷ left) =
    copying_more (line_of (entry_at entries i)) (rw (line_next entries i c.loop-i-test.true) at c.loop-i.invariant) c.put.ensures
    (simp (length_line_of, length-take, length-drop) (omega arith)) in
    copying_more (line_feed ∷ []) digits refl (omega arith)

pub returns : goal.returns
returns c =
    let entries : List ℕ = c.args.entries.now in
    let out : List ℕ = c.args.out.now in
    let e = length_hex entries in
    let k = c.if-out-count.false in
    let h : length (hex_lines entries) ≤ length out = omega arith in
    prints_all (hex_lines entries) out _ _ h
    (copying_end (rw (line_end entries c.loop-i.i c.loop-i-test.false) at c.loop-i.invariant) ∙ written_stored (hex_lines entries) out h)
    (sym e)
