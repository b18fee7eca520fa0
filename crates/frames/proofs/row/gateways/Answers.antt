-- One more is the next byte.
use native.Mathlib.Numerals.{add-one}
use native.Mathlib.Omega.{arith}
use Prim.Native.Nat.{◌<◌}
use borrow.Author.Rules.{rules}
use lib.ListN.{length, drop, length-drop}
use lib.Seq.{take-suc, take-suc-set, get_or-drop}
use Rattle.hexlines.specs.Lines.{bytes_of}
use Rattle.hexlines.proofs.Laws.Lines.{length_bytes_of}
use Rattle.frames.proofs.row.gateways.Goals as goal

pub loop-k-preserved : goal.loop-k-preserved
loop-k-preserved c =
    let l = c.loop-k in
    let from = drop c.args.at (bytes_of c.args.part.now) in
    let h : l.k < length from = simp (length-drop, length_bytes_of) (omega arith) in (
      search rules,
      rw (add-one, take-suc-set l.g l.k c.u8_at.result (omega arith), take-suc from l.k 0 h, get_or-drop, ← c.u8_at.ensures, l.invariant.1),
    )
