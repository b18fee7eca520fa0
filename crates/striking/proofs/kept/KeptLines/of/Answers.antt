-- `of` meets its contract: a text has no more lines than bytes, so that they can be counted. Assumes nothing.
use native.Mathlib.Omega.{arith}
use Rattle.striking.proofs.Laws.Bytes.{lines_counted}
use Rattle.striking.proofs.kept.KeptLines.of.Goals as goal

pub invariant_of-result : goal.invariant_of-result
invariant_of-result c = record { countable = omega (arith, lines_counted c.args.text.now) }
