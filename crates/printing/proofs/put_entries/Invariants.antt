-- The lines written, and those of the entries from here on, are all lines.
use Prim.Native.Nat.{◌*◌}
use lib.ListN.{drop}
use Rattle.base.proofs.Laws.Copying.{Copying}
use Rattle.listing.specs.Bytes.{entry_bytes}
use Rattle.printing.specs.Limits.{line_bytes}
use Rattle.printing.specs.Printed.{hex_lines}
use Rattle.printing.proofs.put_entries.Given as goal

abbrev pub invariant-loop-i : goal.invariant-loop-i
invariant-loop-i l = Copying l.initial.out l.out (line_bytes * l.i) (hex_lines l.entries) (hex_lines (drop (entry_bytes * l.i) l.entries))
