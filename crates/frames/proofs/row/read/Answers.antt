-- A row of the right length has room for all that is read of it, and for the gateways that it counts.
use Prim.Native.Nat.{ℕ, ◌+◌, ◌*◌, ◌≤◌}
use mathlib.Core.Path.{◌≡◌}
use mathlib.Core.Bool.{true}
use mathlib.Core.List.{List}
use native.Mathlib.Omega.{arith}
use lib.ListN.{length, get_or}
use Rattle.policy.specs.Limits.{most_gateways}
use Rattle.hexlines.specs.Lines.{bytes_of}
use Rattle.hexlines.proofs.Laws.Lines.{length_bytes_of}
use Rattle.frames.specs.Parts.{box_of}
use Rattle.frames.specs.Rows.{count_place, row_length}
use Rattle.frames.proofs.Laws.Rows.{row_counted}
use Rattle.frames.proofs.row.read.Goals as goal

room : (ws part : List ℕ) → row_length ws (bytes_of part) ≡ true
    → (get_or (bytes_of part) (count_place ws) 0 ≤ most_gateways)
    × (2 * (count_place ws + 1 + get_or (bytes_of part) (count_place ws) 0) ≤ length part)
room ws part h = let r = row_counted ws (bytes_of part) h in (r.0, omega (arith, length_bytes_of part))

pub u8_at-count-requires : goal.u8_at-count-requires
u8_at-count-requires c = let r = room (box_of c.args.address) c.args.part.now c.requires.0 in omega arith

pub gateways-g-requires : goal.gateways-g-requires
gateways-g-requires c = rw (c.u8_at-count.ensures, c.count_place-at.ensures) (room (box_of c.args.address) c.args.part.now c.requires.0)

pub selector-requires : goal.selector-requires
selector-requires c = let r = room (box_of c.args.address) c.args.part.now c.requires.0 in (omega arith, c.requires.1)
