-- What rowlist and strike print is as document 01 says, for every input.
-- Assumes nothing.
use Prim.Native.Nat.{ℕ, ◌≤◌, ◌<◌}
use native.Mathlib.Omega.{arith}
use mathlib.Core.Path.{sym}
use mathlib.Core.List.{List}
use lib.ListN.{length, take, length-take}
use Rattle.kinds.specs.Entries.{entry}
use Rattle.printing.specs.Printed.{rowlist_prints, strike_prints}
use Rattle.printing.proofs.Laws.Printed.{rowlist_long, strike_long}
use Rattle.printing.proofs.Laws.Rooms.{rowlist_room, strike_room}
use Rattle.printing.proofs.Laws.Inputs.{rowlist_refused, rowlist_accepted, strike_refused, strike_accepted, lines_none, lines_more, prints_whole}
use Rattle.promises.specs.ProgramPromises.{ProgramPromises}

-- So much of a longer input is longer too.
still_longer : (input : List ℕ) (read : ℕ) → 16385 ≤ read → 16384 < length input → 16384 < length (take read input)
still_longer input read h l = omega (arith, length-take read input)

pub program_promises : ProgramPromises
program_promises =
    record {
      lines = record { none = lines_none; more = λ i kind j l. lines_more (entry i kind j) l };
      rowlist = record {
        longer = λ input read h l. sym (rowlist_long (take read input) (still_longer input read h l));
        refused = λ input number line h e. rowlist_refused input h number line e;
        accepted = λ input t h e. rowlist_accepted input h t e;
        written = λ input before after r h p. let m = rowlist_room input in let w = prints_whole _ before after r (omega arith) p in (length (rowlist_prints input), w.0, w.1, w.2);
      };
      strike = record {
        longer = λ input read h l. sym (strike_long (take read input) (still_longer input read h l));
        refused = λ input number line h e. strike_refused input h number line e;
        accepted = λ input t h e. strike_accepted input h t e;
        written = λ input before after r h p. let m = strike_room input in let w = prints_whole _ before after r (omega arith) p in (length (strike_prints input), w.0, w.1, w.2);
      };
    }
