-- `put_list` meets its contract: the entries of an accepted text have room in the buffer, and their lines are put. Assumes nothing.
use Prim.Native.Nat.{ℕ, ◌*◌, ◌^◌, ◌≤◌, ◌<◌}
use mathlib.Core.List.{List}
use mathlib.Core.Path.{◌≡◌, refl, sym}
use native.Mathlib.Omega.{arith}
use lib.ListN.{length, replicate, length-replicate}
use lib.Seq.{length-take-le}
use Rattle.std.specs.Prelude.{Ok, Err}
use Rattle.kinds.specs.Entries.{most_entries}
use Rattle.listing.specs.Bytes.{entry_bytes}
use Rattle.reader.specs.States.{parse}
use Rattle.analyser.specs.Calls.{list_of}
use Rattle.analyser.specs.Views.{count_answer}
use Rattle.analyser.proofs.Laws.Outputs.{count_fits}
use Rattle.printing.proofs.Laws.Printed.{prints_other}
use Rattle.printing.proofs.Laws.Answers.{rowlist_counted, rowlist_refused}
use Rattle.printing.proofs.put_list.Goals as goal

zeros : length (replicate {A = ℕ} (entry_bytes * most_entries) 0) ≡ entry_bytes * most_entries
zeros = length-replicate {A = ℕ} (entry_bytes * most_entries) 0

module _ (text out after : List ℕ) (n : ℕ) (same : length after ≡ length out) (long : length out ≡ entry_bytes * most_entries)
    (told : count_answer (Ok n) ≡ list_of (parse text) out) where
  room : entry_bytes * n ≤ length after
  room = omega (arith, same, count_fits _ _ _ _ told refl)

  few : entry_bytes * n < 2 ^ 64
  few = omega (arith, room, same, long)

pub overflow_mul-entries : goal.overflow_mul-entries
overflow_mul-entries c = omega (arith, few c.args.text.now _ c.list.new.out c.in-Ok.n (c.list.auto.out) zeros c.in-Ok.ensures.answers)

pub slice_bounds-entries-end : goal.slice_bounds-entries-end
slice_bounds-entries-end c = room c.args.text.now _ c.list.new.out c.in-Ok.n (c.list.auto.out) zeros c.in-Ok.ensures.answers

pub slice_bounds-put_entries-end : goal.slice_bounds-put_entries-end
slice_bounds-put_entries-end c =
    sym (length-take-le _ _ (room c.args.text.now _ c.list.new.out c.in-Ok.n (c.list.auto.out) zeros c.in-Ok.ensures.answers))

pub returns-in-Ok : goal.returns-in-Ok
returns-in-Ok c =
    prints_other (rowlist_counted _ _ _ (Ok c.in-Ok.n) zeros c.in-Ok.ensures.answers _ refl c.in-Ok.ensures.writes) c.put_entries.ensures

pub returns-in-Err : goal.returns-in-Err
returns-in-Err c =
    prints_other (rowlist_refused _ _ c.list.new.out (Err c.in-Err.r) zeros c.in-Err.ensures.answers c.in-Err.r refl) c.put_refusal.ensures
