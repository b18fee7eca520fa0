-- `put` meets its contract: it stores the three bytes of the entry. Assumes nothing.
use native.Mathlib.Omega.{arith}
use Rattle.std.proofs.Common.{refl}
use Rattle.kinds.specs.Entries.{entry}
use Rattle.listing.proofs.Laws.Puts.{appends_one}
use Rattle.listing.proofs.put.Writer.put.Goals as goal

pub returns : goal.returns
returns c =
    let e = entry c.args.i c.args.kind c.args.j in
    appends_one c.args.self.now _ c.copy_from_slice.new.self _ e c.copy_from_slice.ensures.after (omega arith) c.requires refl refl refl
