-- The kinds said a second way: it holds of every well-formed table.
-- Assumes nothing.
use Rattle.policy.specs.Model.{Table}
use Rattle.policy.specs.Wellformed.{Wellformed}
use Rattle.promises.specs.KindPromises.{KindLaws}
use Rattle.promises.proofs.Laws.OneRow.{one_row_laws}
use Rattle.promises.proofs.Laws.TwoRows.{two_rows_laws}
use Rattle.promises.proofs.Laws.FilterLaws.{filter_laws}

pub kind_laws : (t : Table) → Wellformed t → KindLaws t
kind_laws t w = record { one_row = one_row_laws t w; two_rows = two_rows_laws t w; filters = filter_laws t }
