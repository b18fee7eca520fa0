-- The table of an accepted text is filled. Assumes nothing.
use Rattle.reader.proofs.Laws.Judged.{parses_filled}
use Rattle.reader.proofs.read.Goals as goal

pub returns : goal.returns
returns c = parses_filled c.args.text.now c.in_ok-state.state c.in_ok-state.ensures c.fill.new.table (c.fill.ensures c.in_ok-state.ensures)
