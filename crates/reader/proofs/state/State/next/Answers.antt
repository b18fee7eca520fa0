-- A refusal stays; else what is judged of the line decides. Assumes nothing.
use Rattle.reader.proofs.Laws.Takings.{moves_refused, moves_taken, moves_broken}
use Rattle.reader.proofs.state.State.next.Goals as goal

pub returns-then-is_some : goal.returns-then-is_some
returns-then-is_some c = moves_refused c.args.self c.args.line.now c.if-is_some.ensures c.requires

pub returns-in-Ok : goal.returns-in-Ok
returns-in-Ok c = moves_taken c.args.self c.args.line.now c.if-is_some.ensures c.in-Ok.ensures

pub returns-in-Err : goal.returns-in-Err
returns-in-Err c = moves_broken c.args.self c.args.line.now c.if-is_some.ensures c.take.new.self c.in-Err.reason c.in-Err.ensures
    (rw c.number.ensures at c.refuse.ensures)
