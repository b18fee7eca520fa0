-- Each line is one of those that are passed. Assumes nothing.
use Rattle.std.proofs.Common.{◌+◌, ◌-◌, arith}
use Rattle.reader.proofs.Laws.Lines.{start_next, start_none}
use Rattle.reader.proofs.lines.line_start.Goals as goal

pub returns-then-end-text-clause-place : goal.returns-then-end-text-clause-place
returns-then-end-text-clause-place c =
    let e = c.line_end-end in
    let l = c.loop in
    let none = start_none c.args.text.now l.start e.result e.ensures.place (c.args.n - l.counter) (c.args.n - (l.counter + 1)) (omega arith) in
    omega (arith, none (omega arith) (omega arith))

pub loop-preserved : goal.loop-preserved
loop-preserved c =
    let e = c.line_end-end in
    let l = c.loop in
    let next = start_next c.args.text.now l.start e.result e.ensures.place (c.args.n - l.counter) (c.args.n - (l.counter + 1)) (omega arith) in
    record { within = omega arith; same = omega (arith, next (omega arith)) }
