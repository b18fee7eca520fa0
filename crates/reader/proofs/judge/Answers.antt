-- A line takes the state one step on; a refusal ends the text, and else its end does. Assumes nothing.
use Rattle.reader.proofs.Laws.Judged.{onward_start, onward_next, ends_refused, ends_unended, ends_early, ends_whole}
use Rattle.reader.proofs.judge.Goals as goal

pub loop-line-init : goal.loop-line-init
loop-line-init c =
    record { onward = onward_start c.args.text.now c.new-state.result c.new-state.ensures.0 c.new-state.ensures.1; going = c.new-state.ensures.1.0 }

pub next-state-requires : goal.next-state-requires
next-state-requires c = c.loop-line.invariant.onward.ready

pub returns-in-Some-refusal : goal.returns-in-Some-refusal
returns-in-Some-refusal c =
    ends_refused (onward_next c.loop-line.invariant.onward c.in-Some.ensures.steps c.next-state.ensures) c.in-Some-refusal.refusal
    c.in-Some-refusal.is

pub loop-line-preserved : goal.loop-line-preserved
loop-line-preserved c =
    record { onward = onward_next c.loop-line.invariant.onward c.in-Some.ensures.steps c.next-state.ensures; going = c.in_default-refusal.is }

pub refusal_by-requires : goal.refusal_by-requires
refusal_by-requires c = c.loop-line.invariant.onward.ready

pub returns-then-not-is_empty : goal.returns-then-not-is_empty
returns-then-not-is_empty c =
    ends_unended c.loop-line.invariant.onward c.in_default.ensures.steps c.loop-line.invariant.going c.refusal_by.result c.if-not-is_empty.ensures
    (rw c.number.ensures at c.refusal_by.ensures)

pub returns-then-state : goal.returns-then-state
returns-then-state c =
    ends_whole c.loop-line.invariant.onward c.in_default.ensures.steps c.loop-line.invariant.going c.if-not-is_empty.ensures c.if-state.true

pub refusal_by-requires-2 : goal.refusal_by-requires-2
refusal_by-requires-2 c = c.loop-line.invariant.onward.ready

pub returns : goal.returns
returns c =
    ends_early c.loop-line.invariant.onward c.in_default.ensures.steps c.loop-line.invariant.going c.if-not-is_empty.ensures c.refusal_by-2.result
    c.if-state.false (rw c.number-2.ensures at c.refusal_by-2.ensures)
