-- `timed_strike` meets its contract: the number is that of Strike's answer. Assumes nothing.
use mathlib.Core.Path.{ap, ◌∙◌}
use Rattle.analyser.specs.Calls.{packed}
use Rattle.timed.proofs.timed_strike.Goals as goal

pub returns-clause-answers : goal.returns-clause-answers
returns-clause-answers c = c.packed_count.ensures ∙ ap packed c.strike.ensures.answers
