-- `timed_witness` meets its contract: the number of the call's answer. Assumes nothing.
use mathlib.Core.Path.{ap, ◌∙◌}
use Rattle.timed.specs.Codes.{witness_code}
use Rattle.timed.proofs.timed_witness.Goals as goal

pub returns : goal.returns
returns c = c.code.ensures ∙ ap witness_code c.witness_of.ensures
