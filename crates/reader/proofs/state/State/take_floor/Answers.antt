-- What the floor's line comes to: refused for its form or its place, or taken. Assumes nothing.
use borrow.Author.Rules.{rules}
use mathlib.Core.Path.{refl}
use Rattle.base.proofs.Laws.Checks.{none_broken}
use Rattle.hexlines.specs.Lines.{bytes_of}
use Rattle.frames.specs.Kinds.{of_floor}
use Rattle.reader.proofs.Laws.Readers.{counted}
use Rattle.reader.proofs.Laws.Takings.{Tested, takes_misfit, takes_value}
use Rattle.reader.proofs.state.State.take_floor.Goals as goal
use Rattle.reader.proofs.state.State.take_floor.Goals.{After-misfit}

tested : (c : After-misfit) → Tested c.args.self.now of_floor (bytes_of c.args.part.now) c.has_length.result c.has_place.result
tested c =
    record {
      form = c.has_length.ensures;
      place = λ p h.
          let n = counted c.args.self.now (search rules) c.requires p h in
          rw (n.caps, n.floored, ← c.from.ensures) c.has_place.ensures;
    }

pub returns-in_err-misfit : goal.returns-in_err-misfit
returns-in_err-misfit c =
    takes_misfit (tested (goal.at.returns-in_err-misfit c).After-misfit) c.in_err-misfit.field-0.0 c.in_err-misfit.ensures
    c.from_residual.result c.from_residual.ensures.1

pub returns : goal.returns
returns c =
    takes_value (tested (goal.at.returns c).After-misfit) c.in_ok-misfit.ensures (record { same = λ p h. none_broken }) (search rules) refl
    (λ p h. search rules)
