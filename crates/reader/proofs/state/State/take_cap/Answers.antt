-- What a cap's line comes to: refused for its form or its place, or taken. Assumes nothing.
use borrow.Author.Rules.{rules}
use mathlib.Core.Path.{◌≡◌, refl}
use mathlib.Core.List.{[], ◌∷◌, ◌++◌, map, map-append}
use native.Mathlib.Numerals.{add-one}
use native.Mathlib.Omega.{arith}
use Prim.Native.Nat.{◌+◌}
use lib.ListN.{take, set}
use lib.Seq.{take-suc-set}
use Rattle.base.proofs.Laws.Checks.{none_broken}
use Rattle.hexlines.specs.Lines.{bytes_of}
use Rattle.policy.specs.Views.{coefficients_of}
use Rattle.frames.specs.Caps.{cap_from, cap_kind}
use Rattle.frames.specs.Kinds.{of_cap}
use Rattle.frames.proofs.Laws.Caps.{few_caps}
use Rattle.reader.proofs.Laws.Readers.{counted, progress_of, has_own}
use Rattle.reader.proofs.Laws.Takings.{Tested, has_room, takes_misfit, takes_value}
use Rattle.reader.proofs.state.State.take_cap.Goals as goal
use Rattle.reader.proofs.state.State.take_cap.Goals.{After-misfit}

tested : (c : After-misfit) → Tested c.args.self.now of_cap (bytes_of c.args.part.now) c.has_length.result c.has_place.result
tested c =
    record {
      form = c.has_length.ensures;
      place = λ p h.
          let n = counted c.args.self.now (search rules) c.requires p h in
          rw (n.entities, n.caps, ← c.technology.ensures) c.has_place.ensures;
    }

pub returns-in_err-misfit : goal.returns-in_err-misfit
returns-in_err-misfit c =
    takes_misfit (tested (goal.at.returns-in_err-misfit c).After-misfit) c.in_err-misfit.field-0.0 c.in_err-misfit.ensures
    c.from_residual.result c.from_residual.ensures.1

pub returns : goal.returns
returns c =
    let at = goal.at.returns c in
    let r = c.args.self.now in
    let few = few_caps (progress_of r) (cap_kind.value (bytes_of c.args.part.now)) (has_room (tested at.After-misfit) c.in_ok-misfit.ensures) in
    let own = (counted r (search rules) c.requires (progress_of r) (has_own r)).caps in
    takes_value (tested at.After-misfit) c.in_ok-misfit.ensures (record { same = λ p h. none_broken }) (search (c.requires.unused, rules)) refl
    (λ p h.
    let cap = cap_from (bytes_of c.args.part.now) in
    let grown : map coefficients_of (take (r.capped + 1) (set r.caps r.capped c.read.result)) ≡ p.table.caps ++ (cap ∷ []) =
    rw (add-one, take-suc-set r.caps r.capped c.read.result (omega arith), map-append) (λ j. h.caps j ++ (c.read.ensures j ∷ [])) in
    search (grown, rules))
