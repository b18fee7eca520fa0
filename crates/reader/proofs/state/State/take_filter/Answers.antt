-- What a filter's line comes to: refused for its form, its place or its content, or taken. Assumes nothing.
use borrow.Author.Rules.{rules}
use mathlib.Core.Path.{◌≡◌, refl}
use native.Mathlib.Omega.{arith}
use Prim.Native.Nat.{ℕ}
use lib.ListN.{take}
use Rattle.base.specs.Checks.{refusal}
use Rattle.hexlines.specs.Lines.{bytes_of}
use Rattle.policy.specs.Model.{parents_of}
use Rattle.policy.specs.Views.{filter_of}
use Rattle.hexlines.proofs.Laws.Lines.{length_bytes_of}
use Rattle.frames.specs.Filters.{filter_from, filter_content}
use Rattle.frames.proofs.Laws.Filters.{few_filters, filter_has_box}
use Rattle.frames.specs.Kinds.{of_filter}
use Rattle.reader.proofs.Laws.Readers.{counted, parents_taken, progress_of, has_own, one_more}
use Rattle.reader.proofs.Laws.Takings.{Tested, Content, has_form, has_room, content_by, takes_misfit, takes_broken, takes_value}
use Rattle.reader.proofs.state.State.take_filter.Goals as goal
use Rattle.reader.proofs.state.State.take_filter.Goals.{After-misfit, After-broken}

tested : (c : After-misfit) → Tested c.args.self.now of_filter (bytes_of c.args.part.now) c.has_length.result c.has_place.result
tested c =
    record {
      form = c.has_length.ensures;
      place = λ p h.
          let n = counted c.args.self.now (search rules) c.requires p h in
          rw (n.floored, n.rows, n.filters, ← c.from.ensures) c.has_place.ensures;
    }

content : (c : After-broken) {n : ℕ} → n ≡ refusal (filter_content (take c.args.self.now.entities c.args.self.now.parents) (filter_of c.read.result))
    → Content c.args.self.now of_filter (bytes_of c.args.part.now) n
content c e =
    content_by c.args.self.now of_filter (bytes_of c.args.part.now) (λ l v. refusal (filter_content l v)) parents_of
    (parents_taken c.args.self.now (search rules) c.requires) c.read.ensures e (λ p. refl)

-- its box is there
pub read-requires : goal.read-requires
read-requires c =
    let h = filter_has_box (bytes_of c.args.part.now) (has_form (tested (goal.at.read-requires c).After-misfit) c.in_ok-misfit.ensures) in
    omega (arith, length_bytes_of c.args.part.now)

pub returns-in_err-misfit : goal.returns-in_err-misfit
returns-in_err-misfit c =
    takes_misfit (tested (goal.at.returns-in_err-misfit c).After-misfit) c.in_err-misfit.field-0.0 c.in_err-misfit.ensures
    c.from_residual.result c.from_residual.ensures.1

pub returns-in_err-broken : goal.returns-in_err-broken
returns-in_err-broken c =
    let at = goal.at.returns-in_err-broken c in
    takes_broken (tested at.After-misfit) c.in_ok-misfit.ensures c.in_err-broken.field-0.0 (content at.After-broken c.in_err-broken.ensures)
    c.from_residual-in_err-broken.result c.from_residual-in_err-broken.ensures.1

pub returns : goal.returns
returns c =
    let at = goal.at.returns c in
    let r = c.args.self.now in
    let few = few_filters (progress_of r) (filter_from (bytes_of c.args.part.now)) (has_room (tested at.After-misfit) c.in_ok-misfit.ensures) in
    let own = counted r (search rules) c.requires (progress_of r) (has_own r) in
    takes_value (tested at.After-misfit) c.in_ok-misfit.ensures (content at.After-broken c.in_ok-broken.ensures) (search rules) refl
    (λ p h. search (one_more, rules))
