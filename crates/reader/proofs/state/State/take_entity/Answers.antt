-- What an entity's line comes to: refused for its form, its place or its content, or taken. Assumes nothing.
use borrow.Author.Rules.{rules}
use mathlib.Core.Path.{◌≡◌, refl, ◌∙◌}
use mathlib.Core.List.{[], ◌∷◌, ◌++◌}
use native.Mathlib.Omega.{arith}
use Prim.Native.Nat.{ℕ, ◌+◌, ◌<◌, ◌≤◌}
use lib.ListN.{take, set}
use lib.Seq.{get_or-set_other}
use Rattle.base.specs.Checks.{refusal}
use Rattle.hexlines.specs.Lines.{bytes_of}
use Rattle.policy.specs.Limits.{most_entities}
use Rattle.policy.specs.Model.{no_parent, layers_of}
use Rattle.policy.specs.Views.{entity_of, parent_in}
use Rattle.policy.proofs.Laws.Lists.{entities_grown}
use Rattle.frames.specs.Entities.{entity_from, entity_content}
use Rattle.frames.specs.Kinds.{of_entity}
use Rattle.frames.proofs.Laws.Entities.{few_entities}
use Rattle.reader.proofs.Laws.Readers.{counted, layers_taken, progress_of, has_own}
use Rattle.reader.proofs.Laws.Takings.{Tested, Content, has_room, content_by, takes_misfit, takes_broken, takes_value}
use Rattle.reader.proofs.state.State.take_entity.Goals as goal
use Rattle.reader.proofs.state.State.take_entity.Goals.{After-misfit, After-broken}

tested : (c : After-misfit) → Tested c.args.self.now of_entity (bytes_of c.args.part.now) c.has_length.result c.has_place.result
tested c =
    record {
      form = c.has_length.ensures;
      place = λ p h. let n = counted c.args.self.now (search rules) c.requires p h in rw (n.caps, n.entities) c.has_place.ensures;
    }

content : (c : After-broken) {n : ℕ} → n ≡ refusal (entity_content (take c.args.self.now.entities c.args.self.now.layers) (entity_of c.read-e.result))
    → Content c.args.self.now of_entity (bytes_of c.args.part.now) n
content c e =
    content_by c.args.self.now of_entity (bytes_of c.args.part.now) (λ l v. refusal (entity_content l v)) layers_of
    (layers_taken c.args.self.now (search rules) c.requires) c.read-e.ensures e (λ p. refl)

pub returns-in_err-misfit : goal.returns-in_err-misfit
returns-in_err-misfit c =
    takes_misfit (tested (goal.at.returns-in_err-misfit c).After-misfit) c.in_err-misfit.field-0.0 c.in_err-misfit.ensures
    c.from_residual.result c.from_residual.ensures.1

pub returns-in_err-broken : goal.returns-in_err-broken
returns-in_err-broken c =
    let at = goal.at.returns-in_err-broken c in
    takes_broken (tested at.After-misfit) c.in_ok-misfit.ensures c.in_err-broken.field-0.0 (content at.After-broken c.in_err-broken.ensures)
    c.from_residual-in_err-broken.result c.from_residual-in_err-broken.ensures.1

pub returns : goal.returns
returns c =
    let at = goal.at.returns c in
    let r = c.args.self.now in
    let n = r.entities in
    let e = entity_of c.read-e.result in
    let few = few_entities (progress_of r) (entity_from (bytes_of c.args.part.now)) (has_room (tested at.After-misfit) c.in_ok-misfit.ensures) in
    let own = counted r (search rules) c.requires (progress_of r) (has_own r) in
    let room : n < most_entities = omega (arith, own.entities) in
    let past : (m : ℕ) → n + 1 ≤ m → parent_in (set r.parents n e.parent) m ≡ no_parent =
    λ m h. get_or-set_other r.parents n m e.parent no_parent (λ q. omega arith) ∙ c.requires.unused m (omega arith) in
    takes_value (tested at.After-misfit) c.in_ok-misfit.ensures (content at.After-broken c.in_ok-broken.ensures) (search (past, rules)) refl
    (λ p h.
    let grown =
    entities_grown r.parents r.layers r.masks n e (omega arith) (omega arith) (omega arith)
    ∙ (λ j. h.entities j ++ (c.read-e.ensures j ∷ [])) in
    search (grown, rules))
