-- `of_row` meets its contract: it asks for each kind of the row that it reads. Assumes nothing.
use borrow.Author.Rules.{rules}
use native.Mathlib.Omega.{arith}
use Rattle.std.proofs.Common.{ℕ, ◌≡◌, List, length, map, get_or, take, take_all, sym, ap, ◌∙◌}
use Rattle.policy.specs.Limits.{technologies}
use Rattle.policy.specs.Views.{coefficients_of, row_of, filter_in}
use Rattle.policy.specs.declared.row.Coefficients.{Coefficients as CoefficientsStruct}
use Rattle.verdicts.specs.Verdicts.{verdict_in, is_none}
use Rattle.kinds.specs.Views.{Placed, placed_of, placed_in}
use Rattle.kinds.specs.Tests.{internal_loop, out_of_place, non_enforceable, inadequate, filtered, layer_two, cyclic}
use Rattle.listing.proofs.marks.of_row.Goals as goal

pub returns : goal.returns
returns c =
    let t = c.args.t.now in
    let p = c.placed_at-p.result in
    let e : placed_of c.placed_at-p.result ≡ placed_in t.heads t.bounds c.args.roots.now c.args.i = c.placed_at-p.ensures in
    let mask : ℕ → ℕ = λ x. get_or t.masks x 0 in
    let verdict : c.is_dead.result ≡ is_none (verdict_in t.parents t.heads t.bounds c.args.i) = c.is_dead.ensures in
    let six : length t.caps ≡ technologies = search rules in
    let all : t.caps ≡ take technologies t.caps = sym (take_all technologies t.caps (omega arith)) in
    rw (
      c.internal_loop.ensures ∙ ap internal_loop e,
      c.out_of_place.ensures ∙ ap out_of_place e,
      c.non_enforceable.ensures
          ∙ ap (λ (l : List CoefficientsStruct). non_enforceable (mask p.from) (mask p.to) (map coefficients_of l) (row_of p.row)) all
          ∙ ap (λ (x : Placed). non_enforceable (mask x.from) (mask x.to) (map coefficients_of (take technologies t.caps)) x.row) e,
      c.inadequate.ensures ∙ ap (λ (x : Placed). inadequate (coefficients_of t.floor) x.row) e,
      c.superfluous.ensures,
      c.filtered.ensures
          ∙ ap (λ (x : Placed). filtered (filter_in t.filter_roots t.filter_actions t.bounds) t.filters x.row) e,
      c.layer_two.ensures ∙ ap (λ (x : Placed). layer_two x.row) e,
      c.asymmetric.ensures,
      c.cyclic.ensures ∙ ap cyclic e,
      c.alternative_path.ensures,
      verdict,
    ) at c.bits_of.ensures
