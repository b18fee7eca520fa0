-- Each relation is asked once, but for the overlap, which is given.
use mathlib.Core.Path.{◌≡◌, sym, ap, ◌∙◌}
use mathlib.Core.Bool.{Bool, not, ◌&&◌, and-true}
use Rattle.std.proofs.Common.{arith, eqb, ltb, get_or}
use Rattle.std.proofs.lemmas.Grind.{common_steps}
use Rattle.policy.specs.Views.{row_of}
use Rattle.relations.specs.Selectors.{overlaps}
use Rattle.relations.specs.Groups.{same_group}
use Rattle.relations.proofs.Laws.Groups.{same_group_tests}
use Rattle.kinds.proofs.pair.pair_of.Goals as goal

pub returns : goal.returns
returns c =
    let p = row_of c.args.p.row in
    let q = row_of c.args.q.row in
    let i = c.args.i in
    let j = c.args.j in
    let overlap = c.requires.1.overlap in
    let earlier : c.if-holder.earlier ≡ (eqb p.holder q.holder && ltb i j) = grind (arith, common_steps) in
    let tests : c.if-gateways.group ≡ ((eqb p.holder q.holder && (eqb p.technology q.technology && c.same_gateways-gateways.result)) && ltb i j) =
    grind (arith, common_steps) in
    let group : c.if-gateways.group ≡ (same_group p q && ltb i j) =
    tests ∙ ap (λ (t : Bool). (eqb p.holder q.holder && (eqb p.technology q.technology && t)) && ltb i j) c.same_gateways-gateways.ensures
    ∙ ap (λ (t : Bool). t && ltb i j) (sym (same_group_tests p q)) in
    let meets : c.if-p-q.meets ≡ (eqb c.args.p.from c.args.q.from && (eqb c.args.p.to c.args.q.to && overlaps p.selector q.selector)) =
    grind (arith, common_steps) in
    let crossing : not (eqb i j) ≡ (not (eqb i j) && overlaps p.selector q.selector) = rw (overlap, and-true (not (eqb i j))) in
    let confidential : c.if-r-gt0.confidential ≡ (ltb 0 (get_or p.coefficients 2 0) && ltb 0 (get_or q.coefficients 2 0)) =
    grind (arith, common_steps) in
    cc (earlier, group, meets, crossing, confidential)
