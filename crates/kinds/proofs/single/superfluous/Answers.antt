-- The tests that are made at j are those of rows j and i.
use mathlib.Core.Path.{◌≡◌, sym, ap, ◌∙◌}
use mathlib.Core.Bool.{or-false, and-false, and-true}
use native.Mathlib.Omega.{arith}
use borrow.Author.Tests.{eq-eqb, ne_eqb}
use Rattle.std.proofs.Common.{ℕ, ◌+◌, Bool, true, false, not, ◌||◌}
use Rattle.base.specs.Lists.{some}
use Rattle.base.proofs.Laws.Members.{some_start, some_more, some_none, some_found}
use Rattle.relations.specs.Coefficients.{at_least}
use Rattle.kinds.specs.Tests.{rides, superfluous}
use Rattle.kinds.specs.Views.{Placed, placed_in}
use Rattle.kinds.proofs.single.superfluous.Invariants.{riding, weak, Riders}
use Rattle.kinds.proofs.single.superfluous.Goals as goal
use Rattle.kinds.proofs.single.superfluous.Goals.{then-j-i+then-rides+else-weaker, else-j-i, else-j-i-via-then-j-i+else-rides, else-j-i-via-else-j-i}

module _ (at : ℕ → Placed) (i j : ℕ) where
  -- a row that rides, or does not
  taken : {ridden : Bool} → Riders at i j ridden → riding at i j ≡ true → weak at i j ≡ false → Riders at i (j + 1) true
  taken v e w =
      record { rode = sym (some_found (riding at i) (j + 1) j (omega arith) e); none_weak = some_none (weak at i) j v.none_weak w }

  passed : {ridden : Bool} → Riders at i j ridden → riding at i j ≡ false → Riders at i (j + 1) ridden
  passed v e =
      record {
        rode = v.rode ∙ sym (some_more (riding at i) j ∙ ap (λ (t : Bool). some j (riding at i) || t) e ∙ or-false (some j (riding at i)));
        none_weak = some_none (weak at i) j v.none_weak (rw e);
      }

  itself : j ≡ i → riding at i j ≡ false
  itself e = rw (eq-eqb j i e)

  -- rows j and i as they were taken out
  module _ (q p : Placed) (row_j : q ≡ at j) (row_i : p ≡ at i) where
    rode : (j ≡ i → ⊥) → {r : Bool} → r ≡ rides q p → riding at i j ≡ r
    rode ne h = rw (ne_eqb j i ne) (sym (h ∙ (λ x. rides (row_j x) (row_i x))))

    compared : {r s : Bool} → riding at i j ≡ true → r ≡ at_least q.row.coefficients p.row.coefficients → r ≡ s → weak at i j ≡ not s
    compared e h f = rw e (ap not (sym (h ∙ (λ x. at_least (row_j x).row.coefficients (row_i x).row.coefficients)) ∙ f))

pub loop-j-init : goal.loop-j-init
loop-j-init c = record { rode = sym (some_start _); none_weak = some_start _ }

pub loop-j-preserved : goal.loop-j-preserved
loop-j-preserved c =
    let at = placed_in c.args.t.now.heads c.args.t.now.bounds c.args.roots.now in
    let i = c.args.i in
    let j = c.loop-j.j in
    let v = c.loop-j.invariant in
    elim c.if-j-i.branch [
      | then-j-i+then-rides+else-weaker w ↦
          let e = rode at i j _ _ c.placed_at-q.ensures c.placed_at-p.ensures w.if-j-i.true w.rides.ensures ∙ w.if-rides.true in
          rw w.ridden-is
          (taken at i j v e (compared at i j _ _ c.placed_at-q.ensures c.placed_at-p.ensures e w.at_least-weaker.ensures w.if-weaker.false))
      | else-j-i w ↦
          rw w.ridden-is
          (passed at i j v
          (elim w.else-j-i.branch [
            | else-j-i-via-then-j-i+else-rides n ↦
                rode at i j _ _ c.placed_at-q.ensures c.placed_at-p.ensures n.if-j-i.true n.rides.ensures ∙ n.if-rides.false
            | else-j-i-via-else-j-i n ↦ itself at i j n.if-j-i.false
          ]))
    ]

pub returns-then-weaker : goal.returns-then-weaker
unfolding superfluous
returns-then-weaker c =
    let at = placed_in c.args.t.now.heads c.args.t.now.bounds c.args.roots.now in
    let i = c.args.i in
    let j = c.loop-j.j in
    let n = c.args.t.now.rows in
    let e = rode at i j _ _ c.placed_at-q.ensures c.placed_at-p.ensures c.if-j-i.true c.rides.ensures ∙ c.if-rides.true in
    let w = compared at i j _ _ c.placed_at-q.ensures c.placed_at-p.ensures e c.at_least-weaker.ensures c.if-weaker.true in
    rw (some_found (weak at i) n j c.loop-j-test.true w) (sym (and-false (some n (riding at i))))

pub returns : goal.returns
unfolding superfluous
returns c =
    let at = placed_in c.args.t.now.heads c.args.t.now.bounds c.args.roots.now in
    let n = c.args.t.now.rows in
    let v = c.loop-j.invariant in
    let h = c.loop-j-test.false in
    let k = c.loop-j.auto.j-end in
    let e : n ≡ c.loop-j.j = omega arith in
    rw (e, v.none_weak, and-true (some c.loop-j.j (riding at c.args.i))) v.rode
