-- One box more is the best, or the best stays, by the laws of `BestBefore`.
use Rattle.std.proofs.Common.{rules, ◌+◌, ◌≤◌, ap, sym, subst, arith}
use native.Mathlib.Nat.{one-mul}
use lib.Dec.{lit<}
use lib.Pow.{shl_exact}
use Rattle.policy.specs.Model.{Range}
use Rattle.policy.specs.Views.{value}
use Rattle.covers.proofs.Laws.Sets.{left_next}
use Rattle.search.proofs.Laws.Reach.{best_new, best_stays}
use Rattle.search.proofs.reach.furthest.Goals as goal
use Rattle.search.proofs.reach.furthest.Goals.{else-at_most-via-then-at_most+else-at_most-2, else-at_most-via-else-at_most}

pub loop-j-preserved-then-at_most-2 : goal.loop-j-preserved-then-at_most-2
loop-j-preserved-then-at_most-2 c =
    let i = c.loop-j.invariant in
    let n = c.in-Some.ensures.steps in
    let s : 1 + c.in-Some.j ≤ 64 = let h = n.small in omega arith in
    let low : value c.range-r.result.low ≤ value c.args.v = search rules in
    let high : value c.loop-j.top ≤ value c.range-r.result.high = search rules in
    let e = c.range-r.ensures in (
      left_next _ _ _ _ i.0 n,
      rw (shl_exact 1 c.in-Some.j 64 (lit< tt) s, one-mul, ap (λ (r : Range). r.high) e)
          (best_new _ _ _ _ _ _ i.0 n _ _ (subst (λ (r : Range). r.low ≤ value c.args.v) e low) (subst (λ (r : Range). value c.loop-j.top ≤ r.high) e high) i.1),
    )

pub loop-j-preserved : goal.loop-j-preserved
loop-j-preserved c =
    let i = c.loop-j.invariant in
    let n = c.in-Some.ensures.steps in
    let e = c.range-r.ensures in (
      left_next _ _ _ _ i.0 n,
      best_stays _ _ _ _ _ _ i.0 n _ _ (λ a b.
          let low : value c.range-r.result.low ≤ value c.args.v = subst (λ (r : Range). r.low ≤ value c.args.v) (sym e) a in
          let high : value c.loop-j.top ≤ value c.range-r.result.high = subst (λ (r : Range). value c.loop-j.top ≤ r.high) (sym e) b in
          elim c.else-at_most.branch [ else-at_most-via-then-at_most+else-at_most-2 w ↦ search rules | else-at_most-via-else-at_most w ↦ search rules ]) i.1,
    )
