-- Each of the five loops keeps what the values so far came to: a cover of them, of boxes that hold the packet so far; that the covers kept for the
-- fields below are covers; and that without a limit none comes up. Its measure is how many candidates are left.
use Rattle.std.proofs.Common.{ℕ, ◌≡◌, [], ◌∷◌, Option, None}
use Rattle.policy.specs.Model.{Selector}
use Rattle.policy.specs.Views.{value, range_of}
use Rattle.policy.specs.declared.selector.Range.{Range}
use Rattle.covers.specs.Sets.{In, Numbered}
use Rattle.covers.specs.Views.{next_of}
use Rattle.search.specs.Covers.{box_in}
use Rattle.search.proofs.Laws.Walks.{Walked, left, risen}
use Rattle.search.proofs.Laws.Levels.{Keeps}
use Rattle.search.proofs.walk.walk.Given as goal

-- the ranges of the fields from one on, as they are searched
abbrev pub from4 : Range → Selector
from4 r4 = risen (range_of r4) ∷ []

abbrev pub from3 : (r3 r4 : Range) → Selector
from3 r3 r4 = risen (range_of r3) ∷ from4 r4

abbrev pub from2 : (r2 r3 r4 : Range) → Selector
from2 r2 r3 r4 = risen (range_of r2) ∷ from3 r3 r4

abbrev pub from1 : (r1 r2 r3 r4 : Range) → Selector
from1 r1 r2 r3 r4 = risen (range_of r1) ∷ from2 r2 r3 r4

-- without a limit none comes up
abbrev pub Unlimited : Option ℕ → Option ℕ → Type 0
Unlimited limit now = limit ≡ None → now ≡ None

abbrev pub invariant-loop-n4 : goal.invariant-loop-n4
invariant-loop-n4 l = record {
  numbered : Numbered l.fn.cover.at l.a4;
  walked : Walked (box_in l.bounds l.fn.cover.at (l.f4 ∷ [])) (range_of l.r4) [] (In l.a4) (In l.k4) (next_of l.n4);
}

abbrev pub decreases-loop-n4 : goal.decreases-loop-n4
decreases-loop-n4 l = left (value l.r4.high) (next_of l.n4)

abbrev pub invariant-loop-n3 : goal.invariant-loop-n3
invariant-loop-n3 l = record {
  numbered : Numbered l.fn.cover.at l.a3;
  walked : Walked (box_in l.bounds l.fn.cover.at (l.f3 ∷ l.f4 ∷ [])) (range_of l.r3) (from4 l.r4) (In l.a3) (In l.k3) (next_of l.n3);
  kept4 : Keeps (box_in l.bounds l.fn.cover.at (l.f4 ∷ [])) (from4 l.r4) l.kept4.0;
  unlimited : Unlimited l.fn.limit l.left;
}

abbrev pub decreases-loop-n3 : goal.decreases-loop-n3
decreases-loop-n3 l = left (value l.r3.high) (next_of l.n3)

abbrev pub invariant-loop-n2 : goal.invariant-loop-n2
invariant-loop-n2 l = record {
  numbered : Numbered l.fn.cover.at l.a2;
  walked : Walked (box_in l.bounds l.fn.cover.at (l.f2 ∷ l.f3 ∷ l.f4 ∷ [])) (range_of l.r2) (from3 l.r3 l.r4) (In l.a2) (In l.k2) (next_of l.n2);
  kept3 : Keeps (box_in l.bounds l.fn.cover.at (l.f3 ∷ l.f4 ∷ [])) (from3 l.r3 l.r4) l.kept3.0;
  kept4 : Keeps (box_in l.bounds l.fn.cover.at (l.f4 ∷ [])) (from4 l.r4) l.kept4.0;
  unlimited : Unlimited l.fn.limit l.left;
}

abbrev pub decreases-loop-n2 : goal.decreases-loop-n2
decreases-loop-n2 l = left (value l.r2.high) (next_of l.n2)

abbrev pub invariant-loop-n1 : goal.invariant-loop-n1
invariant-loop-n1 l = record {
  numbered : Numbered l.fn.cover.at l.a1;
  walked :
      Walked (box_in l.bounds l.fn.cover.at (l.f1 ∷ l.f2 ∷ l.f3 ∷ l.f4 ∷ [])) (range_of l.r1) (from2 l.r2 l.r3 l.r4) (In l.a1) (In l.k1) (next_of l.n1);
  kept2 : Keeps (box_in l.bounds l.fn.cover.at (l.f2 ∷ l.f3 ∷ l.f4 ∷ [])) (from2 l.r2 l.r3 l.r4) l.kept2.0;
  kept3 : Keeps (box_in l.bounds l.fn.cover.at (l.f3 ∷ l.f4 ∷ [])) (from3 l.r3 l.r4) l.kept3.0;
  kept4 : Keeps (box_in l.bounds l.fn.cover.at (l.f4 ∷ [])) (from4 l.r4) l.kept4.0;
  unlimited : Unlimited l.fn.limit l.left;
}

abbrev pub decreases-loop-n1 : goal.decreases-loop-n1
decreases-loop-n1 l = left (value l.r1.high) (next_of l.n1)

abbrev pub invariant-search : goal.invariant-search
invariant-search l = record {
  numbered : Numbered l.fn.cover.at l.a0;
  walked :
      Walked (box_in l.bounds l.fn.cover.at (l.lead ∷ l.f1 ∷ l.f2 ∷ l.f3 ∷ l.f4 ∷ [])) (range_of l.r0) (from1 l.r1 l.r2 l.r3 l.r4) (In l.a0) (In l.a0) (next_of l.n0);
  kept1 : Keeps (box_in l.bounds l.fn.cover.at (l.f1 ∷ l.f2 ∷ l.f3 ∷ l.f4 ∷ [])) (from1 l.r1 l.r2 l.r3 l.r4) l.kept1.0;
  kept2 : Keeps (box_in l.bounds l.fn.cover.at (l.f2 ∷ l.f3 ∷ l.f4 ∷ [])) (from2 l.r2 l.r3 l.r4) l.kept2.0;
  kept3 : Keeps (box_in l.bounds l.fn.cover.at (l.f3 ∷ l.f4 ∷ [])) (from3 l.r3 l.r4) l.kept3.0;
  kept4 : Keeps (box_in l.bounds l.fn.cover.at (l.f4 ∷ [])) (from4 l.r4) l.kept4.0;
  unlimited : Unlimited l.fn.limit l.left;
}

abbrev pub decreases-search : goal.decreases-search
decreases-search l = left (value l.r0.high) (next_of l.n0)
