-- The chain search meets its contract: the test that is made at j is whether row j is the next of a chain.
use mathlib.Core.Path.{◌≡◌, sym, ap, ◌∙◌}
use native.Mathlib.Numerals.{add-one}
use native.Mathlib.Omega.{arith}
use lib.Seq.{take-append_seam}
use Rattle.std.proofs.Common.{ℕ, suc, ◌+◌, ◌-◌, ◌<◌, ◌≤◌, Bool, true, false, List, ◌∷◌, ◌++◌, length, take}
use Rattle.policy.specs.Model.{Selector as Box}
use Rattle.policy.specs.Views.{selector_of, selector_in, SelectorStruct as Selector}
use Rattle.relations.specs.Selectors.{meet}
use Rattle.base.specs.Lists.{some}
use Rattle.base.proofs.Laws.Members.{some_start, some_none, some_found, some_end}
use Rattle.kinds.specs.Views.{from_in, to_in}
use Rattle.kinds.specs.Seen.{goes_on_in, chains_in}
use Rattle.kinds.specs.Tests.{chains}
use Rattle.kinds.proofs.Laws.Chains.{next_off, next_elsewhere, next_past, next_last, next_only, next_on, chains_some, chains_none}
use Rattle.kinds.proofs.path.+chains.Invariants.{test}
use Rattle.kinds.proofs.path.+chains.Goals as goal

-- whether row j, which begins at a, goes on
went : (bounds roots : List ℕ) (a : ℕ) (visited : List ℕ) (s : Selector) (j : ℕ) {r : Bool} → from_in roots j ≡ a
    → r ≡ goes_on_in bounds roots j (from_in roots j) visited s → goes_on_in bounds roots j a visited s ≡ r
went bounds roots a visited s j e h = sym (h ∙ ap (λ (x : ℕ). goes_on_in bounds roots j x visited s) e)

module _ (bounds roots : List ℕ) (rows left b a : ℕ) (visited : List ℕ) (s : Selector) where
  abbrev tests : ℕ → Bool
  tests = test bounds roots rows left b a visited (selector_of s)

  abbrev answer : ℕ → Bool
  answer n = chains_in bounds roots rows n b a visited s

  -- what the tests of the rows come to
  module _ (n : left ≡ 0 → ⊥) where
    whole : answer left ≡ some rows tests
    whole = let e : left ≡ suc (left - 1) = omega (arith, n) in ap answer e ∙ chains_some _ _ _ _ _ _ _ _ _

    answered : (j : ℕ) → j < rows → tests j ≡ true → true ≡ answer left
    answered j h e = sym (whole ∙ some_found tests rows j h e)

    ended : (j : ℕ) → j ≤ rows → rows ≤ j → some j tests ≡ false → false ≡ answer left
    ended j k l e = sym (whole ∙ some_end tests rows j k l e)

  -- the search that goes on from the end of row j, past that root and those that were visited
  searched : (j : ℕ) (later rest : List ℕ) (m : Selector) {r : Bool} → goes_on_in bounds roots j a visited s ≡ true
      → (to_in roots j ≡ b → ⊥) → later ≡ visited → selector_of m ≡ meet (selector_of s) (selector_in bounds j)
      → r ≡ chains_in bounds roots rows (left - 1) b (to_in roots j) (take (length visited + 1) (to_in roots j ∷ (later ++ rest))) m
      → tests j ≡ r
  searched j later rest m g e copied met r =
      next_on (from_in roots) to (selector_in bounds) rows (left - 1) b a visited (selector_of s) j g e
      ∙ sym (r ∙ ap (λ (v : List ℕ). further v (selector_of m)) grown ∙ ap (further (to j ∷ visited)) met)
    where
      to : ℕ → ℕ
      to = to_in roots

      further : List ℕ → Box → Bool
      further = chains (from_in roots) to (selector_in bounds) rows (left - 1) b (to j)

      grown : take (length visited + 1) (to j ∷ (later ++ rest)) ≡ to j ∷ visited
      grown = rw (copied, add-one (length visited)) (ap (λ l. to j ∷ l) (take-append_seam visited rest))

pub returns-then-left-eq0 : goal.returns-then-left-eq0
returns-then-left-eq0 t c = rw c.if-left-eq0.true (sym (chains_none _ _ _ _ _ _ _ _))

pub loop-j-init : goal.loop-j-init
loop-j-init t c = some_start _

pub loop-j-preserved-then-roots-j : goal.loop-j-preserved-then-roots-j
loop-j-preserved-then-roots-j t c =
    some_none _ c.loop-j.j c.loop-j.invariant (next_elsewhere _ _ _ _ _ _ _ _ _ c.loop-j.j c.if-roots-j.true)

pub loop-j-preserved-then-to-b : goal.loop-j-preserved-then-to-b
loop-j-preserved-then-to-b t c =
    let e = c.if-left-eq1.true in
    some_none _ c.loop-j.j c.loop-j.invariant (next_past _ _ _ _ _ _ _ _ _ c.loop-j.j (omega arith) c.if-to-b.true)

pub loop-j-preserved-then-not-goes_on : goal.loop-j-preserved-then-not-goes_on
loop-j-preserved-then-not-goes_on t c =
    let g = went _ _ _ _ _ c.loop-j.j c.if-roots-j.false c.goes_on.ensures ∙ c.if-not-goes_on.true in
    some_none _ c.loop-j.j c.loop-j.invariant (next_off _ _ _ _ _ _ _ _ _ c.loop-j.j g)

pub returns-then-left-lt4 : goal.returns-then-left-lt4
returns-then-left-lt4 t c =
    let h = c.if-left-lt4.true in
    let n = c.if-left-eq0.false in
    let g = went _ _ _ _ _ c.loop-j.j c.if-roots-j.false c.goes_on.ensures ∙ c.if-not-goes_on.false in
    answered _ _ _ _ _ _ _ _ n c.loop-j.j c.loop-j-test.true (next_last _ _ _ _ _ _ _ _ _ c.loop-j.j g c.if-to-b-2.true (omega arith))

pub loop-j-preserved-then-to-b-2 : goal.loop-j-preserved-then-to-b-2
loop-j-preserved-then-to-b-2 t c =
    let h = c.if-left-lt4.false in
    let g = went _ _ _ _ _ c.loop-j.j c.if-roots-j.false c.goes_on.ensures ∙ c.if-not-goes_on.false in
    some_none _ c.loop-j.j c.loop-j.invariant (next_only _ _ _ _ _ _ _ _ _ c.loop-j.j g c.if-to-b-2.true (omega arith))

pub returns-then-chains : goal.returns-then-chains
returns-then-chains t c =
    let g = went _ _ _ _ _ c.loop-j.j c.if-roots-j.false c.goes_on.ensures ∙ c.if-not-goes_on.false in
    let m = c.meet-m.ensures ∙ ap (meet (selector_of c.args.s)) c.selector_at.ensures in
    answered _ _ _ _ _ _ _ _ c.if-left-eq0.false c.loop-j.j c.loop-j-test.true
    (searched _ _ _ _ _ _ _ _ c.loop-j.j _ _ _ g c.if-to-b-2.false c.copy_from_slice.ensures.after m c.chains.ensures ∙ c.if-chains.true)

pub loop-j-preserved : goal.loop-j-preserved
loop-j-preserved t c =
    let g = went _ _ _ _ _ c.loop-j.j c.if-roots-j.false c.goes_on.ensures ∙ c.if-not-goes_on.false in
    let m = c.meet-m.ensures ∙ ap (meet (selector_of c.args.s)) c.selector_at.ensures in
    some_none _ c.loop-j.j c.loop-j.invariant
    (searched _ _ _ _ _ _ _ _ c.loop-j.j _ _ _ g c.if-to-b-2.false c.copy_from_slice.ensures.after m c.chains.ensures ∙ c.if-chains.false)

pub returns : goal.returns
returns t c =
    ended _ _ _ _ _ _ _ _ c.if-left-eq0.false c.loop-j.j c.loop-j.auto.j-end c.loop-j-test.false c.loop-j.invariant
