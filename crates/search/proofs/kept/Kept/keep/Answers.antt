-- One cover more, by the laws of `Shifting`.
use Rattle.std.proofs.Common.{rules, tests, ℕ, Bool, Option, Some, None, IsTrue, MatchOption, ◌≡◌, ◌<◌, ◌≤◌, eqb, length, get_or, sym, ap, ◌∙◌, arith}
use Rattle.search.specs.Covers.{ends}
use Rattle.search.proofs.Laws.Kept.{shifting_next, shifting_stop, shifting_end}
use Rattle.search.proofs.kept.Kept.keep.Goals as goal
use Rattle.search.proofs.kept.Kept.keep.Goals.{After-is_none_or}

-- what the test says of the cover that stood at the place
tests_end : (cover : ℕ) (old : Option ℕ) (b : Bool) (Tested : ℕ → Type 0) → ((x : ℕ) → Tested x → b ≡ eqb x cover) → MatchOption old (IsTrue b) Tested
    → b ≡ ends cover old
tests_end cover None b Tested t h = search rules
tests_end cover (Some x) b Tested t h = t x h

ended : (c : After-is_none_or) → c.is_none_or.result ≡ ends c.args.cover (get_or c.loop-place.place-items c.loop-place.place-index None)
ended c =
    tests_end c.args.cover c.replace-old.result c.is_none_or.result _ (λ x k. search (rules, tests)) c.is_none_or.ensures
    ∙ ap (ends c.args.cover) c.replace-old.ensures.value

pub returns-then-is_none_or : goal.returns-then-is_none_or
returns-then-is_none_or c =
    let h : c.loop-place.place-index < length c.loop-place.place-items = omega arith in
    let e = ended (goal.at.returns-then-is_none_or c).After-is_none_or in
    rw (c.replace-old.ensures.after) (shifting_stop _ _ _ _ _ c.loop-place.invariant h (sym e ∙ c.if-is_none_or.true))

pub loop-place-preserved : goal.loop-place-preserved
loop-place-preserved c =
    let h : c.loop-place.place-index < length c.loop-place.place-items = omega arith in
    let e = ended (goal.at.loop-place-preserved c).After-is_none_or in
    rw (c.replace-old.ensures.after, c.replace-old.ensures.value) (shifting_next _ _ _ _ _ c.loop-place.invariant h (sym e ∙ c.if-is_none_or.false))

pub returns : goal.returns
returns c = let h : length c.loop-place.place-items ≤ c.loop-place.place-index = omega arith in shifting_end _ _ _ _ _ c.loop-place.invariant h
