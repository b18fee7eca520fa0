-- Where some root stands again behind its place, it is found there.
use mathlib.Core.Path.{sym, ap, ◌∙◌}
use native.Mathlib.Omega.{arith}
use Rattle.kinds.specs.Tests.{twice}
use Rattle.base.proofs.Laws.Lists.{length_none}
use Rattle.kinds.proofs.Laws.Roots.{first_and_later, twice_nil, twice_here, twice_later}
use Rattle.kinds.proofs.roots.repeats.Goals as goal

pub returns-then-among : goal.returns-then-among
returns-then-among c =
    sym
    (c.loop-rest.invariant
    ∙ ap twice (first_and_later _ c.in-len1-up.len_at_least)
    ∙ twice_here _ _ (sym c.among.ensures ∙ c.if-among.true))

pub loop-rest-preserved : goal.loop-rest-preserved
loop-rest-preserved c =
    c.loop-rest.invariant
    ∙ ap twice (first_and_later _ c.in-len1-up.len_at_least)
    ∙ twice_later _ _ (sym c.among.ensures ∙ c.if-among.false)

pub returns : goal.returns
returns c =
    sym (c.loop-rest.invariant ∙ ap twice (length_none _ (let h = c.in_default.len_below in omega arith)) ∙ twice_nil)
