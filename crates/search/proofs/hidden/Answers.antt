-- Whichever field a walk begins with, that it finds nothing is that the search finds nothing.
use Rattle.std.proofs.Common.{◌≡◌, ◌↔◌, map, arith}
use Rattle.policy.specs.Views.{selector_in}
use Rattle.covers.specs.Least.{none}
use Rattle.covers.specs.Views.{boxes_at}
use Rattle.search.specs.Search.{search as searched}
use Rattle.search.specs.Turns.{turned}
use Rattle.search.proofs.Laws.Levels.{boxes_sized}
use Rattle.search.proofs.Laws.Turns.{fields_from, turned_none, free_decides, covered_decides}
use Rattle.search.proofs.hidden.Goals as goal
use Rattle.search.proofs.hidden.Goals.{After-walk}

-- a walk that begins with another field
alike : (c : After-walk)
    → (searched (turned c.loop-limit.lead (selector_in c.args.bounds.now c.args.row)) (map (turned c.loop-limit.lead) (boxes_at c.args.bounds.now c.args.cover 0)) ≡ none)
    ↔ (searched (selector_in c.args.bounds.now c.args.row) (boxes_at c.args.bounds.now c.args.cover 0) ≡ none)
alike c =
    let h = c.loop-limit.invariant.0 in
    turned_none c.loop-limit.lead (selector_in c.args.bounds.now c.args.row) (boxes_at c.args.bounds.now c.args.cover 0) (omega arith)
    (boxes_sized c.args.bounds.now (fields_from 0) c.args.cover)

pub returns-in-Free : goal.returns-in-Free
returns-in-Free c = free_decides _ _ c.in-Free.ensures (alike (goal.at.returns-in-Free c).After-walk)

pub returns-in-Covered : goal.returns-in-Covered
returns-in-Covered c = covered_decides _ c.in-Covered.ensures (alike (goal.at.returns-in-Covered c).After-walk)
