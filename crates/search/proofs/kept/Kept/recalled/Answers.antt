-- The first that serves, if no empty place is before it.
use Rattle.std.proofs.Common.{rules, tests, ℕ, ◌≡◌, Option, None, ap}
use Rattle.std.proofs.lemmas.Iterator.{YieldsList-from_slice}
use Rattle.std.proofs.lemmas.Iterator.Search.{find_from_yields_List}
use Rattle.std.specs.Option.{option_map, unwrap_or}
use Rattle.search.specs.Covers.{stops, recall}
use Rattle.search.proofs.kept.Kept.recalled.Goals as goal
use Rattle.search.proofs.kept.Kept.recalled.Goals.{After-find}

recalled_is : (c : After-find) → unwrap_or (option_map (λ x. x.now) c.find.result) None ≡ recall c.args.set c.args.self.now.0
recalled_is c =
    ap (λ (o : Option (Option ℕ)). unwrap_or o None)
    (find_from_yields_List (stops c.args.set) _ _ c.find.result c.find.ensures.ran (YieldsList-from_slice c.args.self.now.0 cc) (λ x b q k. search (rules, tests)))

pub returns-in_err-find : goal.returns-in_err-find
returns-in_err-find c = rw (c.from_residual.ensures) (rw (c.in_err-find.was) at (recalled_is (goal.at.returns-in_err-find c).After-find))

pub returns : goal.returns
returns c = rw (c.in_ok-find.was) at (recalled_is (goal.at.returns c).After-find)
