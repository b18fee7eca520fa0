-- The fields in another order: from one of them on, and round to those before it. For any number of fields.
-- Assumes nothing.
use Rattle.std.specs.Prelude.{ℕ, ◌≡◌, List, ◌++◌, take, drop, Option, None}
use Rattle.covers.specs.Least.{SearchResult, found, none}
use Rattle.search.specs.Views.{values_of}
use Rattle.search.specs.declared.walk.Ended.{Ended}
use Rattle.search.specs.declared.walk.Ended.TheVariants.{Free, Covered, Stopped}

-- The things of a list from place n on, then those before it.
unfoldable pub turned : {A : Type 0} → ℕ → List A → List A
turned n l = drop n l ++ take n l

-- What a walk's end tells of the search's answer o: which it is, or, if the walk was stopped, that it had a limit.
abbrev pub Tells : Option ℕ → SearchResult → Ended → Type 0
Tells limit o (Free v) = found (values_of v) ≡ o
Tells limit o Covered = none ≡ o
Tells limit o Stopped = limit ≡ None → ⊥
