-- What the tests of the kinds look at in a table, and the chain search over the runs that it lends.
-- Assumes nothing.
use Rattle.std.specs.Prelude.{ℕ, Bool, List, length}
use Rattle.policy.specs.Model.{Coefficients, Filter, Table, entity_at, filter_at, parent_of}
use Rattle.policy.specs.Views.{SelectorStruct, selector_in, selector_of}
use Rattle.verdicts.specs.Verdicts.{dead}
use Rattle.kinds.specs.Views.{Placed, placed_at, from_in, to_in}
use Rattle.kinds.specs.Tests.{pair_of, goes_on, chains, alternative_path}
use Rattle.kinds.specs.declared.pair.Pair.{Pair}

pub record Seen : Type 0 where
  pub up : ℕ → ℕ
  pub mask : ℕ → ℕ
  pub caps : List Coefficients
  pub floor : Coefficients
  pub filters : ℕ
  pub filter : ℕ → Filter
  pub rows : ℕ
  pub placed : ℕ → Placed
  pub dead : ℕ → Bool

abbrev pub seen_of : Table → Seen
seen_of t =
    record {
      up = parent_of t;
      mask = λ e. (entity_at t e).mask;
      caps = t.caps;
      floor = t.floor;
      filters = length t.filters;
      filter = filter_at t;
      rows = length t.rows;
      placed = placed_at t;
      dead = dead t;
    }

-- How rows i and j stand to each other.
abbrev pub pair_in : Seen → ℕ → ℕ → Pair
pair_in s i j = pair_of s.up i j (s.placed i) (s.placed j)

-- ---- what is lent

-- The chain search over the roots and the selectors that are lent.
module _ (bounds roots : List ℕ) where
  abbrev pub goes_on_in : (j a : ℕ) → List ℕ → SelectorStruct → Bool
  goes_on_in j a visited s = goes_on (from_in roots) (to_in roots) (selector_in bounds) j a visited (selector_of s)

  abbrev pub chains_in : (rows left b a : ℕ) → List ℕ → SelectorStruct → Bool
  chains_in rows left b a visited s = chains (from_in roots) (to_in roots) (selector_in bounds) rows left b a visited (selector_of s)

  abbrev pub alternative_path_in : (rows i : ℕ) → Bool
  alternative_path_in rows i = alternative_path (from_in roots) (to_in roots) (selector_in bounds) rows i
