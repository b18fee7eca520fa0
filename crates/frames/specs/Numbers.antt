-- Document 01's refusal 5: numbers of entities and of roots. `parents` are those of the entities read so far, by number.
-- Assumes nothing.
use Rattle.std.specs.Prelude.{ℕ, Bool, ◌&&◌, List, eqb, ltb, length, get_or}
use Rattle.base.specs.Lists.{all_pass}
use Rattle.policy.specs.Model.{no_parent}

-- The number is an entity's.
unfoldable pub is_entity : List ℕ → ℕ → Bool
is_entity parents e = ltb e (length parents)

-- The number is a root's.
unfoldable pub is_root : List ℕ → ℕ → Bool
is_root parents e = ltb e (length parents) && eqb (get_or parents e 0) no_parent

-- Each number is a root's.
unfoldable pub all_roots : List ℕ → List ℕ → Bool
all_roots parents gs = all_pass (is_root parents) gs
