-- Laws of the numbers of entities and of roots:
--   own: a parent or a layer among those of all entities is the entity's
--   is_entity_decides, is_root_decides: the tests of numbers
-- Assumes nothing.
use Prim.Native.Nat.{ℕ, ◌<◌}
use mathlib.Core.Path.{◌≡◌, sym, ◌∙◌}
use mathlib.Core.List.{List, map}
use lib.ListN.{length, get_or, length-map, get_or-map}
use Rattle.base.specs.Truths.{Decides}
use Rattle.base.proofs.Laws.Decides.{decides_as, decides_ltb, decides_eqb, decides_and}
use Rattle.base.proofs.Laws.Lists.{get_d_default}
use Rattle.policy.specs.Model.{Entity, Table, no_parent, no_entity, parents_of}
use Rattle.policy.specs.Wellformed.{IsEntity, IsRoot}
use Rattle.frames.specs.Numbers.{is_entity, is_root}

pub own : (f : Entity → ℕ) (es : List Entity) (e : ℕ) → e < length es → get_or (map f es) e 0 ≡ f (get_or es e no_entity)
own f es e h = get_d_default (map f es) e 0 (f no_entity) (rw length-map h) ∙ get_or-map f es e no_entity

pub is_entity_decides : (t : Table) (e : ℕ) → Decides (is_entity (parents_of t) e) (IsEntity t e)
unfolding is_entity
is_entity_decides t e = rw length-map (decides_ltb e (length t.entities))

pub is_root_decides : (t : Table) (e : ℕ) → Decides (is_root (parents_of t) e) (IsRoot t e)
unfolding is_root
is_root_decides t e =
    let same = own (λ x. x.parent) t.entities e in
    rw length-map
    (decides_as (λ h. record { entity = h.0; root = sym (same h.0) ∙ h.1 }) (λ r. (r.entity, same r.entity ∙ r.root))
    (decides_and _ _ (decides_ltb e (length t.entities)) (decides_eqb (get_or (parents_of t) e 0) no_parent)))
