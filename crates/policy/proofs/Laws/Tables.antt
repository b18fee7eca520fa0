-- Laws of the table that a struct holds. How long the struct's arrays and the table's lists are; that the struct's parents,
-- layers and masks are the table's; of a well-formed table, that a parent is an earlier entity.
-- Assumes nothing.
use mathlib.Core.Path.{◌≡◌, sym, ap, fun_ext, ◌∙◌}
use mathlib.Core.Logic.{⊎_elim}
use mathlib.Core.List.{List, [], ◌∷◌, map}
use Prim.Native.Nat.{ℕ, ◌*◌, ◌≤◌, ◌<◌}
use native.Mathlib.Decide.{dec_lt}
use native.Mathlib.Omega.{arith}
use borrow.Author.Rules.{rules}
use denote.Laws.{Is}
use denote.Struct.Declared.{row}
use denote.Struct.Laws.{val}
use lib.ListN.{length, get_or, take, length-map, get_or-eq_default}
use lib.Seq.{length-take-le}
use Rattle.policy.specs.Limits.{most_entities, technologies, most_filters, most_rows, most_selectors, head_count, word_count}
use Rattle.policy.specs.Model.{Table, no_parent, no_entity, entity_at, parent_of}
use Rattle.policy.specs.Views.{coefficients_of, parent_in, entity_in, filter_in, table_of, Held}
use Rattle.policy.specs.Wellformed.{Wellformed}
use Rattle.policy.specs.declared.table.Table.{Table as TableStruct}
use Rattle.base.specs.Lists.{tabulate}
use Rattle.base.proofs.Laws.Lists.{get_d_default, length_tabulate, get_d_tabulate, map_tabulate, tabulate_take}
use Rattle.policy.proofs.Laws.Lists.{length_rows}
use Rattle.policy.specs.contracts.table.Table.{the_type}
use Rattle.policy.proofs.table.Table.TheLaws.{the_laws}

-- ---- the struct's arrays. A function that takes a table, or is given one by a call, has what `sized` asks: `c.good.0`, `c.f.ok`

-- The arrays have their lengths.
pub record Sized (t : TableStruct) : Type 0 where
  pub parents : length t.parents ≡ most_entities
  pub layers : length t.layers ≡ most_entities
  pub masks : length t.masks ≡ most_entities
  pub caps : length t.caps ≡ technologies
  pub filter_roots : length t.filter_roots ≡ most_filters
  pub filter_actions : length t.filter_actions ≡ most_filters
  pub heads : length t.heads ≡ head_count * most_rows
  pub bounds : length t.bounds ≡ word_count * most_selectors

-- owning an array of structs tells the length of the list of what their records are taken to
pub length_mapped : {X Y : Type 0} (f : X → Y) (l : List X) (n : ℕ) → length (map f l) ≡ n → length l ≡ n
length_mapped f l n e = sym (length-map l f) ∙ e

pub sized : (t : TableStruct) → Is (row the_type) t (val the_type the_laws t ∷ []) → Sized t
sized t good = search (length_mapped, rules)

-- ---- the table's lists

length_entities : (t : TableStruct) → length (table_of t).entities ≡ t.entities
length_entities t = length_tabulate (entity_in t.parents t.layers t.masks) t.entities

-- The table has what the struct counts.
pub record Counted (t : TableStruct) : Type 0 where
  pub entities : length (table_of t).entities ≡ t.entities
  pub caps : length (table_of t).caps ≡ t.capped
  pub filters : length (table_of t).filters ≡ t.filters
  pub rows : length (table_of t).rows ≡ t.rows

pub counted : (t : TableStruct) → t.capped ≤ length t.caps → Counted t
counted t h =
    record {
      entities = length_entities t;
      caps = length-map (take t.capped t.caps) coefficients_of ∙ length-take-le t.capped t.caps h;
      filters = length_tabulate (filter_in t.filter_roots t.filter_actions t.bounds) t.filters;
      rows = length_rows t.heads t.bounds t.rows;
    }

-- ---- the struct's entities

pub entity_same : (t : TableStruct) (e : ℕ) → e < t.entities → entity_at (table_of t) e ≡ entity_in t.parents t.layers t.masks e
entity_same t e h = get_d_tabulate (entity_in t.parents t.layers t.masks) t.entities e no_entity h

pub mask_same : (t : TableStruct) (e : ℕ) → e < t.entities → (entity_at (table_of t) e).mask ≡ get_or t.masks e 0
mask_same t e h = ap (λ x. x.mask) (entity_same t e h)

-- the parents and the layers of the entities that runs hold are the first of them
module _ (parents layers masks : List ℕ) (n : ℕ) where
  pub parents_taken : n ≤ length parents → map (λ x. x.parent) (tabulate (entity_in parents layers masks) n) ≡ take n parents
  parents_taken h = map_tabulate (λ x. x.parent) (entity_in parents layers masks) n ∙ tabulate_take parents n h

  pub layers_taken : n ≤ length layers → map (λ x. x.layer) (tabulate (entity_in parents layers masks) n) ≡ take n layers
  layers_taken h = map_tabulate (λ x. x.layer) (entity_in parents layers masks) n ∙ tabulate_take layers n h

no_entity_lem : (t : Table) (e : ℕ) → length t.entities ≤ e → entity_at t e ≡ no_entity
no_entity_lem t e h = get_or-eq_default t.entities no_entity h

-- the parents as functions: past the entities both are no_parent
pub parents_same : (t : TableStruct) → Held t → t.entities ≤ length t.parents → parent_in t.parents ≡ parent_of (table_of t)
parents_same t held room = fun_ext (λ e. elim (dec_lt e t.entities) [ yes h ↦ below e h | no h ↦ past e (omega arith) ])
  where
    below : (e : ℕ) → e < t.entities → parent_in t.parents e ≡ parent_of (table_of t) e
    below e h = get_d_default t.parents e no_parent 0 (omega arith) ∙ sym (ap (λ x. x.parent) (entity_same t e h))

    past : (e : ℕ) → t.entities ≤ e → parent_in t.parents e ≡ parent_of (table_of t) e
    past e h = held.unused e h ∙ sym (ap (λ x. x.parent) (no_entity_lem (table_of t) e (omega (arith, length_entities t))))

-- ---- well-formed tables

-- a number with a parent is an entity's, and no root's
pub parent_earlier : {t : Table} → Wellformed t → (k : ℕ) → (parent_of t k ≡ no_parent → ⊥) → parent_of t k < k
parent_earlier {t} w k h =
    elim (dec_lt k (length t.entities)) [
      | yes b ↦ ⊎_elim (λ r. absurd (h r.parent)) (λ o. o.earlier) (w.entity k b)
      | no b ↦ absurd (h (ap (λ x. x.parent) (no_entity_lem t k (omega arith))))
    ]
