-- Document 01, "Relations": entities; document 02, [2]: "the lowest entity that is ⪰ both". `up e` is e's parent, FF for a root.
-- Assumes nothing.
use Rattle.std.specs.Prelude.{ℕ, zero, suc, ◌<◌, ◌≡◌, Bool, true, false, eqb, length, drop}
use mathlib.Core.List.{List, [], ◌∷◌, Memᴰ}
use Rattle.policy.specs.Limits.{most_entities}
use Rattle.policy.specs.Model.{no_parent}
use Rattle.policy.specs.Views.{parent_in}
use Rattle.base.specs.Truths.{pick}
use Rattle.base.specs.Lists.{among}
use Rattle.relations.specs.Relations.{relation_by}
use Rattle.relations.specs.declared.entity.Climb.{Climb}
use Rattle.relations.specs.declared.relation.Relation.{Relation}
use Rattle.relations.specs.declared.relation.Relation.TheVariants.{Equal, Above, Below, Kin, Disjoint}

-- A parent is an earlier entity, as in every accepted table.
pub record Tree (up : ℕ → ℕ) : Type 0 where
  pub earlier : (e : ℕ) → (up e ≡ no_parent → ⊥) → up e < e

-- The parents of all entities, as a table lends them.
pub record Parents (parents : List ℕ) : Type 0 where
  pub full : length parents ≡ most_entities
  pub tree : Tree (parent_in parents)

-- What is asked of the parents that are lent and of two entities, the ends of a probe or of a row.
pub record TwoEntities (lent : List ℕ) (a b : ℕ) : Type 0 where
  pub parents : Parents lent
  pub source : a < most_entities
  pub destination : b < most_entities

-- e and its parents upward, at most n of them.
unfoldable pub upward : (ℕ → ℕ) → ℕ → ℕ → List ℕ
upward up zero e = []
upward up (suc n) e = e ∷ elim (eqb (up e) no_parent) [ true ↦ [] | false ↦ upward up n (up e) ]

-- e and its parents upward. Parents are earlier, so that there are no more than e + 1.
unfoldable pub ancestors : (ℕ → ℕ) → ℕ → List ℕ
ancestors up e = upward up (suc e) e

-- e's parents upward.
abbrev pub above : (ℕ → ℕ) → ℕ → List ℕ
above up e = drop 1 (ancestors up e)

-- What a climb has still to come by, and what is asked of it.
abbrev pub left_above : Climb → List ℕ
left_above c = above (parent_in c.parents.now) c.at

abbrev pub CanClimb : Climb → Type 0
CanClimb c = Parents c.parents.now × (c.at < most_entities)

-- The last of a list, or d where it is empty.
abbrev pub last_of : ℕ → List ℕ → ℕ
last_of d [] = d
last_of d (x ∷ xs) = last_of x xs

-- "root(e): the entity at the top of e's parents."
unfoldable pub root_of : (ℕ → ℕ) → ℕ → ℕ
root_of up e = last_of e (ancestors up e)

-- "e ⪰ f: e is f or among f's parents upward."
abbrev pub AtOrAbove : (ℕ → ℕ) → ℕ → ℕ → Type 0
AtOrAbove up e f = Memᴰ e (ancestors up f)

unfoldable pub at_or_above : (ℕ → ℕ) → ℕ → ℕ → Bool
at_or_above up e f = among e (ancestors up f)

-- The first of some entities that is ⪰ f; d where none is.
unfoldable pub first_above : (ℕ → ℕ) → ℕ → ℕ → List ℕ → ℕ
first_above up f d [] = d
first_above up f d (x ∷ xs) = pick (at_or_above up x f) x (first_above up f x xs)

-- "the lowest entity that is ⪰ both": of e and its parents upward the first that is ⪰ f. (Of entities with different roots, e's root.)
unfoldable pub lowest_above : (ℕ → ℕ) → ℕ → ℕ → ℕ
lowest_above up e f = first_above up f e (ancestors up e)

-- "Disjoint: different roots."
abbrev pub DisjointEntities : (ℕ → ℕ) → ℕ → ℕ → Type 0
DisjointEntities up e f = root_of up e ≡ root_of up f → ⊥

-- "Kin: same root, neither ⪰."
pub record KinEntities (up : ℕ → ℕ) (e f : ℕ) : Type 0 where
  pub root : root_of up e ≡ root_of up f
  pub not_above : AtOrAbove up e f → ⊥
  pub not_below : AtOrAbove up f e → ⊥

-- e ⪰ f, and e is not f.
pub record StrictlyAbove (up : ℕ → ℕ) (e f : ℕ) : Type 0 where
  pub above : AtOrAbove up e f
  pub other : e ≡ f → ⊥

unfoldable pub entity_relation : (ℕ → ℕ) → ℕ → ℕ → Relation
entity_relation up e f =
    relation_by (eqb e f) (at_or_above up e f) (at_or_above up f e) (eqb (root_of up e) (root_of up f))

-- What each of the five says of e and f.
abbrev pub EntitiesStand : (ℕ → ℕ) → ℕ → ℕ → Relation → Type 0
EntitiesStand up e f Equal = e ≡ f
EntitiesStand up e f Above = StrictlyAbove up e f
EntitiesStand up e f Below = StrictlyAbove up f e
EntitiesStand up e f Kin = KinEntities up e f
EntitiesStand up e f Disjoint = DisjointEntities up e f
