-- Laws of entities' frames:
--   no_caps, few_entities, early_entity: what the place of an entity in the sequence tells
--   entity_passes: an entity that keeps its rules is not refused
--   entity_lawful: what is read with an entity that is not refused keeps its rules
-- Assumes nothing.
use Prim.Native.Nat.{ℕ, ◌%◌, ◌^◌, ◌<◌, ◌≤◌}
use mathlib.Core.Path.{◌≡◌, refl, sym, ◌∙◌}
use mathlib.Core.Logic.{◌⊎◌, inl, inr}
use mathlib.Core.Bool.{Bool, true, false}
use mathlib.Core.List.{List, [], ◌∷◌, ◌++◌, map}
use native.Mathlib.Omega.{arith}
use borrow.Author.Tests.{ltb-true, eqb-true, eqb-false}
use lib.Dec.{eqb}
use lib.ListN.{length, get_or, length-map, length-append, get_or-append}
use lib.Seq.{get_or-append_seam}
use Rattle.base.specs.Checks.{refusal}
use Rattle.base.specs.Truths.{pick, Decides}
use Rattle.base.proofs.Laws.Checks.{both, refusal_none, none_broken, one_kept}
use Rattle.base.proofs.Laws.Decides.{decides_as, decides_ltb, decides_eqb, decides_and, decides_holds, decides_fails}
use Rattle.base.proofs.Laws.Members.{among_decides}
use Rattle.policy.specs.Limits.{most_entities}
use Rattle.policy.specs.Model.{Entity, Table, no_parent, no_entity, entity_at, layers_of}
use Rattle.policy.specs.Views.{with_entity}
use Rattle.policy.specs.Wellformed.{RootRule, OtherRule, EntityRule, IsEntity}
use Rattle.frames.specs.Refusals.{bad_entity}
use Rattle.frames.specs.Faults.{an_entity, Broken, entity_rule_broken}
use Rattle.frames.specs.Progress.{Progress}
use Rattle.frames.specs.Entities.{other_layers, root_rule, other_rule, entity_rule, entity_content, entity_kind}
use Rattle.frames.proofs.Laws.Parts.{three_bytes}
use Rattle.frames.proofs.Laws.Numbers.{own}
use Rattle.frames.proofs.Laws.Claims.{tests_one, judges_one}
use Rattle.base.proofs.Laws.Firsts.{below_more}
use Rattle.frames.proofs.Laws.Growing.{Sequenced, before_floor, Growing, growing_start, early, no_floor, Lawful}

-- ---- the rules of its content

-- An entity of a table, with those before it and after it.
module _ (t : Table) (before after : List Entity) (e : Entity) (parts : t.entities ≡ before ++ (e ∷ after)) (few : length before ≤ no_parent) where
  here : entity_at t (length before) ≡ e
  here = rw parts (get_or-append_seam before e after no_entity)

  -- The layer of its parent, which is earlier.
  above : e.parent < length before → get_or (map (λ x. x.layer) before) e.parent 0 ≡ (entity_at t e.parent).layer
  above h = own (λ x. x.layer) before e.parent h ∙ rw (parts, get_or-append before (e ∷ after) no_entity e.parent h)

  root_decides : Decides (root_rule e) ((e.layer ≡ 0) × ((e.mask % 2 ≡ 0) × (e.mask < 2 ^ 7)))
  root_decides = decides_and _ _ (decides_eqb _ 0) (decides_and _ _ (decides_eqb _ 0) (decides_ltb _ (2 ^ 7)))

  other_decides : Decides (other_rule (map (λ x. x.layer) before) e) (OtherRule t (length before))
  other_decides =
      rw length-map
      (decides_as
      (λ h.
      record {
        layer = rw here h.0;
        earlier = rw here h.1.0;
        smaller = rw (here, ← above h.1.0) h.1.1.0;
        mask = rw here h.1.1.1;
      })
      (λ o.
      let earlier : e.parent < length before = rw here at o.earlier in
      (rw here at o.layer, (earlier, (rw (above earlier) (rw here at o.smaller), rw here at o.mask))))
      (decides_and _ _ (among_decides e.layer other_layers)
      (decides_and _ _ (decides_ltb e.parent (length before))
      (decides_and _ _ (decides_ltb (get_or (map (λ x. x.layer) before) e.parent 0) e.layer) (decides_eqb e.mask 0)))))

  -- The parent of an entity that is no root is below FF.
  entity_decides : Decides (entity_rule (map (λ x. x.layer) before) e) (EntityRule t (length before))
  unfolding entity_rule
  entity_decides = rw here (go (eqb e.parent no_parent) refl)
    where
      go : (b : Bool) → eqb e.parent no_parent ≡ b → Decides (pick b (root_rule e) (other_rule (map (λ x. x.layer) before) e)) (RootRule e ⊎ OtherRule t (length before))
      go true p =
          let root = eqb-true e.parent no_parent p in
          decides_as (λ h. inl (record { parent = root; layer = h.0; bit_0 = h.1.0; bit_7 = h.1.1 }))
          (λ s. elim s [
            | inl r ↦ (r.layer, (r.bit_0, r.bit_7))
            | inr o ↦ let h : e.parent < length before = rw here at o.earlier in absurd (omega arith)
          ])
          root_decides
      go false p =
          decides_as inr (λ s. elim s [ inl r ↦ absurd (eqb-false e.parent no_parent p r.parent) | inr o ↦ o ]) other_decides

  pub entity_passes : EntityRule t (length before) → refusal (entity_content (map (λ x. x.layer) before) e) ≡ 0
  entity_passes rule = one_kept (entity_rule (map (λ x. x.layer) before) e) bad_entity [] (decides_holds _ entity_decides rule) none_broken

-- ---- what is read with it

module _ (t : Table) (e : Entity) where
  -- The entities before it stay.
  before : (k : ℕ) → k < length t.entities → entity_at (with_entity e t) k ≡ entity_at t k
  before k h = get_or-append t.entities (e ∷ []) no_entity k h

  module _ (few : length t.entities ≤ no_parent) where
    rule_decides : Decides (entity_rule (layers_of t) e) (EntityRule (with_entity e t) (length t.entities))
    rule_decides = entity_decides (with_entity e t) t.entities [] e refl few

    entity_kept : refusal (entity_content (layers_of t) e) ≡ 0 → EntityRule (with_entity e t) (length t.entities)
    entity_kept h = rule_decides.yes (refusal_none (entity_rule (layers_of t) e) bad_entity [] (λ z. omega arith) h).0

  -- Those before it keep their rules.
  entity_before : (k : ℕ) → k < length t.entities → EntityRule t k → EntityRule (with_entity e t) k
  entity_before k h (inl r) = inl (rw (before k h) r)
  entity_before k h (inr o) =
      let b : (entity_at t k).parent < length t.entities = omega (arith, o.earlier) in
      inr
      (record {
        layer = rw (before k h) o.layer;
        earlier = rw (before k h) o.earlier;
        smaller = rw (before k h, before (entity_at t k).parent b) o.smaller;
        mask = rw (before k h) o.mask;
      })

  -- With it, each keeps its rules.
  each_entity : ((k : ℕ) → IsEntity t k → EntityRule t k) → EntityRule (with_entity e t) (length t.entities)
      → (k : ℕ) → IsEntity (with_entity e t) k → EntityRule (with_entity e t) k
  each_entity each new k h =
      below_more (EntityRule (with_entity e t)) (length t.entities) (λ j b. entity_before j b (each j b)) new k
      (omega (arith, length-append t.entities (e ∷ [])))

module _ (p : Progress) (e : Entity) (m : entity_kind.placed p e ≡ true) where
  pub no_caps : length p.table.caps ≡ 0
  no_caps = eqb-true _ _ (both (eqb (length p.table.caps) 0) _ m).0

  pub few_entities : length p.table.entities < most_entities
  few_entities = ltb-true _ _ (both (eqb (length p.table.caps) 0) _ m).1

  pub early_entity : Sequenced p → p.floored ≡ 0
  early_entity q = let none = no_caps in no_floor q (omega arith)

  sequenced_entity : Sequenced p → Sequenced (entity_kind.grown e p)
  sequenced_entity q =
      let none = no_caps in
      let few = few_entities in
      let start = early_entity q in
      before_floor start
      (record {
        few_entities = simp length-append (omega arith);
        few_caps = omega arith;
        entities_first = λ h. absurd (omega arith);
        none_later = (early q start).none_later;
      })

  growing_entity : Growing p → refusal (entity_content (layers_of p.table) e) ≡ 0 → Growing (entity_kind.grown e p)
  growing_entity g c =
      let t = p.table in
      let q = g.sequenced in
      let few = few_entities in
      growing_start (sequenced_entity q) (early q (early_entity q)).none_later (each_entity t e g.entity (entity_kept t e (omega arith) c)) g.cap
      g.floor

entity_only : (t : Table) → length t.entities ≤ no_parent → (e : Entity) (m : ℕ) → Broken t (an_entity e) m
    → (entity_rule (layers_of t) e ≡ false) × (m ≡ bad_entity)
entity_only t few e m (entity_rule_broken x h) = (decides_fails _ (rule_decides t e few) h, refl)

pub entity_lawful : Lawful (λ e. Unit {0}) entity_kind
entity_lawful =
    record {
      said = λ bs h. sym (three_bytes bs (eqb-true (length bs) 3 h));
      read = λ bs e h. (rw h, rw h);
      in_range = λ l h. tt;
      numbered = λ t e. omega arith;
      judges = λ t e few. judges_one (tests_one (λ b. entity_rule_broken e ((rule_decides t e (omega arith)).no b)) (entity_only t (omega arith) e));
      one_line = λ p e m. simp length-append (omega arith);
      sequenced = sequenced_entity;
      growing = λ p e i g m c. growing_entity p e m g c;
    }
