-- Demand 2, on relations. Numbers of document 01 stand here as it prints them.
-- Assumes nothing.
use Rattle.std.specs.Prelude.{ℕ, ◌≤◌, ◌<◌, ◌≡◌, ◌↔◌, ◌⊎◌, [], ◌∷◌, length, get_or}
use Rattle.policy.specs.Model.{Packet, Row, Coefficients, Range, Selector}
use Rattle.policy.specs.Wellformed.{Ordered}
use Rattle.base.specs.Truths.{Decides}
use Rattle.relations.specs.declared.relation.Relation.TheVariants.{Kin, Disjoint}
use Rattle.relations.specs.Relations.{OneOfFive}
use Rattle.relations.specs.Entities.{Tree, root_of, AtOrAbove, at_or_above, EntitiesStand, entity_relation}
use Rattle.relations.specs.Technologies.{HasLayer, Dominates, dominates, TechnologiesStand, technology_relation}
use Rattle.relations.specs.Coefficients.{AtLeast, at_least}
use Rattle.relations.specs.Selectors.{Holds, holds, Contains, contains, Overlap, overlaps, exchange}
use Rattle.relations.specs.Groups.{SameGroup, same_group, Matches, matches}
use Rattle.covers.specs.Least.{◌≤ₚ◌}

-- "root(e): the entity at the top of e's parents. e ⪰ f: e is f or among f's parents upward." `up e` is e's parent, FF where it has none.
pub record ParentsUpward (up : ℕ → ℕ) : Type 0 where
  pub itself : (e : ℕ) → AtOrAbove up e e
  -- f's parent, and what is ⪰ it, is ⪰ f
  pub parent : (e f : ℕ) → (up f ≡ 255 → ⊥) → AtOrAbove up e (up f) → AtOrAbove up e f
  -- nothing else is
  pub nothing_else : (e f : ℕ) → AtOrAbove up e f → (e ≡ f) ⊎ ((up f ≡ 255 → ⊥) × AtOrAbove up e (up f))
  -- root(e) has no parent, and is ⪰ e
  pub root : (e : ℕ) → (up (root_of up e) ≡ 255) × AtOrAbove up (root_of up e) e
  -- "Disjoint: different roots. Kin: same root, neither ⪰."
  pub disjoint : (e f : ℕ) → EntitiesStand up e f Disjoint ↔ (root_of up e ≡ root_of up f → ⊥)
  pub kin : (e f : ℕ) → EntitiesStand up e f Kin ↔ ((root_of up e ≡ root_of up f) × (AtOrAbove up e f → ⊥) × (AtOrAbove up f e → ⊥))

-- "0 NULL; 1 WPA2, 2 MACsec (layer 2); 3 IPsec (3); 4 TLS, 5 SSH (5); 6 WS-Security (7)." NULL has no layer, and none has two.
pub record Layers : Type 0 where
  pub wpa2 : HasLayer 1 2
  pub macsec : HasLayer 2 2
  pub ipsec : HasLayer 3 3
  pub tls : HasLayer 4 5
  pub ssh : HasLayer 5 5
  pub ws_security : HasLayer 6 7
  pub null : (l : ℕ) → HasLayer 0 l → ⊥
  pub one : (t l m : ℕ) → HasLayer t l → HasLayer t m → l ≡ m

-- p is smaller than q in the first field in which they differ.
pub record SmallerFirst (p q : Packet) : Type 0 where
  pub field : ℕ
  pub inside : field < length p
  pub smaller : get_or p field 0 < get_or q field 0
  pub same : (f : ℕ) → f < field → get_or p f 0 ≡ get_or q f 0

-- "Entity, technology, coefficient and selector relations hold when and only when their definitions do."
pub record Relations : Type 1 where
  pub upward : (up : ℕ → ℕ) → Tree up → ParentsUpward up
  pub entities : (up : ℕ → ℕ) (e f : ℕ) → Decides (at_or_above up e f) (AtOrAbove up e f)
  -- of two entities exactly one of equal, ⪰ one way or the other, kin and disjoint holds, and the test finds it
  pub between_entities : (up : ℕ → ℕ) → Tree up → (e f : ℕ) → EntitiesStand up e f (entity_relation up e f) × OneOfFive (EntitiesStand up e f)
  pub layers : Layers
  pub technologies : (t u : ℕ) → t ≤ 6 → u ≤ 6 → Decides (dominates t u) (Dominates t u)
  pub between_technologies : (t u : ℕ) → t ≤ 6 → u ≤ 6
      → TechnologiesStand t u (technology_relation t u) × OneOfFive (TechnologiesStand t u)
  -- "A smaller layer dominates (≻), two different ones of equal layer are kin."
  pub smaller_layer : (t u l m : ℕ) → HasLayer t l → HasLayer u m → Dominates t u ↔ (l < m)
  pub equal_layer : (t u l m : ℕ) → HasLayer t l → HasLayer u m → TechnologiesStand t u Kin ↔ ((t ≡ u → ⊥) × (l ≡ m))
  -- "NULL and any other are disjoint"; it neither dominates nor is dominated
  pub null : (t : ℕ) → 1 ≤ t → t ≤ 6 → TechnologiesStand 0 t Disjoint × TechnologiesStand t 0 Disjoint
  pub null_apart : (t : ℕ) → t ≤ 6 → (Dominates 0 t → ⊥) × (Dominates t 0 → ⊥)
  pub coefficients : (c d : Coefficients) → Decides (at_least c d) (AtLeast c d)
  pub packets : (s : Selector) (p : Packet) → Decides (holds s p) (Holds s p)
  -- "A packet is five such numbers, compared field by field in this order."
  pub order : (p q : Packet) → length p ≡ length q → (p ≤ₚ q) ↔ ((p ≡ q) ⊎ SmallerFirst p q)
  pub containment : (s1 s2 : Selector) → Ordered s2 → Decides (contains s1 s2) (Contains s1 s2)
  pub overlap : (s1 s2 : Selector) → Ordered s1 → Ordered s2 → Decides (overlaps s1 s2) (Overlap s1 s2)
  -- "source and destination fields exchanged": addresses, ports; the protocol stays
  pub exchanged : (a b c d e : Range) → exchange (a ∷ b ∷ c ∷ d ∷ e ∷ []) ≡ b ∷ a ∷ d ∷ c ∷ e ∷ []
  -- "A group is all rows with equal holder, t and G."
  pub equal : (r q : Row) → SameGroup r q ↔ ((r.holder ≡ q.holder) × (r.technology ≡ q.technology) × (r.gateways ≡ q.gateways))
  pub groups : (r q : Row) → Decides (same_group r q) (SameGroup r q)
  -- "Row i matches it when s ⪰ a, d ⪰ b and the packet is in S."
  pub ends : (up : ℕ → ℕ) (r : Row) (a b : ℕ) (p : Packet)
      → Matches up r a b p ↔ (AtOrAbove up r.source a × AtOrAbove up r.destination b × Holds r.selector p)
  pub matching : (up : ℕ → ℕ) (r : Row) (a b : ℕ) (p : Packet) → Decides (matches up r a b p) (Matches up r a b p)
