-- Demand 2 on relations holds.
-- Assumes nothing.
use Prim.Native.Nat.{ℕ, zero, suc, ◌<◌}
use native.Mathlib.Omega.{arith}
use mathlib.Core.Path.{◌≡◌, refl}
use mathlib.Core.Logic.{◌⊎◌, inl, inr}
use mathlib.Core.List.{[], ◌∷◌}
use lib.ListN.{length, get_or}
use Rattle.policy.specs.Model.{Packet}
use Rattle.covers.specs.Least.{◌≤ₚ◌, done, less, same}
use Rattle.relations.specs.Entities.{Tree}
use Rattle.relations.specs.Technologies.{wpa2, macsec, ipsec, tls, ssh, ws_security}
use Rattle.relations.proofs.Laws.Entities.{above_self, above_next, above_cases, root_no_parent, root_above, at_or_above_decides}
use Rattle.relations.proofs.Laws.Entities.{entity_relation_holds, one_entity_relation}
use Rattle.relations.proofs.Laws.Technologies.{null_no_layer, one_layer, dominates_decides, technology_relation_holds, one_technology_relation}
use Rattle.relations.proofs.Laws.Technologies.{dominates_layers, kin_layers, null_disjoint, disjoint_null, null_not_dominating, null_not_dominated}
use Rattle.relations.proofs.Laws.Coefficients.{at_least_decides}
use Rattle.relations.proofs.Laws.Selectors.{holds_decides, contains_decides, overlaps_decides, exchange_five}
use Rattle.relations.proofs.Laws.Groups.{same_group_decides, matches_decides}
use Rattle.promises.specs.RelationPromises.{ParentsUpward, Layers, SmallerFirst, Relations}

parents_upward : (up : ℕ → ℕ) → Tree up → ParentsUpward up
parents_upward up tree =
    record {
      itself = above_self up;
      parent = above_next up tree;
      nothing_else = above_cases up tree;
      root = λ e. (root_no_parent up tree e, root_above up tree e);
      disjoint = λ e f. (λ h. h, λ h. h);
      kin = λ e f. (λ k. (k.root, k.not_above, k.not_below), λ h. record { root = h.0; not_above = h.1; not_below = h.2 });
    }

-- ---- the order of packets

-- Smaller in a further field, where the first is the same.
smaller_further : (x y : ℕ) (p q : Packet) → x ≡ y → SmallerFirst p q → SmallerFirst (x ∷ p) (y ∷ q)
smaller_further x y p q e s = record {
  field = suc s.field;
  inside = let h = s.inside in omega arith;
  smaller = s.smaller;
  same = λ f h. go f h;
}
  where
    go : (f : ℕ) → f < suc s.field → get_or (x ∷ p) f 0 ≡ get_or (y ∷ q) f 0
    go zero h = e
    go (suc f) h = s.same f (omega arith)

order_to : {p q : Packet} → p ≤ₚ q → (p ≡ q) ⊎ SmallerFirst p q
order_to done = inl refl
order_to (less h) = inr (record { field = 0; inside = omega arith; smaller = h; same = λ f l. absurd (omega arith) })
order_to (same {x} {y} {p} {q} e h) = elim (order_to h) [ inl k ↦ inl (rw (e, k)) | inr s ↦ inr (smaller_further x y p q e s) ]

order_itself : (p : Packet) → p ≤ₚ p
order_itself [] = done
order_itself (x ∷ p) = same refl (order_itself p)

order_from : (f : ℕ) (p q : Packet) → length p ≡ length q → f < length p → get_or p f 0 < get_or q f 0 → ((g : ℕ) → g < f → get_or p g 0 ≡ get_or q g 0) → p ≤ₚ q
order_from f [] q n i h s = absurd (omega arith)
order_from f (x ∷ p) [] n i h s = absurd (omega arith)
order_from zero (x ∷ p) (y ∷ q) n i h s = less h
order_from (suc f) (x ∷ p) (y ∷ q) n i h s = same (s 0 (omega arith)) (order_from f p q (omega arith) (omega arith) h (λ g l. s (suc g) (omega arith)))

layers : Layers
layers = record { wpa2 = wpa2; macsec = macsec; ipsec = ipsec; tls = tls; ssh = ssh; ws_security = ws_security; null = null_no_layer; one = one_layer }

pub relations : Relations
relations =
    record {
      upward = parents_upward;
      entities = at_or_above_decides;
      between_entities = λ up tree e f. (entity_relation_holds up tree e f, one_entity_relation up tree e f);
      layers = layers;
      technologies = λ t u h k. dominates_decides t u;
      between_technologies = λ t u h k. (technology_relation_holds t u, one_technology_relation t u);
      smaller_layer = dominates_layers;
      equal_layer = kin_layers;
      null = λ t h a. (null_disjoint t (λ e. omega arith), disjoint_null t (λ e. omega arith));
      null_apart = λ t h. (null_not_dominating t, null_not_dominated t);
      coefficients = at_least_decides;
      packets = holds_decides;
      order = λ p q n. (order_to, λ h. elim h [ inl e ↦ rw e (order_itself q) | inr s ↦ order_from s.field p q n s.inside s.smaller s.same ]);
      containment = contains_decides;
      overlap = overlaps_decides;
      exchanged = exchange_five;
      equal = λ r q. (λ g. (g.holder, g.technology, g.gateways), λ h. record { holder = h.0; technology = h.1; gateways = h.2 });
      groups = same_group_decides;
      ends = λ up r a b p. (λ m. (m.source, m.destination, m.packet), λ h. record { source = h.0; destination = h.1; packet = h.2 });
      matching = matches_decides;
    }
