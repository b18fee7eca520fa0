-- Laws of technologies: the layers by ranges; the test of ≻; exactly one of the five relations holds, and the test finds it; that the layers decide
-- between technologies that are not NULL; NULL.
-- Assumes nothing.
use mathlib.Core.Path.{◌≡◌, refl, sym, ap, ◌∙◌}
use mathlib.Core.Logic.{◌⊎◌, ◌↔◌, inl, inr}
use mathlib.Core.Bool.{not, ◌&&◌}
use mathlib.Core.List.{[], ◌∷◌}
use Prim.Native.Nat.{ℕ, zero, suc, ◌≤◌, ◌<◌}
use native.Mathlib.Omega.{arith}
use lib.Dec.{eqb, ltb}
use lib.ListN.{get_or-eq_default}
use Rattle.base.specs.Truths.{Decides}
use Rattle.relations.specs.Relations.{OneOfFive}
use Rattle.relations.specs.Technologies.{HasLayer, wpa2, macsec, ipsec, tls, ssh, ws_security, layer_of, Dominates, dominates, KinTechnologies, DisjointTechnologies, TechnologiesStand, technology_relation}
use Rattle.base.proofs.Laws.Decides.{decides_as, decides_eqb, decides_ltb, decides_not, decides_and, decided}
use Rattle.relations.proofs.Laws.Relations.{Exclusive, found, only}

-- ---- layers by ranges

pub layer_two : (t : ℕ) → 1 ≤ t → t ≤ 2 → layer_of t ≡ 2
unfolding layer_of
layer_two zero h k = absurd (omega arith)
layer_two (suc zero) h k = refl
layer_two (suc (suc zero)) h k = refl
layer_two (suc (suc (suc t))) h k = absurd (omega arith)

pub layer_five : (t : ℕ) → 4 ≤ t → t ≤ 5 → layer_of t ≡ 5
unfolding layer_of
layer_five zero h k = absurd (omega arith)
layer_five (suc zero) h k = absurd (omega arith)
layer_five (suc (suc zero)) h k = absurd (omega arith)
layer_five (suc (suc (suc zero))) h k = absurd (omega arith)
layer_five (suc (suc (suc (suc zero)))) h k = refl
layer_five (suc (suc (suc (suc (suc zero))))) h k = refl
layer_five (suc (suc (suc (suc (suc (suc t)))))) h k = absurd (omega arith)

-- NULL, and what is no technology.
pub layer_none : (t : ℕ) → (t ≡ 0) ⊎ (7 ≤ t) → layer_of t ≡ 0
unfolding layer_of
layer_none t (inl h) = rw h
layer_none t (inr h) = get_or-eq_default (0 ∷ 2 ∷ 2 ∷ 3 ∷ 5 ∷ 5 ∷ 7 ∷ []) 0 h

-- The layer of any number, by the range that it is in.
pub ruleset layers_by_range = (layer_two, layer_five, layer_none)

-- A technology has just the layer that `layer_of` gives it, where that is one.
layer_numbered : (t l : ℕ) → HasLayer t l → (layer_of t ≡ l) × (l ≡ 0 → ⊥)
unfolding layer_of
layer_numbered t l wpa2 = (refl, λ e. omega arith)
layer_numbered t l macsec = (refl, λ e. omega arith)
layer_numbered t l ipsec = (refl, λ e. omega arith)
layer_numbered t l tls = (refl, λ e. omega arith)
layer_numbered t l ssh = (refl, λ e. omega arith)
layer_numbered t l ws_security = (refl, λ e. omega arith)

layer_named : (t : ℕ) → (layer_of t ≡ 0 → ⊥) → HasLayer t (layer_of t)
unfolding layer_of
layer_named zero n = absurd (n refl)
layer_named (suc zero) n = wpa2
layer_named (suc (suc zero)) n = macsec
layer_named (suc (suc (suc zero))) n = ipsec
layer_named (suc (suc (suc (suc zero)))) n = tls
layer_named (suc (suc (suc (suc (suc zero))))) n = ssh
layer_named (suc (suc (suc (suc (suc (suc zero)))))) n = ws_security
layer_named (suc (suc (suc (suc (suc (suc (suc t))))))) n = absurd (n refl)

pub has_layer : (t l : ℕ) → HasLayer t l ↔ ((layer_of t ≡ l) × (l ≡ 0 → ⊥))
has_layer t l = (layer_numbered t l, λ h. rw (sym h.0) (layer_named t (λ e. h.1 (sym h.0 ∙ e))))

-- ---- ≻

pub dominates_decides : (t u : ℕ) → Decides (dominates t u) (Dominates t u)
unfolding dominates
dominates_decides t u =
    decides_as (λ h. record { upper = h.0; lower = h.1.0; layer = h.1.1 }) (λ d. (d.upper, (d.lower, d.layer)))
    (decides_and (not (eqb t 0)) (not (eqb u 0) && ltb (layer_of t) (layer_of u)) (decides_not (eqb t 0) (decides_eqb t 0))
    (decides_and (not (eqb u 0)) (ltb (layer_of t) (layer_of u)) (decides_not (eqb u 0) (decides_eqb u 0)) (decides_ltb (layer_of t) (layer_of u))))

-- ---- the five relations

module _ (t u : ℕ) where
  -- The relation that the test finds holds.
  pub technology_relation_holds : TechnologiesStand t u (technology_relation t u)
  unfolding technology_relation
  technology_relation_holds =
      let q = decides_eqb t u in
      let a = dominates_decides t u in
      let b = dominates_decides u t in
      let n = decides_not (eqb t 0) (decides_eqb t 0) in
      let m = decides_not (eqb u 0) (decides_eqb u 0) in
      let k = decides_and (not (eqb t 0)) (not (eqb u 0)) n m in
      found (TechnologiesStand t u) (eqb t u) (dominates t u) (dominates u t) (not (eqb t 0) && not (eqb u 0))
      (record {
        equal = q.yes;
        above = λ x y. a.yes y;
        below = λ x y. b.yes y;
        kin = λ x y z w. kin (q.no x) (a.no y) (b.no z) (k.yes w);
        disjoint = λ x y z w. disjoint (q.no x) (k.no w);
      })
    where
      kin : (t ≡ u → ⊥) → (Dominates t u → ⊥) → (Dominates u t → ⊥) → (t ≡ 0 → ⊥) × (u ≡ 0 → ⊥) → KinTechnologies t u
      kin q a b n =
          let h : layer_of t < layer_of u → ⊥ = λ l. a (record { upper = n.0; lower = n.1; layer = l }) in
          let k : layer_of u < layer_of t → ⊥ = λ l. b (record { upper = n.1; lower = n.0; layer = l }) in
          record { one = n.0; other = n.1; different = q; layer = omega arith }

      disjoint : (t ≡ u → ⊥) → ((t ≡ 0 → ⊥) × (u ≡ 0 → ⊥) → ⊥) → DisjointTechnologies t u
      disjoint q n =
          elim (decided (eqb t 0) (decides_eqb t 0)) [
            | inl x ↦ inl (x, λ y. q (x ∙ sym y))
            | inr x ↦ elim (decided (eqb u 0) (decides_eqb u 0)) [ inl y ↦ inr (x, y) | inr y ↦ absurd (n (x, y)) ]
          ]

  -- Neither is NULL: then they are not disjoint.
  both_named : DisjointTechnologies t u → (t ≡ 0 → ⊥) → (u ≡ 0 → ⊥) → ⊥
  both_named d n m = elim d [ inl h ↦ n h.0 | inr h ↦ m h.1 ]

  exclusive : Exclusive (TechnologiesStand t u)
  exclusive =
      record {
        equal_above = λ q d. let l = d.layer in let e = ap layer_of q in omega arith;
        equal_below = λ q d. let l = d.layer in let e = ap layer_of q in omega arith;
        equal_kin = λ q k. k.different q;
        equal_disjoint = λ q d. elim d [ inl h ↦ h.1 (sym q ∙ h.0) | inr h ↦ h.0 (q ∙ h.1) ];
        above_below = λ a b. let l = a.layer in let m = b.layer in omega arith;
        above_kin = λ a k. let l = a.layer in let m = k.layer in omega arith;
        above_disjoint = λ a d. both_named d a.upper a.lower;
        below_kin = λ b k. let l = b.layer in let m = k.layer in omega arith;
        below_disjoint = λ b d. both_named d b.lower b.upper;
        kin_disjoint = λ k d. both_named d k.one k.other;
      }

  -- Exactly one of equal, ≻ one way, ≻ the other way, kin and disjoint holds.
  pub one_technology_relation : OneOfFive (TechnologiesStand t u)
  one_technology_relation = only (TechnologiesStand t u) exclusive (technology_relation t u) technology_relation_holds

-- ---- by layers

-- What has a layer is not NULL.
layered_not_null : (t l : ℕ) → HasLayer t l → t ≡ 0 → ⊥
layered_not_null t l h e = (layer_numbered t l h).1 (sym (layer_numbered t l h).0 ∙ layer_none t (inl e))

module _ (t u l m : ℕ) (h : HasLayer t l) (k : HasLayer u m) where
  pub dominates_layers : Dominates t u ↔ (l < m)
  dominates_layers =
      let a = (layer_numbered t l h).0 in
      let b = (layer_numbered u m k).0 in
      (λ d. let c = d.layer in omega arith, λ c. record { upper = layered_not_null t l h; lower = layered_not_null u m k; layer = omega arith })

  pub kin_layers : KinTechnologies t u ↔ ((t ≡ u → ⊥) × (l ≡ m))
  kin_layers =
      let a = (layer_numbered t l h).0 in
      let b = (layer_numbered u m k).0 in (
        λ c. (c.different, sym a ∙ c.layer ∙ b),
        λ c. record { one = layered_not_null t l h; other = layered_not_null u m k; different = c.0; layer = a ∙ c.1 ∙ sym b },
      )

-- A technology has one layer.
pub one_layer : (t l m : ℕ) → HasLayer t l → HasLayer t m → l ≡ m
one_layer t l m h k = sym (layer_numbered t l h).0 ∙ (layer_numbered t m k).0

-- ---- NULL

-- It has no layer.
pub null_no_layer : (l : ℕ) → HasLayer 0 l → ⊥
null_no_layer l h = layered_not_null 0 l h refl

-- It is disjoint from every other technology, and neither dominates nor is dominated.
module _ (t : ℕ) where
  pub null_disjoint : (t ≡ 0 → ⊥) → DisjointTechnologies 0 t
  null_disjoint n = inl (refl, n)

  pub disjoint_null : (t ≡ 0 → ⊥) → DisjointTechnologies t 0
  disjoint_null n = inr (n, refl)

  pub null_not_dominating : Dominates 0 t → ⊥
  null_not_dominating d = d.upper refl

  pub null_not_dominated : Dominates t 0 → ⊥
  null_not_dominated d = d.lower refl
