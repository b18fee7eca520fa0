-- Laws of entities, in a tree of parents: what stands above an entity, step by step; induction from the root downward; ⪰ is
-- reflexive, transitive and antisymmetric; the root; exactly one of the five relations holds, and the test finds it.
-- Assumes nothing.
use mathlib.Core.Path.{◌≡◌, refl, sym, ap, ◌∙◌}
use mathlib.Core.Logic.{◌⊎◌, inl, inr}
use mathlib.Core.Bool.{Bool, true, false}
use mathlib.Core.List.Memᴰ
use mathlib.Core.List.{List, [], ◌∷◌}
use Prim.Native.Nat.{ℕ, zero, suc, ◌≤◌, ◌<◌}
use native.Mathlib.Omega.{arith}
use lib.Dec.{eqb}
use borrow.Author.Tests.{eqb-false, eq-eqb, ne_eqb}
use Rattle.policy.specs.Model.{no_parent}
use Rattle.base.specs.Truths.{Decides}
use Rattle.relations.specs.Relations.{OneOfFive}
use Rattle.relations.specs.Entities.{Tree, upward, ancestors, root_of, AtOrAbove, at_or_above, EntitiesStand, entity_relation}
use Rattle.base.proofs.Laws.Decides.{decides_eqb, decides_holds, decided}
use Rattle.base.proofs.Laws.Members.{among_decides}
use Rattle.relations.proofs.Laws.Relations.{Exclusive, found, only}

-- ---- upward, a step at a time

-- What both say of what lies above a root is the same.
above_root : (c : Bool) (x y : List ℕ) → (c ≡ false → x ≡ y)
    → ◌≡◌ {A = List ℕ} (elim c [ true ↦ [] | false ↦ x ]) (elim c [ true ↦ [] | false ↦ y ])
above_root true x y h = refl
above_root false x y h = h refl

module _ (up : ℕ → ℕ) where
  -- "e ⪰ e"
  pub above_self : (e : ℕ) → AtOrAbove up e e
  unfolding ancestors upward
  above_self e = Memᴰ.head refl

  pub at_or_above_decides : (e f : ℕ) → Decides (at_or_above up e f) (AtOrAbove up e f)
  unfolding at_or_above
  at_or_above_decides e f = among_decides e (ancestors up f)

  pub ancestors_root : (e : ℕ) → up e ≡ no_parent → ancestors up e ≡ e ∷ []
  unfolding ancestors upward
  ancestors_root e h = rw (eq-eqb (up e) no_parent h)

module _ (up : ℕ → ℕ) (tree : Tree up) where
  -- Any bound above e is as good as any other.
  enough : (n m e : ℕ) → e < n → e < m → upward up n e ≡ upward up m e
  unfolding upward
  enough zero m e h k = absurd (omega arith)
  enough (suc n) zero e h k = absurd (omega arith)
  enough (suc n) (suc m) e h k =
      ap (λ (l : List ℕ). e ∷ l)
      (above_root (eqb (up e) no_parent) (upward up n (up e)) (upward up m (up e))
      (λ q. let l = tree.earlier e (eqb-false (up e) no_parent q) in enough n m (up e) (omega arith) (omega arith)))

  pub ancestors_next : (e : ℕ) → (up e ≡ no_parent → ⊥) → ancestors up e ≡ e ∷ ancestors up (up e)
  unfolding ancestors upward
  ancestors_next e h =
      let l = tree.earlier e h in
      rw (ne_eqb (up e) no_parent h) (ap (λ (l : List ℕ). e ∷ l) (enough e (suc (up e)) (up e) l (omega arith)))

  -- What holds of roots, and of an entity where it holds of its parent, holds of every entity.
  module _ (P : ℕ → Type 0) (top : (e : ℕ) → up e ≡ no_parent → P e) (below : (e : ℕ) → (up e ≡ no_parent → ⊥) → P (up e) → P e) where
    downward_to : (n e : ℕ) → e < n → P e
    downward_to zero e h = absurd (omega arith)
    downward_to (suc n) e h =
        elim (decided (eqb (up e) no_parent) (decides_eqb (up e) no_parent)) [
          | inl r ↦ top e r
          | inr r ↦ let l = tree.earlier e r in below e r (downward_to n (up e) (omega arith))
        ]

    pub downward : (e : ℕ) → P e
    downward e = downward_to (suc e) e (omega arith)

  -- ---- ⪰

  -- What is above f's parent is above f.
  pub above_next : (e f : ℕ) → (up f ≡ no_parent → ⊥) → AtOrAbove up e (up f) → AtOrAbove up e f
  above_next e f h m = rw (ancestors_next f h) (Memᴰ.tail m)

  -- What is above f is f, or above f's parent.
  pub above_cases : (e f : ℕ) → AtOrAbove up e f → (e ≡ f) ⊎ ((up f ≡ no_parent → ⊥) × AtOrAbove up e (up f))
  above_cases e f m =
      elim (decided (eqb (up f) no_parent) (decides_eqb (up f) no_parent)) [
        | inl r ↦ inl (Memᴰ.eq_of_singleton (rw (ancestors_root up f r) at m))
        | inr r ↦ elim (Memᴰ.cases_cons (rw (ancestors_next f r) at m)) [ inl q ↦ inl q | inr q ↦ inr (r, q) ]
      ]

  -- "⪰ is transitive"
  pub above_trans : (e f g : ℕ) → AtOrAbove up e f → AtOrAbove up f g → AtOrAbove up e g
  above_trans e f g m n = downward (λ g. AtOrAbove up f g → AtOrAbove up e g) top below g n
    where
      top : (g : ℕ) → up g ≡ no_parent → AtOrAbove up f g → AtOrAbove up e g
      top g r n = elim (above_cases f g n) [ inl q ↦ rw q at m | inr q ↦ absurd (q.0 r) ]

      below : (g : ℕ) → (up g ≡ no_parent → ⊥) → (AtOrAbove up f (up g) → AtOrAbove up e (up g)) → AtOrAbove up f g → AtOrAbove up e g
      below g r h n = elim (above_cases f g n) [ inl q ↦ rw q at m | inr q ↦ above_next e g r (h q.1) ]

  -- What is above is no later.
  pub above_le : (e f : ℕ) → AtOrAbove up e f → e ≤ f
  above_le e f m = downward (λ f. AtOrAbove up e f → e ≤ f) top below f m
    where
      top : (f : ℕ) → up f ≡ no_parent → AtOrAbove up e f → e ≤ f
      top f r m = elim (above_cases e f m) [ inl q ↦ omega arith | inr q ↦ absurd (q.0 r) ]

      below : (f : ℕ) → (up f ≡ no_parent → ⊥) → (AtOrAbove up e (up f) → e ≤ up f) → AtOrAbove up e f → e ≤ f
      below f r h m =
          elim (above_cases e f m) [
            | inl q ↦ omega arith
            | inr q ↦ let k = h q.1 in let l = tree.earlier f r in omega arith
          ]

  -- "⪰ is antisymmetric"
  pub above_antisym : (e f : ℕ) → AtOrAbove up e f → AtOrAbove up f e → e ≡ f
  above_antisym e f m n = let h = above_le e f m in let k = above_le f e n in omega arith

  -- ---- roots

  pub root_top : (e : ℕ) → up e ≡ no_parent → root_of up e ≡ e
  unfolding root_of
  root_top e r = rw (ancestors_root up e r)

  pub root_next : (e : ℕ) → (up e ≡ no_parent → ⊥) → root_of up e ≡ root_of up (up e)
  unfolding root_of ancestors upward
  root_next e r = rw (ancestors_next e r)

  -- A root has no parent.
  pub root_no_parent : (e : ℕ) → up (root_of up e) ≡ no_parent
  root_no_parent e =
      downward (λ e. up (root_of up e) ≡ no_parent) (λ e r. rw (root_top e r) r) (λ e r h. rw (root_next e r) h) e

  pub root_above : (e : ℕ) → AtOrAbove up (root_of up e) e
  root_above e =
      downward (λ e. AtOrAbove up (root_of up e) e) (λ e r. rw (root_top e r) (above_self up e))
      (λ e r h. rw (root_next e r) (above_next (root_of up (up e)) e r h)) e

  pub root_le : (e : ℕ) → root_of up e ≤ e
  root_le e = above_le (root_of up e) e (root_above e)

  -- "entities related by ⪰ have one root"
  pub above_same_root : (e f : ℕ) → AtOrAbove up e f → root_of up e ≡ root_of up f
  above_same_root e f m = downward (λ f. AtOrAbove up e f → root_of up e ≡ root_of up f) top below f m
    where
      top : (f : ℕ) → up f ≡ no_parent → AtOrAbove up e f → root_of up e ≡ root_of up f
      top f r m = elim (above_cases e f m) [ inl q ↦ ap (root_of up) q | inr q ↦ absurd (q.0 r) ]

      below : (f : ℕ) → (up f ≡ no_parent → ⊥) → (AtOrAbove up e (up f) → root_of up e ≡ root_of up (up f)) → AtOrAbove up e f → root_of up e ≡ root_of up f
      below f r h m = elim (above_cases e f m) [ inl q ↦ ap (root_of up) q | inr q ↦ h q.1 ∙ sym (root_next f r) ]

  -- ---- the test of ⪰

  pub test_here : (e f : ℕ) → e ≡ f → at_or_above up e f ≡ true
  test_here e f q = decides_holds (at_or_above up e f) (at_or_above_decides up e f) (rw q (above_self up f))

  -- ---- the five relations

  module _ (e f : ℕ) where
    -- The relation that the test finds holds.
    pub entity_relation_holds : EntitiesStand up e f (entity_relation up e f)
    unfolding entity_relation
    entity_relation_holds =
        let q = decides_eqb e f in
        let a = at_or_above_decides up e f in
        let b = at_or_above_decides up f e in
        let k = decides_eqb (root_of up e) (root_of up f) in
        found (EntitiesStand up e f) (eqb e f) (at_or_above up e f) (at_or_above up f e) (eqb (root_of up e) (root_of up f))
        (record {
          equal = q.yes;
          above = λ x y. record { above = a.yes y; other = q.no x };
          below = λ x y. record { above = b.yes y; other = λ z. q.no x (sym z) };
          kin = λ x y z w. record { root = k.yes w; not_above = a.no y; not_below = b.no z };
          disjoint = λ x y z w. k.no w;
        })

    exclusive : Exclusive (EntitiesStand up e f)
    exclusive =
        record {
          equal_above = λ q s. s.other q;
          equal_below = λ q s. s.other (sym q);
          equal_kin = λ q k. k.not_above (rw q (above_self up f));
          equal_disjoint = λ q n. n (ap (root_of up) q);
          above_below = λ s t. s.other (above_antisym e f s.above t.above);
          above_kin = λ s k. k.not_above s.above;
          above_disjoint = λ s n. n (above_same_root e f s.above);
          below_kin = λ s k. k.not_below s.above;
          below_disjoint = λ s n. n (sym (above_same_root f e s.above));
          kin_disjoint = λ k n. n k.root;
        }

    -- Exactly one of equal, ⪰ one way, ⪰ the other way, kin and disjoint holds.
    pub one_entity_relation : OneOfFive (EntitiesStand up e f)
    one_entity_relation = only (EntitiesStand up e f) exclusive (entity_relation up e f) entity_relation_holds
