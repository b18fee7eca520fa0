-- Laws of caps' frames:
--   cap_next: a cap that has its place is the next technology's
--   early_cap: caps come before the floor
--   cap_lawful: what is read with a cap that is not refused keeps its rules
-- Assumes nothing.
use Prim.Native.Nat.{ℕ, ◌+◌, ◌<◌}
use mathlib.Core.Path.{◌≡◌, refl, sym, ap, ◌∙◌}
use mathlib.Core.Bool.{true, false≢true}
use mathlib.Core.List.{List, [], ◌∷◌}
use native.Mathlib.Omega.{arith}
use borrow.Author.Tests.{ltb-true, eqb-true, eq-eqb}
use lib.Dec.{ltb}
use lib.ListN.{length, length-append}
use Rattle.base.proofs.Laws.Checks.{both}
use Rattle.policy.specs.Limits.{technologies}
use Rattle.policy.specs.Wellformed.{CoefficientsRule}
use Rattle.policy.proofs.Laws.Changed.{entity_changed}
use Rattle.frames.specs.Progress.{Progress}
use Rattle.frames.specs.Caps.{Cap, cap_length, cap_technology, cap_from, cap_kind}
use Rattle.frames.proofs.Laws.Parts.{coefficients_rule, three_bytes}
use Rattle.base.proofs.Laws.Each.{each_more}
use Rattle.frames.proofs.Laws.Claims.{judges_none}
use Rattle.frames.proofs.Laws.Growing.{Sequenced, before_floor, Growing, growing_start, early, no_floor, Lawful}

module _ (p : Progress) (c : Cap) (m : cap_kind.placed p c ≡ true) where
  some_entity : 0 < length p.table.entities
  some_entity = ltb-true _ _ (both (ltb 0 (length p.table.entities)) _ m).0

  pub few_caps : length p.table.caps < technologies
  few_caps =
      let others = (both (ltb 0 (length p.table.entities)) _ m).1 in
      ltb-true _ _ (both (ltb (length p.table.caps) technologies) _ others).0

  pub cap_next : c.technology ≡ length p.table.caps + 1
  cap_next =
      let others = (both (ltb 0 (length p.table.entities)) _ m).1 in
      eqb-true _ _ (both (ltb (length p.table.caps) technologies) _ others).1

  pub early_cap : Sequenced p → p.floored ≡ 0
  early_cap q = no_floor q few_caps

  sequenced_cap : Sequenced p → Sequenced (cap_kind.grown c p)
  sequenced_cap q =
      let few = few_caps in
      let start = early_cap q in
      let e = early q start in
      before_floor start
      (record {
        few_entities = e.few_entities;
        few_caps = simp length-append (omega arith);
        entities_first = λ h. some_entity;
        none_later = e.none_later;
      })

  growing_cap : CoefficientsRule c.coefficients → Growing p → Growing (cap_kind.grown c p)
  growing_cap r g =
      let q = g.sequenced in
      growing_start (sequenced_cap q) (early q (early_cap q)).none_later (λ k h. entity_changed (g.entity k h))
      (each_more CoefficientsRule p.table.caps c.coefficients [] g.cap r) g.floor

-- ---- what its bytes say

cap_said : (bs : List ℕ) → cap_length bs ≡ true → bs ≡ cap_technology bs ∷ cap_from bs
cap_said [] h = absurd (false≢true h)
cap_said (t ∷ bs) h = let l = eqb-true (length (t ∷ bs)) 4 h in ap (λ (c : List ℕ). t ∷ c) (sym (three_bytes bs (omega arith)))

cap_read : (bs : List ℕ) (c : Cap) → cap_kind.says bs c → (cap_length bs ≡ true) × (cap_kind.value bs ≡ c)
cap_read bs c h =
    let long = ap length h.1 in
    let same : cap_from bs ≡ c.coefficients = ap cap_from h.1 ∙ three_bytes c.coefficients h.0 in
    (eq-eqb (length bs) 4 (omega (arith, h.0)), λ i. record { technology = cap_technology (h.1 i); coefficients = same i })

pub cap_lawful : Lawful (λ c. CoefficientsRule c.coefficients) cap_kind
cap_lawful =
    record {
      said = λ bs h. (refl, cap_said bs h);
      read = cap_read;
      in_range = λ l h. coefficients_rule 1 l;
      numbered = λ t c. (tt, tt);
      judges = λ t c few. judges_none;
      one_line = λ p c m. simp length-append (omega arith);
      sequenced = sequenced_cap;
      growing = λ p c r g m k. growing_cap p c m r g;
    }
