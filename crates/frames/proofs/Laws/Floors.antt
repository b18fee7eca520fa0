-- Laws of the floor's frame:
--   early_floor: the floor comes once
--   floor_lawful: what is read with a floor that is not refused keeps its rules
-- Assumes nothing.
use mathlib.Core.Path.{◌≡◌, refl, sym, ap, ◌∙◌}
use mathlib.Core.Bool.{true}
use native.Mathlib.Omega.{arith}
use borrow.Author.Tests.{eqb-true, eq-eqb}
use lib.Dec.{eqb}
use lib.ListN.{length}
use Rattle.base.proofs.Laws.Checks.{both}
use Rattle.policy.specs.Limits.{technologies}
use Rattle.policy.specs.Model.{Coefficients}
use Rattle.policy.specs.Wellformed.{CoefficientsRule}
use Rattle.policy.proofs.Laws.Changed.{entity_changed}
use Rattle.frames.specs.Progress.{Progress}
use Rattle.frames.specs.Floors.{floor_kind}
use Rattle.frames.proofs.Laws.Parts.{coefficients_rule, three_bytes}
use Rattle.frames.proofs.Laws.Claims.{judges_none}
use Rattle.frames.proofs.Laws.Growing.{Sequenced, after_floor, Growing, growing_start, early, Lawful}

module _ (p : Progress) (c : Coefficients) (m : floor_kind.placed p c ≡ true) where
  six_caps : length p.table.caps ≡ technologies
  six_caps = eqb-true _ _ (both (eqb (length p.table.caps) technologies) _ m).0

  pub early_floor : p.floored ≡ 0
  early_floor = eqb-true _ _ (both (eqb (length p.table.caps) technologies) _ m).1

  sequenced_floor : Sequenced p → Sequenced (floor_kind.grown c p)
  sequenced_floor q =
      let e = early q early_floor in
      after_floor refl
      (record {
        some_entity = e.entities_first (omega (arith, six_caps));
        few_entities = e.few_entities;
        six_caps = six_caps;
        few_filters = omega (arith, e.none_later);
        few_rows = omega (arith, e.none_later);
      })

  growing_floor : CoefficientsRule c → Growing p → Growing (floor_kind.grown c p)
  growing_floor r g =
      let q = g.sequenced in
      growing_start (sequenced_floor q) (early q early_floor).none_later (λ k h. entity_changed (g.entity k h)) g.cap (λ h. r)

pub floor_lawful : Lawful CoefficientsRule floor_kind
floor_lawful =
    record {
      said = λ bs h. (refl, sym (three_bytes bs (eqb-true (length bs) 3 h)));
      read = λ bs c h.
          let long : length bs ≡ 3 = ap length h.1 ∙ h.0 in
          (eq-eqb (length bs) 3 long, three_bytes bs long ∙ h.1);
      in_range = λ l h. coefficients_rule 0 l;
      numbered = λ t c. (tt, tt);
      judges = λ t c few. judges_none;
      one_line = λ p c m. let e = early_floor p c m in omega arith;
      sequenced = sequenced_floor;
      growing = λ p c r g m k. growing_floor p c m r g;
    }
