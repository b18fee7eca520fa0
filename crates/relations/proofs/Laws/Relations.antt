-- Laws of five relations of which each excludes the others: the one that tests find holds, and it alone.
-- Assumes nothing.
use mathlib.Core.Path.{◌≡◌, refl}
use mathlib.Core.Logic.{inl, inr}
use mathlib.Core.Bool.{Bool, true, false}
use Rattle.relations.specs.Relations.{OneOfFive, relation_by}
use Rattle.relations.specs.declared.relation.Relation.{Relation}
use Rattle.relations.specs.declared.relation.Relation.TheVariants.{Equal, Above, Below, Kin, Disjoint}

-- Each of the five excludes the others.
pub record Exclusive (stands : Relation → Type 0) : Type 0 where
  pub equal_above : stands Equal → stands Above → ⊥
  pub equal_below : stands Equal → stands Below → ⊥
  pub equal_kin : stands Equal → stands Kin → ⊥
  pub equal_disjoint : stands Equal → stands Disjoint → ⊥
  pub above_below : stands Above → stands Below → ⊥
  pub above_kin : stands Above → stands Kin → ⊥
  pub above_disjoint : stands Above → stands Disjoint → ⊥
  pub below_kin : stands Below → stands Kin → ⊥
  pub below_disjoint : stands Below → stands Disjoint → ⊥
  pub kin_disjoint : stands Kin → stands Disjoint → ⊥

-- What each outcome of the tests says.
pub record Told (stands : Relation → Type 0) (a b c d : Bool) : Type 0 where
  pub equal : a ≡ true → stands Equal
  pub above : a ≡ false → b ≡ true → stands Above
  pub below : a ≡ false → c ≡ true → stands Below
  pub kin : a ≡ false → b ≡ false → c ≡ false → d ≡ true → stands Kin
  pub disjoint : a ≡ false → b ≡ false → c ≡ false → d ≡ false → stands Disjoint

pub found : (stands : Relation → Type 0) (a b c d : Bool) → Told stands a b c d → stands (relation_by a b c d)
found stands true b c d h = h.equal refl
found stands false true c d h = h.above refl refl
found stands false false true d h = h.below refl refl
found stands false false false true h = h.kin refl refl refl refl
found stands false false false false h = h.disjoint refl refl refl refl

pub only : (stands : Relation → Type 0) → Exclusive stands → (r : Relation) → stands r → OneOfFive stands
only stands x Equal s = inl (s, (x.equal_above s, (x.equal_below s, (x.equal_kin s, (x.equal_disjoint s, tt)))))
only stands x Above s =
    inr (λ q. x.equal_above q s, inl (s, (x.above_below s, (x.above_kin s, (x.above_disjoint s, tt)))))
only stands x Below s =
    inr (λ q. x.equal_below q s, inr (λ q. x.above_below q s, inl (s, (x.below_kin s, (x.below_disjoint s, tt)))))
only stands x Kin s =
    inr (
      λ q. x.equal_kin q s,
      inr (λ q. x.above_kin q s, inr (λ q. x.below_kin q s, inl (s, (x.kin_disjoint s, tt)))),
    )
only stands x Disjoint s =
    inr (
      λ q. x.equal_disjoint q s,
      inr (
        λ q. x.above_disjoint q s,
        inr (λ q. x.below_disjoint q s, inr (λ q. x.kin_disjoint q s, inl (s, tt))),
      ),
    )
