-- How two entities, or two technologies, stand to each other: exactly one of five.
-- Assumes nothing.
use Rattle.std.specs.Prelude.{Bool, true, false, List, [], ◌∷◌, ◌⊎◌}
use Rattle.relations.specs.declared.relation.Relation.{Relation}
use Rattle.relations.specs.declared.relation.Relation.TheVariants.{Equal, Above, Below, Kin, Disjoint}

-- All of the statements hold.
abbrev pub AllOf : List (Type 0) → Type 0
AllOf [] = Unit {0}
AllOf (P ∷ Ps) = P × AllOf Ps

-- None of the statements holds.
abbrev pub NoneOf : List (Type 0) → Type 0
NoneOf [] = Unit {0}
NoneOf (P ∷ Ps) = (P → ⊥) × NoneOf Ps

-- Exactly one of the statements holds.
abbrev pub OneOf : List (Type 0) → Type 0
OneOf [] = ⊥
OneOf (P ∷ Ps) = (P × NoneOf Ps) ⊎ ((P → ⊥) × OneOf Ps)

-- Of the five things that `stands` says, exactly one holds.
abbrev pub OneOfFive : (Relation → Type 0) → Type 0
OneOfFive stands = OneOf (stands Equal ∷ stands Above ∷ stands Below ∷ stands Kin ∷ stands Disjoint ∷ [])

-- The relation of two things: whether they are equal, the first is above, the second is above, and, failing these, whether they are kin.
abbrev pub relation_by : (equal above below kin : Bool) → Relation
relation_by true b c d = Equal
relation_by false true c d = Above
relation_by false false true d = Below
relation_by false false false true = Kin
relation_by false false false false = Disjoint
