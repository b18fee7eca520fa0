-- What the code's structs stand for.
-- Assumes nothing.
use Rattle.std.specs.Prelude.{[], ◌∷◌}
use Rattle.policy.specs.Model.{Packet}
use Rattle.policy.specs.Views.{value}
use Rattle.search.specs.declared.walk.Values.{Values}

-- The values of a walk's fields, in the order of the walk.
abbrev pub values_of : Values → Packet
values_of v = value v.first ∷ value v.second ∷ value v.third ∷ value v.fourth ∷ value v.fifth ∷ []
