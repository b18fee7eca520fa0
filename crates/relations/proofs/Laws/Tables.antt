-- What an accepted table gives the relations: its parents are a tree, as they are lent too.
-- Assumes nothing.
use mathlib.Core.Path.{subst⁻¹}
use native.Mathlib.Omega.{arith}
use Rattle.policy.specs.Model.{Table, parent_of}
use Rattle.policy.specs.Wellformed.{Wellformed}
use Rattle.policy.specs.Views.{table_of, Held}
use Rattle.policy.specs.declared.table.Table.{Table as TableStruct}
use Rattle.policy.proofs.Laws.Tables.{Sized, parents_same, parent_earlier}
use Rattle.relations.specs.Entities.{Tree, Parents}

pub table_tree : (t : Table) → Wellformed t → Tree (parent_of t)
table_tree t w = record { earlier = parent_earlier w }

pub lent_parents : (t : TableStruct) → Sized t → Held t → Wellformed (table_of t) → Parents t.parents
lent_parents t s h w =
    let n = h.entities in
    let m = s.parents in
    record { full = m; tree = subst⁻¹ Tree (parents_same t h (omega arith)) (table_tree (table_of t) w) }
