-- A table behind a reference: of its arrays all but the caps are known to have their lengths. With the first six caps its struct stands for the same
-- table, since a well-formed table has six. Its parents are a tree, its caps are the table's; what is asked for the verdict on a row, and whether it is
-- dead.
-- Assumes nothing.
use Prim.Native.Nat.{ℕ, ◌≤◌, ◌<◌}
use mathlib.Core.Path.{◌≡◌, sym, ap, subst, ◌∙◌}
use mathlib.Core.List.{List, map}
use native.Mathlib.Omega.{arith}
use lib.ListN.{length, take, length-map, length-take}
use lib.Seq.{length-take-le, take-take}
use Rattle.policy.specs.Limits.{technologies}
use Rattle.policy.specs.Model.{Coefficients}
use Rattle.policy.specs.Views.{coefficients_of, table_of, Held}
use Rattle.policy.specs.Wellformed.{Wellformed}
use Rattle.policy.specs.declared.table.Table.{Table as TableStruct}
use Rattle.policy.proofs.Laws.Tables.{Sized, Counted, counted}
use Rattle.relations.specs.Entities.{Parents}
use Rattle.relations.proofs.Laws.Tables.{lent_parents}
use Rattle.covers.specs.Covers.{Asked}
use Rattle.covers.proofs.Laws.Tables.{lent_asked}
use Rattle.verdicts.specs.Verdicts.{is_none, dead, verdict_in}
use Rattle.verdicts.proofs.Laws.Tables.{lent_verdict}

abbrev pub six : TableStruct → TableStruct
six t = record t { caps = take technologies t.caps }

module _ (t : TableStruct) (held : Held t) (w : Wellformed (table_of t)) where
  taken : length (take t.capped t.caps) ≡ technologies
  taken = let e = w.counts.six_caps in omega (arith, length-map (take t.capped t.caps) coefficients_of)

  enough : technologies ≤ length t.caps
  enough = let e = taken in let h = held.capped in omega (arith, length-take t.capped t.caps)

  pub counted_lent : Counted t
  counted_lent = let e = enough in let h = held.capped in counted t (omega arith)

  pub six_caps : length (six t).caps ≡ technologies
  six_caps = length-take-le technologies t.caps enough

  pub caps_lent : map coefficients_of (take technologies t.caps) ≡ (table_of t).caps
  caps_lent =
      let e = taken in
      let h = held.capped in
      let n : technologies ≡ t.capped = omega (arith, length-take t.capped t.caps) in
      ap (λ k. map coefficients_of (take k t.caps)) n

  six_held : Held (six t)
  six_held = record { entities = held.entities; capped = held.capped; filters = held.filters; rows = held.rows; unused = held.unused }

  six_same : table_of (six t) ≡ table_of t
  six_same =
      ap (λ (c : List Coefficients). record (table_of t) { caps = c })
      (ap (map coefficients_of) (take-take t.capped technologies t.caps held.capped))

  module _ (z : Sized (six t)) where
    pub parents_lent : Parents t.parents
    parents_lent = lent_parents (six t) z six_held (subst Wellformed (sym six_same) w)

    pub row_asked : (i : ℕ) → i < t.rows → Asked t.parents t.heads t.bounds i
    row_asked = lent_asked (six t) z six_held (subst Wellformed (sym six_same) w)

    pub row_dead : (i : ℕ) → i < t.rows → is_none (verdict_in t.parents t.heads t.bounds i) ≡ dead (table_of t) i
    row_dead i h = ap is_none (lent_verdict (six t) z six_held i h) ∙ ap (λ p. dead p i) six_same
