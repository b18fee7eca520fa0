-- Laws of the struck table: its rows are the kept rows of the old one, and it is well-formed where that is.
-- Assumes nothing.
use Prim.Native.Nat.{ℕ, ◌<◌}
use mathlib.Core.Path.{◌≡◌, subst⁻¹, ◌∙◌}
use mathlib.Core.List.{map}
use native.Mathlib.Omega.{arith}
use lib.ListN.{length, get_or, length-map, get_or-map}
use Rattle.policy.specs.Model.{Table, no_row, row_at}
use Rattle.policy.specs.Wellformed.{RowRule, Wellformed}
use Rattle.base.proofs.Laws.Lists.{get_d_default}
use Rattle.striking.specs.Striking.{kept, struck}
use Rattle.policy.proofs.Laws.Changed.{wellformed_rows}
use Rattle.striking.proofs.Laws.Kept.{kept_rows, kept_row}

module _ (t : Table) where
  pub length_struck : length (struck t).rows ≡ length (kept t)
  length_struck = length-map (kept t) (row_at t)

  -- Row k is the k-th kept row.
  pub row_struck : (k : ℕ) → k < length (kept t) → row_at (struck t) k ≡ row_at t (get_or (kept t) k 0)
  row_struck k h =
      get_d_default (map (row_at t) (kept t)) k no_row (row_at t 0) (omega (arith, length_struck))
      ∙ get_or-map (row_at t) (kept t) k 0

  pub struck_well : Wellformed t → Wellformed (struck t)
  struck_well w =
      wellformed_rows w (struck t).rows (omega (arith, length_struck, (kept_rows t).few, w.counts.few_rows))
      (λ k h.
      let b : k < length (kept t) = omega (arith, length_struck) in
      subst⁻¹ (RowRule t) (row_struck k b) (w.row (get_or (kept t) k 0) (kept_row t k b)))
