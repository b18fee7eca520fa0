-- The numbers of the kept rows:
--   kept_rows: they ascend, and pass the test that they are not dead
--   kept_row: each is a row's
--   alive_decides: the test says whether a row is not dead
--   kept_exactly: they are those of all rows that are not dead
-- Assumes nothing.
use Prim.Native.Nat.{ℕ, ◌<◌}
use mathlib.Core.Path.{subst}
use mathlib.Core.Logic.{◌↔◌}
use mathlib.Core.Bool.{not}
use mathlib.Core.List.{Memᴰ}
use native.Mathlib.Omega.{arith}
use lib.ListN.{length, get_or}
use Rattle.policy.specs.Model.{Table}
use Rattle.policy.specs.Wellformed.{Wellformed}
use Rattle.relations.specs.Groups.{Dead}
use Rattle.base.specs.Truths.{Decides}
use Rattle.base.proofs.Laws.Decides.{decides_not, decides_holds}
use Rattle.base.proofs.Laws.Members.{member_at, at_member}
use Rattle.base.proofs.Laws.Numbers.{Numbers, numbers}
use Rattle.verdicts.specs.Verdicts.{dead}
use Rattle.verdicts.proofs.Laws.Verdicts.{dead_decides}
use Rattle.striking.specs.Striking.{kept}

module _ (t : Table) where
  pub kept_rows : Numbers (λ i. not (dead t i)) (length t.rows) 0 (kept t)
  kept_rows = numbers (λ i. not (dead t i)) (length t.rows) 0

  pub kept_row : (k : ℕ) → k < length (kept t) → get_or (kept t) k 0 < length t.rows
  kept_row k h = omega (arith, kept_rows.high k h)

  module _ (w : Wellformed t) where
    pub alive_decides : (i : ℕ) → i < length t.rows → Decides (not (dead t i)) (Dead t i → ⊥)
    alive_decides i h = decides_not (dead t i) (dead_decides t w i h)

    -- "kept are all rows but the dead"
    pub kept_exactly : (i : ℕ) → Memᴰ i (kept t) ↔ ((i < length t.rows) × (Dead t i → ⊥))
    kept_exactly i = (
      λ m.
          let k = member_at 0 i (kept t) m in
          let row = kept_row k.0 k.1 in
          subst (λ n. (n < length t.rows) × (Dead t n → ⊥)) k.2 (row, (alive_decides _ row).yes (kept_rows.pass k.0 k.1)),
      λ h.
          let live = decides_holds (not (dead t i)) (alive_decides i h.0) h.1 in
          let k = kept_rows.all i (omega arith) (omega (arith, h.0)) live in
          subst (λ n. Memᴰ n (kept t)) k.2 (at_member 0 (kept t) k.0 k.1),
    )
