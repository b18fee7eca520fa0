-- The kinds of rows and those of filters, by their numbers:
--   OfRows, OfFilters, row_kind, filter_kind: which numbers are those of which
--   Within, anomaly_within: an anomaly's numbers are those of one of the two blocks
-- Assumes nothing.
use Prim.Native.Nat.{ℕ, zero, suc, ◌+◌, ◌≤◌, ◌<◌}
use mathlib.Core.Path.{◌≡◌}
use mathlib.Core.Logic.{◌⊎◌, inl, inr}
use mathlib.Core.List.{List, [], ◌∷◌, ◌++◌}
use native.Mathlib.Decide.{dec_lt}
use native.Mathlib.Omega.{arith}
use lib.ListN.{length, get_or}
use Rattle.base.proofs.Laws.Each.{All, all_at, ◌▹◌}
use Rattle.policy.specs.Model.{Table}
use Rattle.kinds.specs.Meanings.{IsRow, IsFilter}
use Rattle.kinds.specs.Kinds.{Kind, no_kind, alone, paired, of_filters, row_kinds, filter_kinds, row_kind_count, numbered, kind_at, no_second, Says, Anomaly}
use Rattle.kinds.specs.Entries.{Block, row_block, filter_block}

-- No kind of filters, and no kind of rows.
abbrev pub OfRows : Kind → Type 0
OfRows no_kind = Unit {0}
OfRows (alone P b) = Unit {0}
OfRows (paired P b) = Unit {0}
OfRows (of_filters P b) = ⊥

abbrev pub OfFilters : Kind → Type 0
OfFilters no_kind = Unit {0}
OfFilters (alone P b) = ⊥
OfFilters (paired P b) = ⊥
OfFilters (of_filters P b) = Unit {0}

-- What holds of each of the first of two lists, and of each of the second, by its place.
of_first : (P : Kind → Type 0) (l m : List Kind) → All P l → (k : ℕ) → k < length l → P (get_or (l ++ m) k no_kind)
of_first P [] m a k h = absurd (omega arith)
of_first P (x ∷ l) m a zero h = a.0
of_first P (x ∷ l) m a (suc k) h = of_first P l m a.1 k (omega arith)

of_second : (P : Kind → Type 0) (l m : List Kind) → P no_kind → All P m → (k : ℕ) → length l ≤ k → P (get_or (l ++ m) k no_kind)
of_second P [] m d a k h = all_at P no_kind m d a k
of_second P (x ∷ l) m d a zero h = absurd (omega arith)
of_second P (x ∷ l) m d a (suc k) h = of_second P l m d a k (omega arith)

pub row_kind : (kind : ℕ) → kind ≤ row_kind_count → OfRows (kind_at kind)
row_kind kind h = of_first OfRows (no_kind ∷ row_kinds) filter_kinds each kind (omega arith)
  where
    each : All OfRows (no_kind ∷ row_kinds)
    each = tt ▹ tt ▹ tt ▹ tt ▹ tt ▹ tt ▹ tt ▹ tt ▹ tt ▹ tt ▹ tt ▹ tt ▹ tt ▹ tt ▹ tt ▹ tt ▹ tt ▹ tt ▹ tt ▹ tt ▹ tt ▹ tt

pub filter_kind_lem : (kind : ℕ) → row_kind_count < kind → OfFilters (kind_at kind)
filter_kind_lem kind h = of_second OfFilters (no_kind ∷ row_kinds) filter_kinds tt (tt ▹ tt ▹ tt) kind (omega arith)

-- ---- an anomaly's numbers

-- A number at which a kind says something is that of a kind.
small : (t : Table) (i j : ℕ) (l : List Kind) (k : ℕ) → Says t (get_or l k no_kind) i j → k < length l
small t i j [] k h = absurd h
small t i j (x ∷ l) zero h = omega arith
small t i j (x ∷ l) (suc k) h = let r = small t i j l k h in omega arith

not_0 : (t : Table) (i kind j : ℕ) → Anomaly t i kind j → 0 < kind
not_0 t i zero j h = absurd h
not_0 t i (suc kind) j h = omega arith

-- The first number is a thing's and the second too, or FF; the kind is one of the block's.
pub record Within (b : Block) (i kind j : ℕ) : Type 0 where
  pub thing : i < b.things
  pub from : b.kind ≤ kind
  pub to : kind < b.kind + b.kinds
  pub second : (j < b.things) ⊎ (j ≡ no_second)

module _ (t : Table) (i j : ℕ) where
  row_numbers_lem : (k : Kind) → OfRows k → Says t k i j → IsRow t i × (IsRow t j ⊎ (j ≡ no_second))
  row_numbers_lem no_kind o h = absurd h
  row_numbers_lem (alone P b) o h = (h.0, inr h.1.0)
  row_numbers_lem (paired P b) o h = (h.0, inl h.1.0)
  row_numbers_lem (of_filters P b) o h = absurd o

  filter_numbers : (k : Kind) → OfFilters k → Says t k i j → IsFilter t i × (IsFilter t j ⊎ (j ≡ no_second))
  filter_numbers no_kind o h = absurd h
  filter_numbers (alone P b) o h = absurd o
  filter_numbers (paired P b) o h = absurd o
  filter_numbers (of_filters P b) o h = (h.0, inl h.1.0)

  pub anomaly_within : (kind : ℕ) → Anomaly t i kind j → Within (row_block t) i kind j ⊎ Within (filter_block t) i kind j
  anomaly_within kind h =
      let low = not_0 t i kind j h in
      let high = small t i j numbered kind h in
      elim (dec_lt row_kind_count kind) [
        | no n ↦
            let r = row_numbers_lem (kind_at kind) (row_kind kind (omega arith)) h in
            inl (record { thing = r.0; from = omega arith; to = omega arith; second = r.1 })
        | yes n ↦
            let f = filter_numbers (kind_at kind) (filter_kind_lem kind n) h in
            inr (record { thing = f.0; from = omega arith; to = omega arith; second = f.1 })
      ]
