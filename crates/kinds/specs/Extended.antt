-- Document 02, [6], "Rows added at the end", on the kinds: "Kinds 12, 16 and 19 may change for old rows, and new pairs may appear". What else is said of
-- old rows stands, and what is said of filters.
-- Assumes nothing.
use Rattle.std.specs.Prelude.{ℕ, ◌<◌, ◌≡◌, ◌↔◌, ◌⊎◌, List, length}
use Rattle.policy.specs.Model.{Row, Table, extended}
use Rattle.kinds.specs.Kinds.{no_second, Anomaly}

abbrev pub MayChange : ℕ → Type 0
MayChange kind = (kind ≡ 12) ⊎ ((kind ≡ 16) ⊎ (kind ≡ 19))

-- The numbers of an entry are of rows of the table alone.
abbrev pub OfOldRows : Table → ℕ → ℕ → Type 0
OfOldRows t i j = (i < length t.rows) × ((j < length t.rows) ⊎ (j ≡ no_second))

-- Or they are of filters, as those of kinds 21 and 22.
abbrev pub OfOldThings : Table → ℕ → ℕ → ℕ → Type 0
OfOldThings t i kind j = OfOldRows t i j ⊎ (20 < kind)

abbrev pub AnomaliesStand : Table → List Row → Type 0
AnomaliesStand t added = (i kind j : ℕ) → OfOldThings t i kind j → (MayChange kind → ⊥) → Anomaly t i kind j ↔ Anomaly (extended added t) i kind j
