-- Document 01: the entries of a table's anomalies, "first row, kind, second number", "in ascending order, compared in this sequence"; and document 02,
-- [7]: those of filters "hold filter numbers from 0 and come after all row entries, ascending".
-- Assumes nothing.
use Rattle.std.specs.Prelude.{ℕ, zero, suc, ◌+◌, ◌≤◌, ◌<◌, ◌≡◌, length}
use mathlib.Core.List.{List, [], ◌∷◌, ◌++◌, Memᴰ}
use Rattle.base.specs.Truths.{pick}
use Rattle.base.specs.Lists.{Ascends}
use Rattle.policy.specs.Model.{Table}
use Rattle.kinds.specs.Kinds.{no_second, row_kind_count, filter_kind_count, anomaly}

pub record Entry : Type 0 where
  pub first : ℕ
  pub kind : ℕ
  pub second : ℕ

abbrev pub entry : ℕ → ℕ → ℕ → Entry
entry i kind j = record { first = i; kind = kind; second = j }

-- The lists of n numbers from k on, one after another.
unfoldable pub gather : ℕ → ℕ → (ℕ → List Entry) → List Entry
gather zero k f = []
gather (suc n) k f = f k ++ gather n (suc k) f

-- The sum of what f says of n numbers, from k on.
unfoldable pub sum : ℕ → ℕ → (ℕ → ℕ) → ℕ
sum zero k f = 0
sum (suc n) k f = f k + sum n (suc k) f

-- The entry, if there is the anomaly.
abbrev pub listed : Table → ℕ → ℕ → ℕ → List Entry
listed t i kind j = pick (anomaly t i kind j) (entry i kind j ∷ []) []

-- A block of entries is of `things` things, rows or filters, and of `kinds` kinds from `kind` on.
pub record Block : Type 0 where
  pub things : ℕ
  pub kind : ℕ
  pub kinds : ℕ

abbrev pub row_block : Table → Block
row_block t = record { things = length t.rows; kind = 1; kinds = row_kind_count }

abbrev pub filter_block : Table → Block
filter_block t = record { things = length t.filters; kind = suc row_kind_count; kinds = filter_kind_count }

-- Of thing i and a kind, for each second number: those of the first `things` things, and FF.
abbrev pub of_kind : Table → ℕ → ℕ → ℕ → List Entry
of_kind t things i kind = gather things 0 (λ j. listed t i kind j) ++ listed t i kind no_second

-- Of thing i, for each kind of the block.
abbrev pub of_thing : Table → Block → ℕ → List Entry
of_thing t b i = gather b.kinds b.kind (of_kind t b.things i)

abbrev pub of_block : Table → Block → List Entry
of_block t b = gather b.things 0 (of_thing t b)

unfoldable pub entries : Table → List Entry
entries t = of_block t (row_block t) ++ of_block t (filter_block t)

-- "The list has at most 13,792 entries": 12,800 of rows, and 992 of filters.
abbrev pub most_entries : ℕ
most_entries = 13792

-- "compared in this sequence": first number, kind, second number.
pub data Before : Entry → Entry → Type 0 where
  by_first : {e f : Entry} → e.first < f.first → Before e f
  by_kind : {e f : Entry} → e.first ≡ f.first → e.kind < f.kind → Before e f
  by_second : {e f : Entry} → e.first ≡ f.first → e.kind ≡ f.kind → e.second < f.second → Before e f

-- Two blocks: kinds 1 to 20, and "after all row entries" kinds 21 and 22, of filters. In each an entry is before all that follow it; so each is there
-- once.
pub record Ascending (l : List Entry) : Type 0 where
  pub rows : List Entry
  pub filters : List Entry
  pub blocks : l ≡ rows ++ filters
  pub rows_first : (e : Entry) → Memᴰ e rows → e.kind ≤ 20
  pub filters_last : (e : Entry) → Memᴰ e filters → 20 < e.kind
  pub rows_ascend : Ascends Before rows
  pub filters_ascend : Ascends Before filters
