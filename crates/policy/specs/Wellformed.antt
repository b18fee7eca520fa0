-- What every accepted table keeps: document 01's rules of frames and of their sequence, item by item.
-- Assumes nothing.
use Rattle.std.specs.Prelude.{ℕ, ◌<◌, ◌≤◌, ◌%◌, ◌^◌, ◌≡◌, ◌⊎◌, length, get_or}
use mathlib.Core.List.{List, [], ◌∷◌, Memᴰ}
use Rattle.policy.specs.Limits.{technologies, most_gateways, coefficient_count}
use Rattle.policy.specs.Model.{Entity, Coefficients, Selector, Filter, Row, Table, no_parent, passing, no_filter, entity_at, row_at}

-- "A root (a network node) has parent FF and layer 0 .. bits 0 and 7 are 0."
pub record RootRule (e : Entity) : Type 0 where
  pub parent : e.parent ≡ no_parent
  pub layer : e.layer ≡ 0
  pub bit_0 : e.mask % 2 ≡ 0
  pub bit_7 : e.mask < 2 ^ 7

-- "Any other entity has layer 2, 3, 5 or 7, a parent that is an earlier entity of smaller layer, and mask 00."
pub record OtherRule (t : Table) (k : ℕ) : Type 0 where
  pub layer : Memᴰ (entity_at t k).layer (2 ∷ 3 ∷ 5 ∷ 7 ∷ [])
  pub earlier : (entity_at t k).parent < k
  pub smaller : (entity_at t (entity_at t k).parent).layer < (entity_at t k).layer
  pub mask : (entity_at t k).mask ≡ 0

abbrev pub EntityRule : Table → ℕ → Type 0
EntityRule t k = RootRule (entity_at t k) ⊎ OtherRule t k

abbrev pub IsEntity : Table → ℕ → Type 0
IsEntity t e = e < length t.entities

pub record IsRoot (t : Table) (e : ℕ) : Type 0 where
  pub entity : IsEntity t e
  pub root : (entity_at t e).parent ≡ no_parent

-- Every number of the list is below the bound.
abbrev pub Below : ℕ → List ℕ → Type 0
Below bound xs = (k : ℕ) → k < length xs → get_or xs k 0 < bound

-- Three coefficients, a byte each.
pub record CoefficientsRule (c : Coefficients) : Type 0 where
  pub three : length c ≡ coefficient_count
  pub bytes : Below 256 c

-- No low is above its high.
abbrev pub Ordered : Selector → Type 0
Ordered [] = Unit {0}
Ordered (r ∷ s) = (r.low ≤ r.high) × Ordered s

-- A field for each width, a number of bytes, and no high is too large for it.
abbrev pub Fits : List ℕ → Selector → Type 0
Fits [] [] = Unit {0}
Fits [] (r ∷ s) = ⊥
Fits (w ∷ ws) [] = ⊥
Fits (w ∷ ws) (r ∷ s) = (r.high < 256 ^ w) × Fits ws s

-- How large the numbers of a table's ranges can be, in bytes: two addresses, two ports, the protocol.
abbrev pub range_widths : List ℕ
range_widths = 4 ∷ 4 ∷ 2 ∷ 2 ∷ 1 ∷ []

pub record SelectorRule (s : Selector) : Type 0 where
  pub ordered : Ordered s
  pub fits : Fits range_widths s

pub record FilterRule (t : Table) (f : Filter) : Type 0 where
  pub root : IsRoot t f.root
  pub selector : SelectorRule f.selector
  -- "An action above 1 is refused"
  pub action : f.action ≤ passing

pub record RowRule (t : Table) (r : Row) : Type 0 where
  pub holder : IsRoot t r.holder
  pub source : IsEntity t r.source
  pub destination : IsEntity t r.destination
  pub technology : r.technology ≤ technologies
  pub coefficients : CoefficientsRule r.coefficients
  -- "NULL with a coefficient above 0" is refused
  pub null : r.technology ≡ 0 → Below 1 r.coefficients
  pub selector : SelectorRule r.selector
  pub few_gateways : length r.gateways ≤ most_gateways
  pub gateways : (k : ℕ) → k < length r.gateways → IsRoot t (get_or r.gateways k 0)

-- "Sequence: 1 to 128 entities, six caps .., one floor, 0 to 32 filters, 0 to 64 rows."
pub record Counts (t : Table) : Type 0 where
  pub some_entity : 1 ≤ length t.entities
  pub few_entities : length t.entities ≤ 128
  pub six_caps : length t.caps ≡ 6
  pub few_filters : length t.filters ≤ 32
  pub few_rows : length t.rows ≤ 64

-- There are as many of each as there may be, and each keeps its rules.
pub record Wellformed (t : Table) : Type 0 where
  pub counts : Counts t
  pub entity : (k : ℕ) → IsEntity t k → EntityRule t k
  pub cap : (k : ℕ) → k < technologies → CoefficientsRule (get_or t.caps k [])
  pub floor : CoefficientsRule t.floor
  pub filter : (k : ℕ) → k < length t.filters → FilterRule t (get_or t.filters k no_filter)
  pub row : (i : ℕ) → i < length t.rows → RowRule t (row_at t i)
