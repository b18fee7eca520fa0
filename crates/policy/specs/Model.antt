-- Document 01, "The table text": what a table holds. Lists have no capacity: nothing here says how many fields, coefficients, entities or rows there are.
-- Assumes nothing.
use Rattle.std.specs.Prelude.{ℕ, ◌+◌, List, [], ◌++◌, map, length, get_or}

-- The parent of a root: FF.
abbrev pub no_parent : ℕ
no_parent = 255

pub record Entity : Type 0 where
  pub parent : ℕ
  pub layer : ℕ
  -- which technologies a root supports: bit t, of value 2 to the power t, for technology t
  pub mask : ℕ

-- Header integrity, payload integrity, confidentiality.
abbrev pub Coefficients : Type 0
Coefficients = List ℕ

-- The low and the high of a field.
pub record Range : Type 0 where
  pub low : ℕ
  pub high : ℕ

-- Document 01's box: a range for each field, in the order source address, destination address, source port, destination port, protocol.
abbrev pub Selector : Type 0
Selector = List Range

-- A number for each field, in the same order.
abbrev pub Packet : Type 0
Packet = List ℕ

-- Document 02, [7]: "0 to drop and 1 to pass".
abbrev pub dropping : ℕ
dropping = 0

abbrev pub passing : ℕ
passing = 1

-- The root drops packets in the selector, or passes them.
pub record Filter : Type 0 where
  pub root : ℕ
  pub selector : Selector
  pub action : ℕ

pub record Row : Type 0 where
  -- the root where the row is installed
  pub holder : ℕ
  pub source : ℕ
  pub destination : ℕ
  pub technology : ℕ
  pub coefficients : Coefficients
  pub selector : Selector
  -- the gateway roots, document 01's G
  pub gateways : List ℕ

-- Entities, filters and rows are numbered from 0 in text order; caps are those of technologies 1, 2, ..
pub record Table : Type 0 where
  pub entities : List Entity
  pub caps : List Coefficients
  pub floor : Coefficients
  pub filters : List Filter
  pub rows : List Row

-- The table with these rows, and all else as it is.
abbrev pub with_rows : List Row → Table → Table
with_rows rows t =
    record { entities = t.entities; caps = t.caps; floor = t.floor; filters = t.filters; rows = rows }

-- The table with these rows after its own.
abbrev pub extended : List Row → Table → Table
extended rows t = with_rows (t.rows ++ rows) t

-- The lines before the rows: those of the entities, the caps, the floor (0 while it has not been read, 1 then) and the filters.
abbrev pub lines_before : ℕ → Table → ℕ
lines_before floored t = length t.entities + length t.caps + floored + length t.filters

-- What a number stands for that is no entity's, field's, filter's or row's.
abbrev pub no_entity : Entity
no_entity = record { parent = no_parent; layer = 0; mask = 0 }

abbrev pub no_range : Range
no_range = record { low = 0; high = 0 }

abbrev pub no_filter : Filter
no_filter = record { root = 0; selector = []; action = dropping }

abbrev pub no_row : Row
no_row =
    record {
      holder = 0;
      source = 0;
      destination = 0;
      technology = 0;
      coefficients = [];
      selector = [];
      gateways = [];
    }

abbrev pub entity_at : Table → ℕ → Entity
entity_at t e = get_or t.entities e no_entity

abbrev pub filter_at : Table → ℕ → Filter
filter_at t k = get_or t.filters k no_filter

abbrev pub row_at : Table → ℕ → Row
row_at t i = get_or t.rows i no_row

-- An entity's parent; FF for a root, and for a number that is no entity's.
abbrev pub parent_of : Table → ℕ → ℕ
parent_of t e = (entity_at t e).parent

-- The parents of all entities, and their layers, by number.
abbrev pub parents_of : Table → List ℕ
parents_of t = map (λ e. e.parent) t.entities

abbrev pub layers_of : Table → List ℕ
layers_of t = map (λ e. e.layer) t.entities
