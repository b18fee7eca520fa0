-- What the code's structs, and the runs of numbers that a table lends, stand for. A `..Of` reads a struct, a `..In` reads runs.
-- Assumes nothing.
use Rattle.std.specs.Prelude.{ℕ, ◌+◌, ◌*◌, ◌≤◌, ◌≡◌, List, [], ◌∷◌, ◌++◌, map, get_or, take, drop}
use Rattle.base.specs.Lists.{tabulate}
use Rattle.policy.specs.Limits.{most_entities, technologies, most_filters, most_rows, field_count, head_count, word_count}
use Rattle.policy.specs.Model.{Entity, Coefficients, Range, Selector, Packet, Filter, Row, Table, no_parent, no_range, extended}
use Rattle.policy.specs.Words.{selector_of_words}
use Rattle.policy.specs.declared.number.Number.{Number as NumberStruct}
use Rattle.policy.specs.declared.selector.Range.{Range as RangeStruct}
use Rattle.policy.specs.declared.selector.Fields.{Fields}
use Rattle.policy.specs.declared.row.Entity.{Entity as EntityStruct}
use Rattle.policy.specs.declared.row.Coefficients.{Coefficients as CoefficientsStruct}
use Rattle.policy.specs.declared.row.Filter.{Filter as FilterStruct}
use Rattle.policy.specs.declared.row.Row.{Row as RowStruct}
use Rattle.policy.specs.declared.table.Table.{Table as TableStruct}

-- ---- small structs

abbrev pub SelectorStruct : Type 0
SelectorStruct = Fields RangeStruct

abbrev pub PacketStruct : Type 0
PacketStruct = Fields NumberStruct

-- The number that a Number is. Nothing above this crate unfolds it.
unfoldable pub value : NumberStruct → ℕ
value n = n.0

abbrev pub range_of : RangeStruct → Range
range_of r = record { low = value r.low; high = value r.high }

abbrev pub selector_of : SelectorStruct → Selector
selector_of s =
    range_of s.source_address
    ∷ range_of s.destination_address
    ∷ range_of s.source_port
    ∷ range_of s.destination_port
    ∷ range_of s.protocol
    ∷ []

abbrev pub packet_of : PacketStruct → Packet
packet_of p =
    value p.source_address
    ∷ value p.destination_address
    ∷ value p.source_port
    ∷ value p.destination_port
    ∷ value p.protocol
    ∷ []

abbrev pub entity_of : EntityStruct → Entity
entity_of e = record { parent = e.parent; layer = e.layer; mask = e.mask }

abbrev pub coefficients_of : CoefficientsStruct → Coefficients
coefficients_of c = c.header ∷ c.payload ∷ c.confidentiality ∷ []

abbrev pub filter_of : FilterStruct → Filter
filter_of f = record { root = f.root; selector = selector_of f.selector; action = f.action }

abbrev pub row_of : RowStruct → Row
row_of r =
    record {
      holder = r.holder;
      source = r.source;
      destination = r.destination;
      technology = r.technology;
      coefficients = coefficients_of r.coefficients;
      selector = selector_of r.selector;
      gateways = take r.count r.gateways;
    }

-- ---- runs of numbers

-- An entity's parent among the parents of all.
abbrev pub parent_in : List ℕ → ℕ → ℕ
parent_in parents e = get_or parents e no_parent

abbrev pub entity_in : List ℕ → List ℕ → List ℕ → ℕ → Entity
entity_in parents layers masks e = record { parent = get_or parents e 0; layer = get_or layers e 0; mask = get_or masks e 0 }

-- The numbers of the thing at i of a run of things with n numbers each.
unfoldable pub numbers_at : ℕ → List ℕ → ℕ → List ℕ
numbers_at n run i = tabulate (λ c. get_or run (n * i + c) 0) n

-- Field f of the selector at k of a run of selectors.
unfoldable pub range_in : List ℕ → ℕ → ℕ → Range
range_in bounds k f = get_or (selector_of_words (numbers_at word_count bounds k)) f no_range

abbrev pub selector_in : List ℕ → ℕ → Selector
selector_in bounds k = tabulate (range_in bounds k) field_count

abbrev pub filter_in : (roots actions bounds : List ℕ) → ℕ → Filter
filter_in roots actions bounds k = record { root = get_or roots k 0; selector = selector_in bounds (most_rows + k); action = get_or actions k 0 }

-- The bytes of the row at i besides its selector.
abbrev pub head_in : List ℕ → ℕ → List ℕ
head_in heads i = numbers_at head_count heads i

abbrev pub row_from : List ℕ → Selector → Row
row_from head s =
    record {
      holder = get_or head 0 0;
      source = get_or head 1 0;
      destination = get_or head 2 0;
      technology = get_or head 3 0;
      coefficients = get_or head 4 0 ∷ get_or head 5 0 ∷ get_or head 6 0 ∷ [];
      selector = s;
      gateways = take (get_or head 7 0) (drop 8 head);
    }

abbrev pub row_in : List ℕ → List ℕ → ℕ → Row
row_in heads bounds i = row_from (head_in heads i) (selector_in bounds i)

-- The first n rows.
abbrev pub rows_in : List ℕ → List ℕ → ℕ → List Row
rows_in heads bounds n = tabulate (row_in heads bounds) n

-- ---- the table

abbrev pub table_of : TableStruct → Table
table_of t =
    record {
      entities = tabulate (entity_in t.parents t.layers t.masks) t.entities;
      caps = map coefficients_of (take t.capped t.caps);
      floor = coefficients_of t.floor;
      filters = tabulate (filter_in t.filter_roots t.filter_actions t.bounds) t.filters;
      rows = rows_in t.heads t.bounds t.rows;
    }

-- The struct has room for what it counts, and no parent past its entities.
pub record Held (t : TableStruct) : Type 0 where
  pub entities : t.entities ≤ most_entities
  pub capped : t.capped ≤ technologies
  pub filters : t.filters ≤ most_filters
  pub rows : t.rows ≤ most_rows
  pub unused : (e : ℕ) → t.entities ≤ e → parent_in t.parents e ≡ no_parent

-- The struct t stands for the table p.
pub record Stands (t : TableStruct) (p : Table) : Type 0 where
  pub same : table_of t ≡ p
  pub held : Held t

-- ---- one thing more

abbrev pub no_table : Table
no_table = record { entities = []; caps = []; floor = 0 ∷ 0 ∷ 0 ∷ []; filters = []; rows = [] }

abbrev pub with_entity : Entity → Table → Table
with_entity e t =
    record { entities = t.entities ++ (e ∷ []); caps = t.caps; floor = t.floor; filters = t.filters; rows = t.rows }

abbrev pub with_cap : Coefficients → Table → Table
with_cap c t =
    record { entities = t.entities; caps = t.caps ++ (c ∷ []); floor = t.floor; filters = t.filters; rows = t.rows }

abbrev pub with_floor : Coefficients → Table → Table
with_floor c t =
    record { entities = t.entities; caps = t.caps; floor = c; filters = t.filters; rows = t.rows }

abbrev pub with_filter : Filter → Table → Table
with_filter f t =
    record { entities = t.entities; caps = t.caps; floor = t.floor; filters = t.filters ++ (f ∷ []); rows = t.rows }

abbrev pub with_row : Row → Table → Table
with_row r t = extended (r ∷ []) t
