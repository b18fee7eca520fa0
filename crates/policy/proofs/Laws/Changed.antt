-- A table with all but its entities changed keeps the rules of entities, filters and rows, which go by the entities alone; a well-formed table with
-- other rows that keep their rules is well-formed.
-- Assumes nothing.
use Prim.Native.Nat.{ℕ, ◌≤◌, ◌<◌}
use mathlib.Core.Logic.{inl, inr}
use mathlib.Core.List.{List}
use lib.ListN.{length, get_or}
use Rattle.policy.specs.Limits.{most_rows}
use Rattle.policy.specs.Model.{Coefficients, Filter, Row, Table, with_rows, no_row}
use Rattle.policy.specs.Wellformed.{EntityRule, IsRoot, FilterRule, RowRule, Counts, Wellformed}

-- The table with all but its entities changed.

abbrev pub changed : Table → List Coefficients → Coefficients → List Filter → List Row → Table
changed t caps floor filters rows =
    record { entities = t.entities; caps = caps; floor = floor; filters = filters; rows = rows }

module _ {t : Table} {caps : List Coefficients} {floor : Coefficients} {filters : List Filter} {rows : List Row} where
  pub entity_changed : {k : ℕ} → EntityRule t k → EntityRule (changed t caps floor filters rows) k
  entity_changed (inl r) = inl r
  entity_changed (inr o) = inr (record { layer = o.layer; earlier = o.earlier; smaller = o.smaller; mask = o.mask })

  pub root_changed : {e : ℕ} → IsRoot t e → IsRoot (changed t caps floor filters rows) e
  root_changed r = record { entity = r.entity; root = r.root }

  pub filter_changed : {f : Filter} → FilterRule t f → FilterRule (changed t caps floor filters rows) f
  filter_changed f = record { root = root_changed f.root; selector = f.selector; action = f.action }

  pub row_changed : {r : Row} → RowRule t r → RowRule (changed t caps floor filters rows) r
  row_changed r =
      record {
        holder = root_changed r.holder;
        source = r.source;
        destination = r.destination;
        technology = r.technology;
        coefficients = r.coefficients;
        null = r.null;
        selector = r.selector;
        few_gateways = r.few_gateways;
        gateways = λ k h. root_changed (r.gateways k h);
      }

-- A table with other rows, of which there are few.
pub counts_rows : {t : Table} → Counts t → (rs : List Row) → length rs ≤ most_rows → Counts (with_rows rs t)
counts_rows c rs few =
    record {
      some_entity = c.some_entity;
      few_entities = c.few_entities;
      six_caps = c.six_caps;
      few_filters = c.few_filters;
      few_rows = few;
    }

-- A well-formed table with other rows that keep their rules.
pub wellformed_rows : {t : Table} → Wellformed t → (rs : List Row) → length rs ≤ most_rows
    → ((i : ℕ) → i < length rs → RowRule t (get_or rs i no_row)) → Wellformed (with_rows rs t)
wellformed_rows w rs few rules =
    record {
      counts = counts_rows w.counts rs few;
      entity = λ k h. entity_changed (w.entity k h);
      cap = w.cap;
      floor = w.floor;
      filter = λ k h. filter_changed (w.filter k h);
      row = λ i h. row_changed (rules i h);
    }
