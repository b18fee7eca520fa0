-- Document 01, "The table text": rows, whose box has fields of any widths. `parents` are those of the entities read so far, by number.
-- Assumes nothing.
use Rattle.std.specs.Prelude.{ℕ, ◌+◌, ◌≤◌, ◌≡◌, Bool, not, ◌&&◌, ◌||◌, List, [], ◌∷◌, ◌++◌, map, eqb, leb, ltb, length, get_or, take, drop}
use Rattle.base.specs.Checks.{Check, or_else}
use Rattle.hexlines.specs.Lines.{line_of}
use Rattle.policy.specs.Limits.{technologies, most_rows, most_gateways, coefficient_count}
use Rattle.policy.specs.Model.{Coefficients, Row, parents_of}
use Rattle.policy.specs.Views.{with_row}
use Rattle.relations.specs.Selectors.{inhabited}
use Rattle.frames.specs.Refusals.{bad_number, empty_range, protected_null}
use Rattle.frames.specs.Faults.{a_root, an_end, a_technology, a_range, a_protection}
use Rattle.frames.specs.Progress.{FrameKind}
use Rattle.frames.specs.Parts.{coefficients_from, selector_from, SaysBox, bytes_of_box, most_width, box_bytes, box_of}
use Rattle.base.specs.Lists.{all_pass}
use Rattle.frames.specs.Numbers.{is_entity, is_root, all_roots}

-- "05 row, 35 + n bytes: kind, holder, source s, destination d, technology t, coefficients C .., box S, n (0 to 8), then G, n gateway roots."
-- The place of the box, and that of n.
abbrev pub box_place : ℕ
box_place = 4 + coefficient_count

abbrev pub count_place : List ℕ → ℕ
count_place ws = box_place + box_bytes ws

-- The most bytes of a row, its kind byte among them: with the widest addresses, and all gateways.
abbrev pub most_row_bytes : ℕ
most_row_bytes = 1 + count_place (box_of most_width) + 1 + most_gateways

abbrev pub row_length : List ℕ → List ℕ → Bool
row_length ws bs =
    ltb (count_place ws) (length bs)
    && (leb (get_or bs (count_place ws) 0) most_gateways && eqb (length bs) (count_place ws + 1 + get_or bs (count_place ws) 0))

abbrev pub row_frame : List ℕ → List ℕ → Row
row_frame ws bs =
    record {
      holder = get_or bs 0 0;
      source = get_or bs 1 0;
      destination = get_or bs 2 0;
      technology = get_or bs 3 0;
      coefficients = coefficients_from 4 bs;
      selector = selector_from box_place ws bs;
      gateways = take (get_or bs (count_place ws) 0) (drop (count_place ws + 1) bs);
    }

-- The bytes say the row, whose box has these widths.
pub record SaysRow (ws bs : List ℕ) (r : Row) : Type 0 where
  pub box : List ℕ
  pub selector : SaysBox ws box r.selector
  pub coefficients : length r.coefficients ≡ coefficient_count
  pub few : length r.gateways ≤ most_gateways
  pub bytes : bs
      ≡ r.holder ∷ r.source ∷ r.destination ∷ r.technology ∷ (r.coefficients ++ (box ++ (length r.gateways ∷ r.gateways)))

-- The bytes of a row after its kind byte, with a box of these widths. That they say the row is a law.
abbrev pub bytes_of_row : List ℕ → Row → List ℕ
bytes_of_row ws r =
    r.holder
    ∷ r.source
    ∷ r.destination
    ∷ r.technology
    ∷ (r.coefficients ++ (bytes_of_box ws r.selector ++ (length r.gateways ∷ r.gateways)))

-- The line of a row, in capitals, with this kind byte.
abbrev pub line_of_row : ℕ → List ℕ → Row → List ℕ
line_of_row byte ws r = line_of (byte ∷ bytes_of_row ws r)

-- "0 to 64 rows", after the floor and the filters.
abbrev pub row_place : (floored rows : ℕ) → Bool
row_place floored rows = eqb floored 1 && ltb rows most_rows

-- "holder .. or gateway isn't a root; s or d no entity; t above 6"
unfoldable pub row_numbers : List ℕ → Row → Bool
row_numbers parents r =
    is_root parents r.holder
    && (is_entity parents r.source
    && (is_entity parents r.destination && (leb r.technology technologies && all_roots parents r.gateways)))

-- Each number is 0.
unfoldable pub all_zero : List ℕ → Bool
all_zero xs = all_pass (λ x. eqb x 0) xs

-- "NULL with a coefficient above 0" is refused.
unfoldable pub null_rule : ℕ → Coefficients → Bool
null_rule technology c = not (eqb technology 0) || all_zero c

abbrev pub row_content : List ℕ → Row → List Check
row_content parents r =
    or_else (row_numbers parents r) bad_number
    ∷ or_else (inhabited r.selector) empty_range
    ∷ or_else (null_rule r.technology r.coefficients) protected_null
    ∷ []

-- The kind of rows with this kind byte and these widths.
abbrev pub row_kind : ℕ → List ℕ → FrameKind Row
row_kind byte ws =
    record {
      byte = byte;
      long = row_length ws;
      value = row_frame ws;
      says = SaysRow ws;
      placed = λ p r. row_place p.floored (length p.table.rows);
      content = λ t r. row_content (parents_of t) r;
      judged = λ r.
          a_root r.holder
          ∷ an_end r.source
          ∷ an_end r.destination
          ∷ a_technology r.technology
          ∷ (map a_root r.gateways ++ (map a_range r.selector ++ (a_protection r.technology r.coefficients ∷ [])));
      grown = λ r p. record { table = with_row r p.table; floored = p.floored };
    }
