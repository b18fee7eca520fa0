-- Demand 1 on reading, with document 02's requests [1] and [7], for every text: where a line ends, what digits, numbers and frames' bytes stand for,
-- which texts are accepted, and why the others are refused. Numbers of the documents stand here as they print them.
-- Assumes nothing.
use Rattle.std.specs.Prelude.{ℕ, ◌+◌, ◌*◌, ◌≤◌, ◌<◌, ◌≡◌, not, ◌↔◌, ◌⊎◌, length}
use mathlib.Core.List.{List, [], ◌∷◌, ◌++◌, map, Memᴰ}
use Rattle.hexlines.specs.Digits.{digit_value, Decimal, Capital, Digit, digits_of}
use Rattle.hexlines.specs.Lines.{NoLine, is_line, bytes_of}
use Rattle.hexlines.specs.Numbers.{number_of}
use Rattle.policy.specs.Model.{Coefficients, Entity, Range, Selector, Filter, Row, Table, dropping, passing, entity_at}
use Rattle.policy.specs.Wellformed.{RootRule, OtherRule, IsEntity, IsRoot, FilterRule, RowRule}
use Rattle.base.specs.Truths.{Decides}
use Rattle.base.specs.Answers.{returned, refused_by}
use Rattle.frames.specs.Parts.{box_widths}
use Rattle.frames.specs.Kinds.{of_entity, of_cap, of_floor, of_filter, of_row, describe}
use Rattle.reader.specs.Lines.{lines_of, rest_of, text_of}
use Rattle.reader.specs.Frames.{Frame, a_frame, frame_of}
use Rattle.reader.specs.Forms.{SaysFrame}
use Rattle.reader.specs.States.{table_read, parse}
use Rattle.reader.specs.Rules.{frames_of, KeepsRules}
use Rattle.reader.specs.Faults.{FaultAt, FirstFault}

-- "each line ended by a line feed", which is 10: a text is its lines, each with its line feed, and what stands after the last, byte for byte.
pub record Cut (text : List ℕ) : Type 0 where
  pub whole : text_of (lines_of text) ++ rest_of text ≡ text
  pub ended : (text_of [] ≡ []) × ((l : List ℕ) (ls : List (List ℕ)) → text_of (l ∷ ls) ≡ l ++ (10 ∷ text_of ls))
  -- no other line feed is in it
  pub lines : (l : List ℕ) → Memᴰ l (lines_of text) → Memᴰ 10 l → ⊥
  pub rest : Memᴰ 10 (rest_of text) → ⊥

-- "pairs of digits 0-9 A-F", and request [1]: "A digit's value now holds for a-f as for A-F." Characters by their numbers in ASCII.
pub record DigitValues : Type 0 where
  pub decimal : (v : ℕ) → v < 10 → digit_value (48 + v) ≡ v
  pub capital : (v : ℕ) → v < 6 → digit_value (65 + v) ≡ 10 + v
  pub small : (v : ℕ) → v < 6 → digit_value (97 + v) ≡ 10 + v
  -- a pair of digits is a byte
  pub none : bytes_of [] ≡ []
  pub pair : (a b : ℕ) (l : List ℕ) → Digit a → Digit b → bytes_of (a ∷ b ∷ l) ≡ (16 * digit_value a + digit_value b) ∷ bytes_of l
  -- a byte that is written has just two digits, which stand for it, and are capitals
  pub two : (b : ℕ) → length (digits_of b) ≡ 2
  pub written : (b : ℕ) → b < 256 → bytes_of (digits_of b) ≡ b ∷ []
  pub capitals : (b c : ℕ) → b < 256 → Memᴰ c (digits_of b) → Decimal c ⊎ Capital c

-- "Numbers are most significant byte first", of any number of bytes: of none 0; with one byte more, 256 times as much and that byte.
pub record NumberValues : Type 0 where
  pub none : number_of [] ≡ 0
  pub more : (bs : List ℕ) (b : ℕ) → number_of (bs ++ (b ∷ [])) ≡ 256 * number_of bs + b

-- So many bytes.
abbrev pub Bytes : ℕ → Type 0
Bytes width = (bs : List ℕ) × (length bs ≡ width)

-- "A box (26 bytes) has low and high of five fields: source address (4 bytes each), destination address (4), source port (2), destination port (2),
-- protocol (1)."
pub record BoxBytes : Type 0 where
  pub source_address : Bytes 4 × Bytes 4
  pub destination_address : Bytes 4 × Bytes 4
  pub source_port : Bytes 2 × Bytes 2
  pub destination_port : Bytes 2 × Bytes 2
  pub protocol : Bytes 1 × Bytes 1

-- The low's bytes, then the high's, before what follows; and the range that they say.
abbrev pub low_high : {width : ℕ} → Bytes width × Bytes width → List ℕ → List ℕ
low_high b rest = b.0.0 ++ (b.1.0 ++ rest)

abbrev pub range_said : {width : ℕ} → Bytes width × Bytes width → Range
range_said b = record { low = number_of b.0.0; high = number_of b.1.0 }

abbrev pub box_then : BoxBytes → List ℕ → List ℕ
box_then b rest =
    low_high b.source_address
    (low_high b.destination_address (low_high b.source_port (low_high b.destination_port (low_high b.protocol rest))))

abbrev pub box_said : BoxBytes → Selector
box_said b =
    range_said b.source_address
    ∷ range_said b.destination_address
    ∷ range_said b.source_port
    ∷ range_said b.destination_port
    ∷ range_said b.protocol
    ∷ []

-- What the bytes of a frame say, one after another.
pub record FrameBytes : Type 0 where
  -- "01 entity, 4 bytes: kind, parent, layer, mask."
  pub entity : (parent layer mask : ℕ)
      → frame_of (1 ∷ parent ∷ layer ∷ mask ∷ []) ≡ a_frame of_entity (record { parent = parent; layer = layer; mask = mask })
  -- "02 cap, 5 bytes: kind, technology, three largest coefficients."
  pub cap : (technology h p c : ℕ)
      → frame_of (2 ∷ technology ∷ h ∷ p ∷ c ∷ []) ≡ a_frame of_cap (record { technology = technology; coefficients = h ∷ p ∷ c ∷ [] })
  -- "03 floor, 4 bytes: kind, three least coefficients."
  pub floor : (h p c : ℕ) → frame_of (3 ∷ h ∷ p ∷ c ∷ []) ≡ a_frame of_floor (h ∷ p ∷ c ∷ [])
  -- "04 filter, 28 bytes: kind, root, box"; "a 29th byte, 0 to drop and 1 to pass; a frame of 28 bytes drops"
  pub filter : (root : ℕ) (b : BoxBytes)
      → frame_of (4 ∷ root ∷ box_then b []) ≡ a_frame of_filter (record { root = root; selector = box_said b; action = 0 })
  pub filter_action : (root action : ℕ) (b : BoxBytes) → action ≤ 1
      → frame_of (4 ∷ root ∷ box_then b (action ∷ [])) ≡ a_frame of_filter (record { root = root; selector = box_said b; action = action })
  -- "05 row, 35 + n bytes: kind, holder .., source s, destination d, technology t, coefficients C (header integrity, payload integrity, confidentiality, a byte
  -- each), box S, n (0 to 8), then G, n gateway roots."
  pub row : (holder source destination technology h p c : ℕ) (b : BoxBytes) (gateways : List ℕ) → length gateways ≤ 8
      → frame_of (5 ∷ holder ∷ source ∷ destination ∷ technology ∷ h ∷ p ∷ c ∷ box_then b (length gateways ∷ gateways))
      ≡ a_frame of_row (record {
        holder = holder;
        source = source;
        destination = destination;
        technology = technology;
        coefficients = h ∷ p ∷ c ∷ [];
        selector = box_said b;
        gateways = gateways;
      })

-- "A root's mask says which technologies it supports, bit t (value 2 to the power t) for technology t; bits 0 and 7 are 0": it adds up some of these values.
pub record MaskValues (mask : ℕ) : Type 0 where
  pub bit : ℕ → ℕ
  pub each : (u : ℕ) → bit u ≤ 1
  pub sum : mask ≡ 2 * bit 1 + 4 * bit 2 + 8 * bit 3 + 16 * bit 4 + 32 * bit 5 + 64 * bit 6

-- "Every text that keeps the table rules of document 01 is accepted", and every other is refused.
pub record Reading : Type 0 where
  pub accepts : (text : List ℕ) (t : Table) → (parse text ≡ returned (table_read t)) ↔ KeepsRules text t
  pub refuses : (text : List ℕ) → ((t : Table) → KeepsRules text t → ⊥) → (number : ℕ) × (line : ℕ) × (parse text ≡ refused_by number line)
  pub cut : (text : List ℕ) → Cut text
  -- what is a line, and what a line's bytes say
  pub digits : DigitValues
  pub numbers : NumberValues
  pub lines : (line : List ℕ) → Decides (not (is_line line)) (NoLine line)
  pub frames : (bs : List ℕ) (f : Frame) → (frame_of bs ≡ f) ↔ SaysFrame bs f
  pub frame_bytes : FrameBytes
  -- "01 entity", "02 cap", "03 floor", "04 filter", "05 row"
  pub kind_bytes : map (λ k. (describe k).byte) (of_entity ∷ of_cap ∷ of_floor ∷ of_filter ∷ of_row ∷ []) ≡ 1 ∷ 2 ∷ 3 ∷ 4 ∷ 5 ∷ []
  -- "Sequence: 1 to 128 entities, six caps for technologies 1 to 6 in order, one floor, 0 to 32 filters, 0 to 64 rows."
  pub sequence : (entities : List Entity) (a b c d e f floor : Coefficients) (filters : List Filter) (rows : List Row)
      → frames_of (record { entities = entities; caps = a ∷ b ∷ c ∷ d ∷ e ∷ f ∷ []; floor = floor; filters = filters; rows = rows })
      ≡ map (a_frame of_entity) entities
      ++ (a_frame of_cap (record { technology = 1; coefficients = a })
      ∷ a_frame of_cap (record { technology = 2; coefficients = b })
      ∷ a_frame of_cap (record { technology = 3; coefficients = c })
      ∷ a_frame of_cap (record { technology = 4; coefficients = d })
      ∷ a_frame of_cap (record { technology = 5; coefficients = e })
      ∷ a_frame of_cap (record { technology = 6; coefficients = f })
      ∷ a_frame of_floor floor
      ∷ (map (a_frame of_filter) filters ++ map (a_frame of_row) rows))
  -- "source address (4 bytes each), destination address (4), source port (2), destination port (2), protocol (1)"
  pub box : box_widths ≡ 4 ∷ 4 ∷ 2 ∷ 2 ∷ 1 ∷ []
  -- request [7]: "0 to drop and 1 to pass"
  pub actions : (dropping ≡ 0) × (passing ≡ 1)
  -- "A root (a network node) has parent FF and layer 0."
  pub root_rule : (e : Entity) → RootRule e ↔ ((e.parent ≡ 255) × (e.layer ≡ 0) × MaskValues e.mask)
  -- "Any other entity has layer 2, 3, 5 or 7, a parent that is an earlier entity of smaller layer, and mask 00."
  pub other_rule : (t : Table) (k : ℕ)
      → OtherRule t k
      ↔ ((((entity_at t k).layer ≡ 2) ⊎ (((entity_at t k).layer ≡ 3) ⊎ (((entity_at t k).layer ≡ 5) ⊎ ((entity_at t k).layer ≡ 7))))
      × ((entity_at t k).parent < k) × ((entity_at t (entity_at t k).parent).layer < (entity_at t k).layer) × ((entity_at t k).mask ≡ 0))
  -- a row's holder and gateways are roots, its ends entities, its technology at most 6, no low above its high, and NULL has no coefficient above 0
  pub row_rule : (t : Table) (q : Row) → RowRule t q
      → IsRoot t q.holder × IsEntity t q.source × IsEntity t q.destination × (q.technology ≤ 6)
      × ((g : ℕ) → Memᴰ g q.gateways → IsRoot t g)
      × ((b : Range) → Memᴰ b q.selector → b.low ≤ b.high)
      × (q.technology ≡ 0 → (c : ℕ) → Memᴰ c q.coefficients → c ≡ 0)
  -- a filter's root is one, and no low is above its high
  pub filter_rule : (t : Table) (f : Filter) → FilterRule t f → IsRoot t f.root × ((b : Range) → Memᴰ b f.selector → b.low ≤ b.high)
  -- "The first faulty line counts (lines from 1), there the least number", each number as the table of returns says it
  pub first_fault : (text : List ℕ) (number line : ℕ) → (parse text ≡ refused_by number line) ↔ FirstFault text number line
  -- the numbers of a text's faults, and a line of two digits
  pub refusal_numbers : (text : List ℕ) (number line : ℕ) → parse text ≡ refused_by number line → (1 ≤ number) × (number ≤ 7) × (line < 256)
  -- a text that keeps the rules has no fault, at whatever line
  pub faultless : (text : List ℕ) (t : Table) → KeepsRules text t → (k n : ℕ) → FaultAt text k n → ⊥
