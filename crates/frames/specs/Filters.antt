-- Document 01, "The table text", and document 02, [7]: filters. `parents` are those of the entities read so far, by number.
-- Assumes nothing.
use Rattle.std.specs.Prelude.{ℕ, ◌+◌, ◌≤◌, ◌≡◌, Bool, ◌&&◌, ◌||◌, List, [], ◌∷◌, ◌++◌, map, eqb, leb, ltb, length, get_or}
use Rattle.base.specs.Checks.{Check, or_else}
use Rattle.policy.specs.Limits.{most_filters}
use Rattle.policy.specs.Model.{Filter, dropping, passing, parents_of}
use Rattle.policy.specs.Views.{with_filter}
use Rattle.relations.specs.Selectors.{inhabited}
use Rattle.frames.specs.Refusals.{bad_number, empty_range}
use Rattle.frames.specs.Faults.{a_root, a_range}
use Rattle.frames.specs.Progress.{FrameKind}
use Rattle.frames.specs.Parts.{selector_from, SaysBox, box_bytes, box_widths}
use Rattle.frames.specs.Numbers.{is_root}

-- "04 filter, 28 bytes: kind, root, box." "A filter frame may have a 29th byte, 0 to drop and 1 to pass; a frame of 28 bytes drops."
-- The place of that byte.
abbrev pub action_place : ℕ
action_place = 1 + box_bytes box_widths

abbrev pub filter_length : List ℕ → Bool
filter_length bs = (eqb (length bs) action_place || eqb (length bs) (action_place + 1)) && leb (get_or bs action_place 0) passing

abbrev pub filter_from : List ℕ → Filter
filter_from bs = record { root = get_or bs 0 0; selector = selector_from 1 box_widths bs; action = get_or bs action_place 0 }

-- What stands after the box says the action: nothing, or one byte.
abbrev pub SaysAction : List ℕ → ℕ → Type 0
SaysAction [] action = action ≡ dropping
SaysAction (b ∷ []) action = (b ≡ action) × (action ≤ passing)
SaysAction (b ∷ c ∷ bs) action = ⊥

-- The bytes say the filter.
pub record SaysFilter (bs : List ℕ) (f : Filter) : Type 0 where
  pub box : List ℕ
  pub selector : SaysBox box_widths box f.selector
  pub last : List ℕ
  pub action : SaysAction last f.action
  pub bytes : bs ≡ f.root ∷ (box ++ last)

-- "0 to 32 filters", after the floor and before the rows.
abbrev pub filter_place : (floored rows filters : ℕ) → Bool
filter_place floored rows filters = eqb floored 1 && (eqb rows 0 && ltb filters most_filters)

-- "filter root .. isn't a root"; "a low above its high". A box in which some packet is has no low above its high.
abbrev pub filter_content : List ℕ → Filter → List Check
filter_content parents f =
    or_else (is_root parents f.root) bad_number ∷ or_else (inhabited f.selector) empty_range ∷ []

abbrev pub filter_kind : FrameKind Filter
filter_kind =
    record {
      byte = 4;
      long = filter_length;
      value = filter_from;
      says = SaysFilter;
      placed = λ p f. filter_place p.floored (length p.table.rows) (length p.table.filters);
      content = λ t f. filter_content (parents_of t) f;
      judged = λ f. a_root f.root ∷ map a_range f.selector;
      grown = λ f p. record { table = with_filter f p.table; floored = p.floored };
    }
