-- The cuts of a row's fields, the search for the next one, and the sets of boxes that have the intervals between them.
-- Assumes nothing.
use Rattle.std.specs.Prelude.{ℕ, ◌+◌, ◌*◌, ◌≤◌, ◌<◌, min, ◌≡◌, ◌&&◌, List, [], leb, ltb, length, get_or}
use Rattle.base.specs.Truths.{pick}
use Rattle.base.specs.Lists.{tabulate}
use Rattle.policy.specs.Limits.{most_rows, most_selectors, field_count}
use Rattle.policy.specs.Model.{Range}
use Rattle.policy.specs.Views.{range_in, selector_in}
use Rattle.policy.specs.Wellformed.{Ordered}
use Rattle.covers.specs.Sets.{In, field_of, Narrowed}
use Rattle.covers.specs.Views.{NextValue, comes, end}
use Rattle.mesh.specs.Mesh.{cuts}
use Rattle.mesh.specs.declared.Mesh.{Mesh}

-- ---- the next cut

-- The nearer of a cut before x and one that is known.
abbrev pub nearer_of : ℕ → NextValue → NextValue
nearer_of x (comes w) = comes (min w x)
nearer_of x end = comes x

-- The same, where x is past v and not past the end of the range.
abbrev pub with_cut : Range → ℕ → ℕ → NextValue → NextValue
with_cut r v x n = pick (ltb v x && leb x r.high) (nearer_of x n) n

-- n is the next after v of the numbers C.
abbrev pub Nearest : (ℕ → Type 0) → ℕ → NextValue → Type 0
Nearest C v (comes w) = C w × (v < w) × ((x : ℕ) → C x → v < x → w ≤ x)
Nearest C v end = (x : ℕ) → C x → v < x → ⊥

-- ---- the cuts of a field

-- Field f of the boxes of a mesh, and the cuts by them of its row's.
abbrev pub fields_of : Mesh → ℕ → List Range
fields_of m f = tabulate (field_of m.bounds.now m.boxes.at f) m.boxes.count

abbrev pub cuts_of : Mesh → ℕ → List ℕ
cuts_of m f = cuts (range_in m.bounds.now m.row f) (fields_of m f)

-- What is asked of its row, and of a field of it.
pub record AskedRow (m : Mesh) : Type 0 where
  pub row : m.row < most_selectors
  pub ordered : Ordered (selector_in m.bounds.now m.row)

pub record AskedField (m : Mesh) (f : ℕ) : Type 0 where
  pub row : m.row < most_selectors
  pub field : f < field_count
  pub ordered : (range_in m.bounds.now m.row f).low ≤ (range_in m.bounds.now m.row f).high

-- ---- the sets

-- How many cuts a field has at most: its row's low, and two of each box.
abbrev pub most_cuts : ℕ
most_cuts = 2 * most_rows + 1

-- The boxes that have interval i of field f.
abbrev pub set_at : List (List ℕ) → ℕ → ℕ → ℕ
set_at sets f i = get_or (get_or sets f []) i 0

-- The set of each of these intervals of field f is of the boxes that hold its cut.
abbrev pub Marked : (m : Mesh) (f : ℕ) (sets : List ℕ) (n : ℕ) → Type 0
Marked m f sets n =
    (i : ℕ) → i < n → Narrowed (field_of m.bounds.now m.boxes.at f) (λ k. k < m.boxes.count) (get_or (cuts_of m f) i 0) (In (get_or sets i 0))

-- The sets of field f are written, of n intervals, and nothing past them.
pub record Written (m : Mesh) (f : ℕ) (before after : List ℕ) (n : ℕ) : Type 0 where
  pub counted : n ≡ length (cuts_of m f)
  pub marked : Marked m f after n
  pub others : (i : ℕ) → n ≤ i → get_or after i 0 ≡ get_or before i 0
