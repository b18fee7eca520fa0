-- Cells by the numbers of their intervals, an interval of each field, and blocks of cells: from `lo` on, up to `hi` and without it, in each field.
-- Assumes nothing.
use Rattle.std.specs.Prelude.{ℕ, ◌+◌, ◌-◌, ◌/◌, ◌≤◌, ◌<◌, ◌≡◌, ◌↔◌, ◌⊎◌, List, length, get_or, Option, Some, None}
use Rattle.std.specs.Int.Bits.{bit_and}
use Rattle.base.specs.Lists.{tabulate}
use Rattle.policy.specs.Limits.{field_count}
use Rattle.policy.specs.Model.{Packet}
use Rattle.covers.specs.Sets.{In}
use Rattle.mesh.specs.Views.{cuts_of, most_cuts, set_at}
use Rattle.mesh.specs.declared.Mesh.{Mesh}

-- The interval of the cell in field f.
abbrev pub at : List ℕ → ℕ → ℕ
at c f = get_or c f 0

-- The least packet of a cell of a mesh: the cut that begins its interval, in each field.
abbrev pub least_of : (m : Mesh) (c : List ℕ) → Packet
least_of m c = tabulate (λ f. get_or (cuts_of m f) (at c f) 0) field_count

-- Its intervals are there.
abbrev pub HasCuts : (m : Mesh) (c : List ℕ) → Type 0
HasCuts m c = (f : ℕ) → f < field_count → at c f < length (cuts_of m f)

-- The box at place k has the cell; and no box has it.
abbrev pub Claims : (sets : List (List ℕ)) (c : List ℕ) (k : ℕ) → Type 0
Claims sets c k = (f : ℕ) → f < field_count → In (set_at sets f (at c f)) k

abbrev pub Free : (sets : List (List ℕ)) (c : List ℕ) → Type 0
Free sets c = (k : ℕ) → Claims sets c k → ⊥

-- Each interval of the cell has a set.
abbrev pub HasSets : List ℕ → Type 0
HasSets c = (f : ℕ) → f < field_count → at c f < most_cuts

-- A set of the boxes that have the cell.
abbrev pub Claiming : (sets : List (List ℕ)) (c : List ℕ) (set : ℕ) → Type 0
Claiming sets c set = (k : ℕ) → In set k ↔ Claims sets c k

-- The cell is in the block.
abbrev pub Inside : (lo hi c : List ℕ) → Type 0
Inside lo hi c = (f : ℕ) → f < field_count → (at lo f ≤ at c f) × (at c f < at hi f)

-- It is a block, and its intervals have sets; and it has a cell.
abbrev pub IsBlock : (lo hi : List ℕ) → Type 0
IsBlock lo hi = (f : ℕ) → f < field_count → (at lo f ≤ at hi f) × (at hi f ≤ most_cuts)

abbrev pub HasCell : (lo hi : List ℕ) → Type 0
HasCell lo hi = (f : ℕ) → f < field_count → at lo f < at hi f

-- c is in the middle of lo and hi.
abbrev pub Middle : (lo hi c : List ℕ) → Type 0
Middle lo hi c = (f : ℕ) → f < field_count → at c f ≡ at lo f + (at hi f - at lo f) / 2

-- In each field there is an interval before hi, and each has a set.
abbrev pub Bounded : List ℕ → Type 0
Bounded hi = (f : ℕ) → f < field_count → (0 < at hi f) × (at hi f ≤ most_cuts)

-- c is smaller than d in the first field in which they differ.
pub record Earlier (c d : List ℕ) : Type 0 where
  pub field : ℕ
  pub known : field < field_count
  pub less : at c field < at d field
  pub same : (f : ℕ) → f < field → at c f ≡ at d f

-- c is earlier than the best cell so far, as every cell is where there is none.
abbrev pub Before : (c : List ℕ) (best : Option (List ℕ)) → Type 0
Before c (Some d) = Earlier c d
Before c None = Unit {0}

-- r is a cell of the block that is free, and earlier than `best`.
pub record Better (sets : List (List ℕ)) (lo hi : List ℕ) (best r : Option (List ℕ)) : Type 0 where
  pub cell : List ℕ
  pub is : r ≡ Some cell
  pub inside : Inside lo hi cell
  pub free : Free sets cell
  pub before : Before cell best

-- r is the first cell of the block that is free, if it is earlier than `best`, else `best`.
pub record First (sets : List (List ℕ)) (lo hi : List ℕ) (best r : Option (List ℕ)) : Type 0 where
  pub one : (r ≡ best) ⊎ Better sets lo hi best r
  pub first : (c : List ℕ) → Inside lo hi c → Free sets c → Before c r → ⊥

-- ---- boxes that go on

-- Some of the boxes.
pub record SomeOf (boxes some : ℕ) : Type 0 where
  pub part : (k : ℕ) → In some k → In boxes k
  pub not_none : some ≡ 0 → ⊥

-- The boxes all have interval i of field f.
abbrev pub AllHave : (sets : List (List ℕ)) (f boxes i : ℕ) → Type 0
AllHave sets f boxes i = bit_and boxes (set_at sets f i) ≡ boxes

-- After interval lo of field f, which they have, the boxes go on to e, and end there if that is before hi.
pub record GoOn (sets : List (List ℕ)) (f lo hi boxes e : ℕ) : Type 0 where
  pub after : lo < e
  pub most : e ≤ hi
  pub have : (i : ℕ) → lo < i → i < e → AllHave sets f boxes i
  pub ends : e < hi → AllHave sets f boxes e → ⊥

-- In the fields from f on the boxes have all intervals of the block, and in the others its first.
pub record Holding (sets : List (List ℕ)) (lo hi : List ℕ) (boxes f : ℕ) : Type 0 where
  pub fields : f ≤ field_count
  pub first : (k : ℕ) → In boxes k → Claims sets lo k
  pub all : (g i : ℕ) → f ≤ g → g < field_count → at lo g ≤ i → i < at hi g → (k : ℕ) → In boxes k → In (set_at sets g i) k
