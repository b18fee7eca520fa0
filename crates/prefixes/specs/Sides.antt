-- Document 02, [5]: "For a row and a side (0 source, 1 destination), .. the range's prefixes".
-- Assumes nothing.
use Rattle.std.specs.Prelude.{ℕ, ◌≡◌, Bool, false, leb, get_or, Result, Ok, Err}
use Rattle.policy.specs.Model.{Range, Selector, no_range}
use Rattle.prefixes.specs.declared.side.Side.{Side}
use Rattle.prefixes.specs.declared.side.Side.TheVariants.{Source, Destination}
use Rattle.prefixes.specs.declared.side.NoSide.{NoSide}

-- Whether it is one of the two sides.
abbrev pub is_side : ℕ → Bool
is_side side = leb side 1

-- The addresses of a side: a selector's first field is the source address, its second the destination address.
abbrev pub side_of : ℕ → Selector → Range
side_of side s = get_or s side no_range

-- ---- the code's enum

-- "0 source, 1 destination"
abbrev pub number_of : Side → ℕ
number_of Source = 0
number_of Destination = 1

-- The result is the side of this number, or an error where there is none.
abbrev pub Names : ℕ → Result Side NoSide → Type 0
Names n (Ok side) = n ≡ number_of side
Names n (Err e) = is_side n ≡ false
