-- Document 02, [8], and the mesh of source document 002: "cut a row's box before each low and after each high of the earlier boxes that could cover it, and
-- examine the least packet of each cell." For any number of fields.
-- Assumes nothing.
use Rattle.std.specs.Prelude.{ℕ, ◌+◌, ◌-◌, Bool, true, false, ◌||◌, List, [], ◌∷◌, ◌++◌, map, eqb, ltb, get_or, drop}
use Rattle.base.specs.Truths.{pick}
use Rattle.policy.specs.Model.{Range, Selector, Packet, no_range}
use Rattle.relations.specs.Ranges.{within}
use Rattle.relations.specs.Selectors.{lows, holds}
use Rattle.covers.specs.Least.{SearchResult, found, none}

-- ---- one field

-- x in its place among ascending numbers, once.
abbrev pub placed : ℕ → List ℕ → List ℕ
placed x [] = x ∷ []
placed x (y ∷ l) = pick (ltb x y) (x ∷ y ∷ l) (pick (eqb x y) (y ∷ l) (y ∷ placed x l))

-- A cut before x, where x is in the row's range.
abbrev pub cut_before : Range → ℕ → List ℕ → List ℕ
cut_before r x l = pick (within r x) (placed x l) l

-- The numbers of the row's range r before which it is cut by the ranges of the boxes, ascending: its own low, which begins it, each low of a box, and the
-- number after each high.
unfoldable pub cuts : Range → List Range → List ℕ
cuts r [] = r.low ∷ []
cuts r (q ∷ qs) = cut_before r q.low (cut_before r (q.high + 1) (cuts r qs))

-- What lies between two cuts, and from the last one on.
abbrev pub intervals : ℕ → List ℕ → List Range
intervals high [] = []
intervals high (x ∷ []) = record { low = x; high = high } ∷ []
intervals high (x ∷ y ∷ l) = record { low = x; high = y - 1 } ∷ intervals high (y ∷ l)

-- ---- all fields

-- The boxes' first fields, and what is left of the boxes past them.
abbrev pub firsts : List Selector → List Range
firsts bs = map (λ b. get_or b 0 no_range) bs

abbrev pub rests : List Selector → List Selector
rests bs = map (drop 1) bs

-- Each interval before each of the cells of the further fields.
abbrev pub each : List Range → List Selector → List Selector
each [] cs = []
each (v ∷ vs) cs = map (λ c. v ∷ c) cs ++ each vs cs

-- The cells into which the boxes cut the row s: an interval of each field, those of the last field changing soonest.
unfoldable pub cells : Selector → List Selector → List Selector
cells [] bs = [] ∷ []
cells (r ∷ s) bs = each (intervals r.high (cuts r (firsts bs))) (cells s (rests bs))

-- Whether a box has the packet.
abbrev pub claimed : List Selector → Packet → Bool
claimed [] p = false
claimed (b ∷ bs) p = holds b p || claimed bs p

-- The least packet of the first cell whose least packet is in no box.
unfoldable pub first_free : List Selector → List Selector → SearchResult
first_free bs [] = none
first_free bs (c ∷ cs) = elim (claimed bs (lows c)) [ true ↦ first_free bs cs | false ↦ found (lows c) ]

unfoldable pub mesh : Selector → List Selector → SearchResult
mesh s bs = first_free bs (cells s bs)
