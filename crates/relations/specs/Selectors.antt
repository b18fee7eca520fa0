-- Document 01, "Relations": selectors (boxes) and packets, for any number of fields; document 02, [2]: "the smallest box holding both boxes".
-- Assumes nothing.
use Rattle.std.specs.Prelude.{Bool, true, ◌&&◌, leb}
use mathlib.Core.List.{List, [], ◌∷◌, map, Memᴰ}
use Rattle.policy.specs.Model.{Selector, Packet}
use Rattle.base.specs.Pairs.{pairwise, Pairwise, combined}
use Rattle.relations.specs.Ranges.{Within, within, contains_range, overlaps_range, inhabited_range, same_range, meet_range, hull_range}

-- The packet of the lows, and that of the highs.
abbrev pub lows : Selector → Packet
lows s = map (λ r. r.low) s

abbrev pub highs : Selector → Packet
highs s = map (λ r. r.high) s

-- No number of p is above that of q in the same field.
abbrev pub none_above : Packet → Packet → Bool
none_above p q = pairwise leb p q

-- The packet is in the selector: each number in its field's range.
unfoldable pub Holds : Selector → Packet → Type 0
Holds s p = Pairwise Within s p

unfoldable pub holds : Selector → Packet → Bool
holds s p = pairwise within s p

-- "S1 ⪰ S2: every packet of S2 is in S1."
abbrev pub Contains : Selector → Selector → Type 0
Contains s1 s2 = (p : Packet) → Holds s2 p → Holds s1 p

unfoldable pub contains : Selector → Selector → Bool
contains s1 s2 = pairwise contains_range s1 s2

-- "Overlap: some packet is in both."
abbrev pub Overlap : Selector → Selector → Type 0
Overlap s1 s2 = (p : Packet) × Holds s1 p × Holds s2 p

unfoldable pub overlaps : Selector → Selector → Bool
overlaps s1 s2 = pairwise overlaps_range s1 s2

-- Whether two selectors are the same.
unfoldable pub same_selector : Selector → Selector → Bool
same_selector s1 s2 = pairwise same_range s1 s2

-- Some packet is in the selector.
abbrev pub Inhabited : Selector → Type 0
Inhabited s = (p : Packet) × Holds s p

unfoldable pub inhabited : Selector → Bool
inhabited [] = true
inhabited (r ∷ s) = inhabited_range r && inhabited s

-- The selector of the packets that are in both, of selectors with as many fields.
unfoldable pub meet : Selector → Selector → Selector
meet s1 s2 = combined meet_range s1 s2

-- "the smallest box holding both boxes", of selectors with as many fields.
unfoldable pub hull : Selector → Selector → Selector
hull s1 s2 = combined hull_range s1 s2

-- The selector of the packets of s that are in all of ss.
unfoldable pub meet_all : Selector → List Selector → Selector
meet_all s [] = s
meet_all s (q ∷ ss) = meet_all (meet s q) ss

-- One packet of s is in all of ss.
abbrev pub MeetAll : Selector → List Selector → Type 0
MeetAll s ss = (p : Packet) × Holds s p × ((q : Selector) → Memᴰ q ss → Holds q p)

-- Source and destination fields exchanged: the fields go in pairs, source first, and a last one alone stays.
unfoldable pub exchange : {A : Type 0} → List A → List A
exchange [] = []
exchange (x ∷ []) = x ∷ []
exchange (x ∷ y ∷ l) = y ∷ x ∷ exchange l
