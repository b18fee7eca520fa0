-- What is to be found: the least packet of a row that is in no box, for any number of fields.
-- Assumes nothing.
use Rattle.std.specs.Prelude.{ℕ, ◌<◌, ◌≡◌}
use mathlib.Core.List.{List, [], ◌∷◌, Memᴰ}
use Rattle.policy.specs.Model.{Selector, Packet}
use Rattle.relations.specs.Selectors.{Holds}

-- The answer: a packet, or that there is none.
pub data SearchResult : Type 0 where
  found : Packet → SearchResult
  none : SearchResult

-- "compared field by field in this order": p is q, or smaller in the first field in which they differ.
infix 40 ◌≤ₚ◌
pub data ◌≤ₚ◌ : Packet → Packet → Type 0 where
  done : [] ≤ₚ []
  less : {x y : ℕ} {p q : Packet} → x < y → (x ∷ p) ≤ₚ (y ∷ q)
  same : {x y : ℕ} {p q : Packet} → x ≡ y → p ≤ₚ q → (x ∷ p) ≤ₚ (y ∷ q)

-- Some box of the list has the packet.
pub record Claimed (bs : List Selector) (p : Packet) : Type 0 where
  pub box : Selector
  pub listed : Memᴰ box bs
  pub holds : Holds box p

-- p is the least packet of s that no box claims.
pub record Least (s : Selector) (bs : List Selector) (p : Packet) : Type 0 where
  pub inside : Holds s p
  pub unclaimed : Claimed bs p → ⊥
  pub least : (q : Packet) → Holds s q → (Claimed bs q → ⊥) → p ≤ₚ q

-- An answer is right: a packet found is the least unclaimed one, and where none is found each packet of s is claimed.
abbrev pub Right : Selector → List Selector → SearchResult → Type 0
Right s bs (found p) = Least s bs p
Right s bs none = (q : Packet) → Holds s q → Claimed bs q
