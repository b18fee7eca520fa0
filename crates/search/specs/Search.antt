-- Document 01, Witness: "searched over the fields". The candidate values of a field, and the search field by field, for any number of fields.
-- Assumes nothing.
use Rattle.std.specs.Prelude.{ℕ, zero, suc, ◌+◌, ◌-◌, ◌&&◌, List, [], ◌∷◌, leb, ltb, get_or, drop}
use Rattle.base.specs.Truths.{pick}
use Rattle.policy.specs.Model.{Range, Selector, no_range}
use Rattle.relations.specs.Ranges.{within}
use Rattle.base.specs.Lists.{passing}
use Rattle.covers.specs.Least.{SearchResult, found, none}
use Rattle.covers.specs.Views.{NextValue, comes, end}

-- A box's first field.
abbrev pub first : Selector → Range
first b = get_or b 0 no_range

-- What the boxes that hold v in their first field ask of the further fields.
abbrev pub narrow : ℕ → List Selector → List Selector
narrow v bs = passing (λ b. within (first b) v) (drop 1) bs

-- The lesser of m and the high h, where h is not below v.
abbrev pub lesser : ℕ → ℕ → ℕ → ℕ
lesser v h m = pick (leb v h && ltb h m) h m

-- The least of m and the highs, not below v, of the boxes' first fields.
abbrev pub least : ℕ → ℕ → List Selector → ℕ
least v m [] = m
least v m (b ∷ bs) = least v (lesser v (first b).high m) bs

-- The candidate after v: one past the least high of a box, above v and at most the row's high.
abbrev pub next : ℕ → ℕ → List Selector → NextValue
next v high bs = pick (ltb (least v high bs) high) (comes (least v high bs + 1)) end

-- A packet found with v in this field, or else what comes later.
abbrev pub or_later : ℕ → SearchResult → SearchResult → SearchResult
or_later v (found p) later = found (v ∷ p)
or_later v none later = later

-- The further candidates, where there is one.
abbrev pub onward : NextValue → (ℕ → SearchResult) → SearchResult
onward (comes w) k = k w
onward end k = none

-- The candidates from v on, at most n of them: what `rest` finds among the boxes that hold one, or the next.
unfoldable pub tries : (List Selector → SearchResult) → ℕ → ℕ → ℕ → List Selector → SearchResult
tries rest zero v high bs = none
tries rest (suc n) v high bs = or_later v (rest (narrow v bs)) (onward (next v high bs) (λ w. tries rest n w high bs))

unfoldable pub from : (List Selector → SearchResult) → ℕ → ℕ → List Selector → SearchResult
from rest v high bs = tries rest (suc (high - v)) v high bs

-- The first packet of the row's candidates that no box holds: in each field the row's low, or one past the high of a box that still
-- holds the packet so far, ascending, each once.
unfoldable pub search : Selector → List Selector → SearchResult
search [] [] = found []
search [] (b ∷ bs) = none
search (r ∷ rs) bs = from (λ cs. search rs cs) r.low r.high bs
