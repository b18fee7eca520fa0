-- An answer that is right is the search's: the least packet is unique, for any number of fields. And a field whose low is above its high is
-- searched as if it had its low alone.
-- Assumes nothing.
use Prim.Native.Nat.{ℕ, suc, ◌-◌, max}
use mathlib.Core.Path.{◌≡◌, refl, sym, ap, subst, ◌∙◌}
use mathlib.Core.List.{List, [], ◌∷◌, map}
use native.Mathlib.Decide.{dec_lt}
use native.Mathlib.Omega.{arith}
use lib.ListN.{length}
use Rattle.policy.specs.Model.{Range, Selector}
use Rattle.policy.specs.Wellformed.{Ordered}
use Rattle.covers.specs.Least.{SearchResult, none, Right}
use Rattle.covers.specs.Views.{NextValue, comes, end}
use Rattle.search.specs.Search.{narrow, next, or_later, onward, tries, from, search}
use Rattle.covers.proofs.Laws.Least.{EachSized, right_unique}
use Rattle.search.proofs.Laws.Right.{search_right}
use Rattle.search.proofs.Laws.Walks.{risen}

-- ---- rows whose ranges need not be ordered

risen_ordered : (s : Selector) → Ordered (map risen s)
risen_ordered [] = tt
risen_ordered (r ∷ s) = (omega arith, risen_ordered s)

risen_length : (s : Selector) → length (map risen s) ≡ length s
risen_length [] = refl
risen_length (r ∷ s) = ap suc (risen_length s)

-- With one candidate there is no later one.
single : (rest : List Selector → SearchResult) (v high : ℕ) (bs : List Selector) → tries rest 1 v high bs ≡ or_later v (rest (narrow v bs)) none
unfolding tries
single rest v high bs = go (next v high bs)
  where
    go : (t : NextValue) → or_later v (rest (narrow v bs)) (onward t (λ w. none)) ≡ or_later v (rest (narrow v bs)) none
    go (comes w) = refl
    go end = refl

from_risen : (rest : List Selector → SearchResult) (r : Range) (bs : List Selector)
    → from rest r.low r.high bs ≡ from rest r.low (max r.low r.high) bs
unfolding from
from_risen rest r bs = elim (dec_lt r.high r.low) [
  | yes h ↦
      let a : r.high - r.low ≡ 0 = omega arith in
      let b : max r.low r.high - r.low ≡ 0 = omega arith in
      ap (λ (n : ℕ). tries rest (suc n) r.low r.high bs) a ∙ single rest r.low r.high bs
      ∙ sym (ap (λ (n : ℕ). tries rest (suc n) r.low (max r.low r.high) bs) b ∙ single rest r.low (max r.low r.high) bs)
  | no h ↦ let e : r.high ≡ max r.low r.high = omega arith in ap (λ (n : ℕ). tries rest (suc (n - r.low)) r.low n bs) e
]

search_risen : (s : Selector) (bs : List Selector) → search s bs ≡ search (map risen s) bs
unfolding search
search_risen [] bs = refl
search_risen (r ∷ s) bs =
    from_risen (λ cs. search s cs) r bs ∙ ap (λ (f : List Selector → SearchResult). from f r.low (max r.low r.high) bs) (λ i cs. search_risen s cs i)

-- The search's answer is right of the row that is searched, and so it is the only one.
pub searched_right : (s : Selector) (bs : List Selector) → EachSized (length s) bs → Right (map risen s) bs (search s bs)
searched_right s bs n =
    subst (Right (map risen s) bs) (sym (search_risen s bs)) (search_right (map risen s) bs (risen_ordered s) (rw (risen_length s) n))

pub search_agrees : (s : Selector) (bs : List Selector) (o : SearchResult) → EachSized (length s) bs → Right (map risen s) bs o → o ≡ search s bs
search_agrees s bs o n h = right_unique (map risen s) bs o (search s bs) h (searched_right s bs n)
