-- Laws of tests on lists of roots: one element at a time, and with one more at the end.
-- Assumes nothing.
use Prim.Native.Nat.{ℕ, suc, ◌+◌, ◌-◌, ◌≤◌, ◌<◌}
use mathlib.Core.Path.{◌≡◌, refl, sym}
use mathlib.Core.Bool.{Bool, true, false, ◌&&◌, ◌||◌, or-false, or_comm}
use mathlib.Core.List.{List, [], ◌∷◌, ◌++◌}
use native.Mathlib.Numerals.{add-one}
use native.Mathlib.Omega.{arith}
use lib.Dec.{eqb}
use lib.ListN.{length, get_or, take, drop}
use lib.Seq.{take-length, drop-cons}
use borrow.Author.Tests.{eq-eqb, ne_eqb}
use Rattle.base.specs.Lists.{among}
use Rattle.base.proofs.Laws.Decides.{decides_fails, decides_eqb, decides_as}
use Rattle.base.proofs.Laws.Firsts.{decides_once}
use Rattle.base.proofs.Laws.Members.{among_decides, among_nil, among_cons, among_last, at_member}
use Rattle.kinds.specs.Tests.{in_order, twice, empty}
use Rattle.kinds.proofs.Laws.Lists.{in_order_decides}

-- What stands at a later place is among the numbers: where b is not, nothing is in order with it.
later_found : (a b : ℕ) (l : List ℕ) (t : Bool) → among b l ≡ t → (t || in_order a b l) ≡ t
later_found a b l true e = refl
later_found a b l false e =
    decides_fails (in_order a b l) (in_order_decides a b l)
    (λ h. (among_decides b l).no e (rw h.second at (at_member 0 l h.later h.last)))

eqb_turned : (x y : ℕ) → eqb x y ≡ eqb y x
eqb_turned x y = decides_once _ _ (decides_eqb x y) (decides_as sym sym (decides_eqb y x))

-- One element at a time.
pub in_order_nil : (a b : ℕ) → in_order a b [] ≡ false
unfolding in_order
in_order_nil a b = refl

pub in_order_more : (a b x : ℕ) (xs : List ℕ) → in_order a b (x ∷ xs) ≡ ((eqb a x && among b xs) || in_order a b xs)
unfolding in_order
in_order_more a b x xs = refl

pub twice_nil : twice [] ≡ false
unfolding twice
twice_nil = refl

pub twice_more : (x : ℕ) (xs : List ℕ) → twice (x ∷ xs) ≡ (among x xs || twice xs)
unfolding twice
twice_more x xs = refl

pub twice_here : (x : ℕ) (l : List ℕ) → among x l ≡ true → twice (x ∷ l) ≡ true
twice_here x l e = rw (twice_more x l, e)

pub twice_later : (x : ℕ) (l : List ℕ) → among x l ≡ false → twice (x ∷ l) ≡ twice l
twice_later x l e = rw (twice_more x l, e)

-- A list from its first element on, as a slice's pattern takes it apart; and from a place on.
pub first_and_later : (l : List ℕ) → 1 ≤ length l → l ≡ get_or l 0 0 ∷ take (length l - 1) (drop 1 l)
first_and_later [] h = absurd (omega arith)
first_and_later (x ∷ l) h = let e : suc (length l) - 1 ≡ length l = omega arith in rw (e, take-length l)

pub from_place : (l : List ℕ) (k : ℕ) → k < length l → drop k l ≡ get_or l k 0 ∷ drop (k + 1) l
from_place l k h = rw (add-one k) (drop-cons l k 0 h)

pub among_here : (x y : ℕ) (l : List ℕ) → y ≡ x → among x (y ∷ l) ≡ true
among_here x y l e = rw (among_cons x y l, eq-eqb x y (sym e))

pub among_later : (x y : ℕ) (l : List ℕ) → (y ≡ x → ⊥) → among x (y ∷ l) ≡ among x l
among_later x y l e = rw (among_cons x y l, ne_eqb x y (λ q. e (sym q)))

-- Whether b stands in the list: anywhere where an a has stood before it, else after an a.
abbrev pub after : Bool → ℕ → ℕ → List ℕ → Bool
after true a b l = among b l
after false a b l = in_order a b l

pub after_last : (begun : Bool) (a b : ℕ) → after begun a b [] ≡ false
after_last true a b = among_nil b
after_last false a b = in_order_nil a b

pub after_found : (begun : Bool) (a b x : ℕ) (l : List ℕ) → begun ≡ true → x ≡ b → after begun a b (x ∷ l) ≡ true
after_found begun a b x l e f = rw e (among_here b x l f)

pub after_next : (begun : Bool) (a b x : ℕ) (l : List ℕ) → (begun && eqb x b) ≡ false → after begun a b (x ∷ l) ≡ after (begun || eqb x a) a b l
after_next true a b x l e = rw (among_cons b x l, eqb_turned b x, e)
after_next false a b x l e = rw (in_order_more a b x l, eqb_turned a x) (go (eqb x a))
  where
    go : (t : Bool) → ((t && among b l) || in_order a b l) ≡ after t a b l
    go true = later_found a b l (among b l) refl
    go false = refl

-- There are none where none are counted.
pub empty_length : (xs : List ℕ) → eqb (length xs) 0 ≡ empty xs
empty_length [] = refl
empty_length (x ∷ xs) = ne_eqb (suc (length xs)) 0 (λ e. omega arith)

exchanged : (p q r s : Bool) → ((p || q) || (r || s)) ≡ ((p || r) || (q || s))
exchanged true q r s = refl
exchanged false true true s = refl
exchanged false true false s = refl
exchanged false false r s = refl

-- A list with one more at its end.
twice_last : (xs : List ℕ) (y : ℕ) → twice (xs ++ (y ∷ [])) ≡ (twice xs || among y xs)
unfolding twice
twice_last [] y = or-false (among y [])
twice_last (x ∷ xs) y =
    rw (among_last x xs y, twice_last xs y, among_cons y x xs, eqb_turned y x)
    (exchanged (among x xs) (eqb x y) (twice xs) (among y xs))

-- A list between its ends.
pub twice_between : (a : ℕ) (xs : List ℕ) (b : ℕ)
    → twice (a ∷ (xs ++ (b ∷ []))) ≡ ((eqb a b || among a xs) || (among b xs || twice xs))
unfolding twice
twice_between a xs b =
    rw (among_last a xs b, twice_last xs b, or_comm (among a xs) (eqb a b), or_comm (twice xs) (among b xs))
