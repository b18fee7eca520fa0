-- Boxes of one size; and the least packet that no box claims is unique, for any number of fields.
-- Assumes nothing.
use Prim.Native.Nat.{ℕ}
use mathlib.Core.Path.{◌≡◌, refl, ap}
use mathlib.Core.Logic.{inl, inr}
use mathlib.Core.List.Memᴰ
use mathlib.Core.List.{List, [], ◌∷◌, Memᴰ}
use native.Mathlib.Omega.{arith}
use lib.ListN.{length}
use Rattle.policy.specs.Model.{Selector, Packet}
use Rattle.covers.specs.Least.{SearchResult, found, none, ◌≤ₚ◌, done, less, same, Right}

-- ---- boxes of one size

-- Each box has n fields.
abbrev pub EachSized : ℕ → List Selector → Type 0
EachSized n [] = Unit {0}
EachSized n (b ∷ bs) = (length b ≡ n) × EachSized n bs

-- Boxes that each have n fields, told one by one.
pub sized_listed : (n : ℕ) (bs : List Selector) → ((b : Selector) → Memᴰ b bs → length b ≡ n) → EachSized n bs
sized_listed n [] h = tt
sized_listed n (b ∷ bs) h = (h b (Memᴰ.head refl), sized_listed n bs (λ c m. h c (Memᴰ.tail m)))

pub sized_member : (n : ℕ) (bs : List Selector) → EachSized n bs → (b : Selector) → Memᴰ b bs → length b ≡ n
sized_member n [] s b m = absurd (Memᴰ.not-nil m)
sized_member n (c ∷ bs) s b m = elim (Memᴰ.cases_cons m) [ inl e ↦ rw e s.0 | inr k ↦ sized_member n bs s.1 b k ]

-- ---- one right answer

-- Two packets of which each is at most the other are the same.
pub antisym : {p q : Packet} → p ≤ₚ q → q ≤ₚ p → p ≡ q
antisym done done = refl
antisym (less h) (less k) = absurd (omega arith)
antisym (less h) (same e k) = absurd (omega arith)
antisym (same e h) (less k) = absurd (omega arith)
antisym (same {x} {y} {p} {q} e h) (same d k) = λ i. e i ∷ antisym h k i

-- So there is one right answer.
pub right_unique : (s : Selector) (bs : List Selector) (a b : SearchResult) → Right s bs a → Right s bs b → a ≡ b
right_unique s bs (found p) (found q) m n =
    ap found (antisym (m.least q n.inside n.unclaimed) (n.least p m.inside m.unclaimed))
right_unique s bs (found p) none m n = absurd (m.unclaimed (n p m.inside))
right_unique s bs none (found q) m n = absurd (n.unclaimed (m q n.inside))
right_unique s bs none none m n = refl
