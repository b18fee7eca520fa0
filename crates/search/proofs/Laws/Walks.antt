-- The values of one field, with any number of fields after it: what came to nothing has a cover, which goes on to the least high of its boxes; the
-- covers of the values together cover the field; and what is found where all before it is covered is the least.
-- Assumes nothing.
use Prim.Native.Nat.{ℕ, suc, ◌+◌, ◌-◌, ◌≤◌, ◌<◌, min, max}
use mathlib.Core.Path.{◌≡◌, refl}
use mathlib.Core.Bool.{Bool, true, false}
use mathlib.Core.List.{[], ◌∷◌}
use native.Mathlib.Decide.{dec_lt}
use native.Mathlib.Omega.{arith}
use borrow.Author.Tests.{ltb-true, ltb-false}
use lib.Dec.{ltb}
use Rattle.std.specs.Prelude.{Option, Some, None}
use Rattle.base.specs.Truths.{pick}
use Rattle.policy.specs.Model.{Range, Selector, Packet}
use Rattle.relations.specs.Ranges.{Within}
use Rattle.relations.specs.Selectors.{Holds}
use Rattle.relations.proofs.Laws.Selectors.{holds_first, holds_rest, not_shorter}
use Rattle.covers.specs.Sets.{Narrowed, HeldBy}
use Rattle.covers.specs.Views.{NextValue, comes, end}
use Rattle.covers.proofs.Laws.Sets.{more_held, wider, narrower}
use Rattle.search.specs.Covers.{past, opening}
use Rattle.search.proofs.Laws.Right.{LeastOf, least_here}

-- The range that is searched: its low is tried with no test that it is at most the high.
abbrev pub risen : Range → Range
risen r = record { low = r.low; high = max r.low r.high }

-- How many candidates there can be still.
abbrev pub left : ℕ → NextValue → ℕ
left high (comes v) = suc (high - v)
left high end = 0

-- The range r of a row, and the ranges of the fields after it. Where the next candidate is v, the boxes K hold each packet below it; where there is
-- none, each packet.
abbrev pub Held : (ℕ → Selector) → Range → Selector → (ℕ → Type 0) → NextValue → Type 0
Held box r rs K (comes v) = Within (risen r) v × ((x : ℕ) (q : Packet) → r.low ≤ x → x < v → Holds rs q → HeldBy box K (x ∷ q))
Held box r rs K end = (q : Packet) → Holds (risen r ∷ rs) q → HeldBy box K q

-- The boxes K are of P, which hold the packet so far.
pub record Walked (box : ℕ → Selector) (r : Range) (rs : Selector) (P K : ℕ → Type 0) (n : NextValue) : Type 0 where
  pub part : (k : ℕ) → K k → P k
  pub held : Held box r rs K n

-- A field begins with no cover, or is done by one that is known.
pub walked_start : (box : ℕ → Selector) (r : Range) (rs : Selector) {P K : ℕ → Type 0} (known : Option ℕ) → ((k : ℕ) → K k → P k)
    → ((c : ℕ) → known ≡ Some c → (q : Packet) → Holds (risen r ∷ rs) q → HeldBy box K q) → Walked box r rs P K (opening known r.low)
walked_start box r rs None f h = record { part = f; held = (record { low = omega arith; high = omega arith }, λ x q a b. absurd (omega arith)) }
walked_start box r rs (Some c) f h = record { part = f; held = h c refl }

-- The boxes are a first field and the rest, and so is the row.
module _ (box rest : ℕ → Selector) (head : ℕ → Range) (split : (k : ℕ) → box k ≡ head k ∷ rest k) (r : Range) (rs : Selector) where
  -- The value v comes to nothing by the boxes L, none of which has a high below m.
  module _ {P K Q L M : ℕ → Type 0} (v m : ℕ) (w : Walked box r rs P K (comes v)) (n : Narrowed head P v Q) (part : (k : ℕ) → L k → Q k)
      (covers : (q : Packet) → Holds rs q → HeldBy rest L q) (each : (k : ℕ) → L k → m ≤ (head k).high) (low : min v r.high ≤ m)
      (old : (k : ℕ) → K k → M k) (new : (k : ℕ) → L k → M k) (within : (k : ℕ) → M k → P k) where
    -- The packets with a value up to m, and those with v itself.
    upto : (x : ℕ) (q : Packet) → r.low ≤ x → x ≤ max v m → Holds rs q → HeldBy box M (x ∷ q)
    upto x q a b h = elim (dec_lt x v) [
      | yes l ↦ more_held box (x ∷ q) old (w.held.1 x q a l h)
      | no l ↦
          wider box rest head split x q new
          (λ k c. let i = n.holds k (part k c) in let j = each k c in record { low = omega (arith, i.low); high = omega (arith, i.high, j) })
          (covers q h)
    ]

    whole : r.high ≤ m → (q : Packet) → Holds (risen r ∷ rs) q → HeldBy box M q
    whole l [] h = absurd (not_shorter (risen r) rs h)
    whole l (x ∷ q) h =
        let i = w.held.0.low in
        let j = holds_first (risen r) rs x q h in
        upto x q j.low (omega (arith, j.high)) (holds_rest (risen r) rs x q h)

    pub walked_next : Walked box r rs P M (past m r.high)
    walked_next = record { part = within; held = go (ltb m r.high) refl }
      where
        go : (t : Bool) → ltb m r.high ≡ t → Held box r rs M (pick t (comes (m + 1)) end)
        go true e =
            let h = ltb-true m r.high e in
            let i = w.held.0.low in
            (record { low = omega arith; high = omega arith }, λ x q a b. upto x q a (omega arith))
        go false e = whole (ltb-false m r.high e)

  -- What is found with v in this field is the least of all.
  pub walked_found : {P K Q : ℕ → Type 0} (v : ℕ) (p : Packet) → Walked box r rs P K (comes v) → Narrowed head P v Q → LeastOf (HeldBy rest Q) rs p
      → LeastOf (HeldBy box P) (risen r ∷ rs) (v ∷ p)
  walked_found v p w n m =
      least_here (HeldBy box _) (HeldBy rest _) (risen r) rs v p w.held.0 (λ q. narrower box rest head split v q n)
      (λ q. wider box rest head split v q n.part n.holds)
      (λ x q a b h. more_held box (x ∷ q) w.part (w.held.1 x q a b h)) m

-- The candidates get fewer.
pub left_falls : (v m high : ℕ) → min v high ≤ m → left high (past m high) < left high (comes v)
left_falls v m high l = go (ltb m high) refl
  where
    go : (t : Bool) → ltb m high ≡ t → left high (pick t (comes (m + 1)) end) < suc (high - v)
    go true e = let h = ltb-true m high e in omega arith
    go false e = omega arith
