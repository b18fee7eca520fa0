-- Laws of the loops over the fields of a cell, and over the intervals of a field.
-- Assumes nothing.
use Prim.Native.Nat.{ℕ, zero, suc, ◌+◌, ◌<◌}
use mathlib.Core.Path.{◌≡◌, refl, sym, subst, ◌∙◌}
use mathlib.Core.Bool.{Bool, true, false, ◌&&◌}
use mathlib.Core.Logic.{◌↔◌}
use mathlib.Core.List.{List, [], ◌∷◌}
use native.Mathlib.Omega.{arith}
use borrow.Author.Tests.{eqb-false}
use lib.Bits.{bit_and}
use lib.Dec.{eqb}
use lib.ListN.{length, set}
use Rattle.std.specs.Ordering.{MatchOrdering, nat_cmp, is_lt, is_some_and, partial_ordering_then}
use Rattle.std.specs.Cmp.Lexicographic.{slice_partial_cmp}
use Rattle.std.specs.Prelude.{Option, Some}
use Rattle.std.proofs.Common.{Ordering}
use Rattle.std.specs.declared.cmp.Ordering.TheVariants.{Less, Equal, Greater}
use Rattle.std.proofs.lemmas.Cmp.{ranked}
use Rattle.base.specs.Truths.{pick, Decides}
use Rattle.base.specs.Bits.{marked}
use Rattle.base.proofs.Laws.Bits.{marked_and}
use Rattle.base.proofs.Laws.Firsts.{below_more}
use Rattle.base.proofs.Laws.Decides.{decides_and, decides_itself, decides_holds}
use Rattle.policy.specs.Limits.{field_count}
use Rattle.covers.specs.Sets.{In}
use Rattle.mesh.specs.Views.{set_at}
use Rattle.mesh.specs.Blocks.{at, Earlier, SomeOf}

-- ---- the first field in which two cells differ

-- The cells are the same in the first n fields.
abbrev pub SameBefore : (c d : List ℕ) (n : ℕ) → Type 0
SameBefore c d n = (f : ℕ) → f < n → at c f ≡ at d f

-- In the first n fields c is smaller where they differ first.
record EarlierIn (n : ℕ) (c d : List ℕ) : Type 0 where
  field : ℕ
  known : field < n
  less : at c field < at d field
  same : SameBefore c d field

-- One field before the others: if it is the same, the others decide.
with_first : (n x y : ℕ) (c d : List ℕ) (o : Ordering) (rest : Option Ordering) → MatchOrdering o (x < y) (x ≡ y) (y < x)
    → Decides (is_some_and is_lt rest) (EarlierIn n c d) → Decides (is_some_and is_lt (partial_ordering_then (Some o) rest)) (EarlierIn (suc n) (x ∷ c) (y ∷ d))
with_first n x y c d Less rest h t =
    record { yes = λ q. record { field = 0; known = omega arith; less = h; same = λ f l. absurd (omega arith) }; no = λ q. absurd cc }
with_first n x y c d Equal rest h t = record { yes = λ q. to (t.yes q); no = λ q e. t.no q (of e.field e.known e.less e.same) }
  where
    to : EarlierIn n c d → EarlierIn (suc n) (x ∷ c) (y ∷ d)
    to e = record { field = suc e.field; known = let k = e.known in omega arith; less = e.less; same = each }
      where
        each : SameBefore (x ∷ c) (y ∷ d) (suc e.field)
        each zero l = h
        each (suc f) l = e.same f (omega arith)

    of : (f : ℕ) → f < suc n → at (x ∷ c) f < at (y ∷ d) f → SameBefore (x ∷ c) (y ∷ d) f → EarlierIn n c d
    of zero l k s = absurd (omega arith)
    of (suc f) l k s = record { field = f; known = omega arith; less = k; same = λ g m. s (suc g) (omega arith) }
with_first n x y c d Greater rest h t = record { yes = λ q. absurd cc; no = λ q e. not e.field e.less e.same }
  where
    not : (f : ℕ) → at (x ∷ c) f < at (y ∷ d) f → SameBefore (x ∷ c) (y ∷ d) f → ⊥
    not zero k s = omega arith
    not (suc f) k s = let e = s 0 (omega arith) in omega arith

-- The order of arrays decides which cell is earlier.
earlier_in : (n : ℕ) (c d : List ℕ) → length c ≡ n → length d ≡ n
    → Decides (is_some_and is_lt (slice_partial_cmp (λ x y. Some (nat_cmp x y)) c d)) (EarlierIn n c d)
earlier_in n [] [] k l = record { yes = λ q. absurd cc; no = λ q e. let h = e.known in omega arith }
earlier_in n [] (y ∷ d) k l = absurd (omega arith)
earlier_in n (x ∷ c) [] k l = absurd (omega arith)
earlier_in zero (x ∷ c) (y ∷ d) k l = absurd (omega arith)
earlier_in (suc n) (x ∷ c) (y ∷ d) k l = with_first n x y c d _ _ (ranked x y _ refl) (earlier_in n c d (omega arith) (omega arith))

pub earlier_decides : (c d : List ℕ) → length c ≡ field_count → length d ≡ field_count
    → Decides (is_some_and is_lt (slice_partial_cmp (λ x y. Some (nat_cmp x y)) c d)) (Earlier c d)
earlier_decides c d k l =
    let t = earlier_in field_count c d k l in record {
      yes = λ q. let e = t.yes q in record { field = e.field; known = e.known; less = e.less; same = e.same };
      no = λ q e. t.no q (record { field = e.field; known = e.known; less = e.less; same = e.same });
    }

-- ---- the boxes that have a cell

-- A set of both.
both : (a b k : ℕ) → In (bit_and a b) k ↔ (In a k × In b k)
both a b k =
    let d = decides_and (marked a k) (marked b k) (decides_itself (marked a k)) (decides_itself (marked b k)) in
    (λ h. d.yes (sym (marked_and a b k) ∙ h), λ h. marked_and a b k ∙ decides_holds (marked a k && marked b k) d h)

-- The set is of the boxes that have the cell's intervals in the first n fields.
abbrev pub ClaimingBefore : (sets : List (List ℕ)) (c : List ℕ) (n set : ℕ) → Type 0
ClaimingBefore sets c n set = (k : ℕ) → In set k ↔ ((f : ℕ) → f < n → In (set_at sets f (at c f)) k)

pub claiming_one : (sets : List (List ℕ)) (c : List ℕ) (set : ℕ) → set ≡ set_at sets 0 (at c 0) → ClaimingBefore sets c 1 set
claiming_one sets c set e k = (
  λ h f l. let q : 0 ≡ f = omega arith in subst (λ (x : ℕ). In (set_at sets x (at c x)) k) q (subst (λ (x : ℕ). In x k) e h),
  λ h. subst (λ (x : ℕ). In x k) (sym e) (h 0 (omega arith)),
)

pub claiming_more : (sets : List (List ℕ)) (c : List ℕ) (n set more : ℕ) → ClaimingBefore sets c n set → more ≡ set_at sets n (at c n)
    → ClaimingBefore sets c (n + 1) (bit_and set more)
claiming_more sets c n set more h e k = (to, of)
  where
    to : In (bit_and set more) k → (f : ℕ) → f < n + 1 → In (set_at sets f (at c f)) k
    to m =
        below_more (λ f. In (set_at sets f (at c f)) k) n ((h k).0 ((both set more k).0 m).0) (subst (λ (x : ℕ). In x k) e ((both set more k).0 m).1)

    of : ((f : ℕ) → f < n + 1 → In (set_at sets f (at c f)) k) → In (bit_and set more) k
    of a = (both set more k).1 ((h k).1 (λ f l. a f (omega arith)), subst (λ (x : ℕ). In x k) (sym e) (a n (omega arith)))

-- ---- some of the boxes

pub some_all : (boxes : ℕ) → (boxes ≡ 0 → ⊥) → SomeOf boxes boxes
some_all boxes z = record { part = λ k m. m; not_none = z }

-- Some of some of them.
pub some_trans : {boxes some few : ℕ} → SomeOf boxes some → SomeOf some few → SomeOf boxes few
some_trans a b = record { part = λ k m. a.part k (b.part k m); not_none = b.not_none }

-- Those that are in another set too, if there are any.
pub some_both : (boxes other : ℕ) → (bit_and boxes other ≡ 0 → ⊥) → SomeOf boxes (bit_and boxes other)
some_both boxes other z = record { part = λ k m. ((both boxes other k).0 m).0; not_none = z }

pub some_lasting : (boxes some last : ℕ) → SomeOf boxes some → SomeOf boxes (pick (eqb (bit_and some last) 0) some (bit_and some last))
some_lasting boxes some last s = go (eqb (bit_and some last) 0) refl
  where
    go : (t : Bool) → eqb (bit_and some last) 0 ≡ t → SomeOf boxes (pick t some (bit_and some last))
    go true e = s
    go false e = some_trans s (some_both some last (eqb-false (bit_and some last) 0 e))
