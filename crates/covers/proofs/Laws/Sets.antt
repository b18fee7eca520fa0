-- Laws of sets of boxes, which the loops over a set follow from box to box: the next one, and what is known of those before it. And of the packets that
-- chosen boxes hold.
-- Assumes nothing.
use Prim.Native.Nat.{ℕ, zero, suc, ◌-◌, ◌*◌, ◌/◌, ◌%◌, ◌^◌, ◌<◌}
use mathlib.Core.Path.{◌≡◌, refl, sym, ap, subst, ◌∙◌}
use mathlib.Core.Bool.{Bool, true, false, ◌&&◌, true≢false}
use mathlib.Core.Logic.{◌⊎◌, inl, inr}
use mathlib.Core.List.{◌∷◌}
use native.Mathlib.Nat.{one-mul, zero-mul, pow-zero, pow-suc}
use borrow.Author.Tests.{eqb-true}
use native.Mathlib.Omega.{arith}
use lib.Bits.{bit_and, bit_or}
use lib.Count.{count_trailing_zeros, under}
use lib.Dec.{eqb}
use Rattle.std.specs.Int.{bit_at, from_bool}
use Rattle.std.proofs.lemmas.Nat.Bits.{bit_at_lowest, bit_at-suc}
use Rattle.base.specs.Truths.{Decides}
use Rattle.base.specs.Bits.{marked}
use Rattle.base.proofs.Laws.Bits.{marked_odd, none_marked, one_marked, one_alone, small_marked, marked_and, marked_or, first_bit, less_others}
use Rattle.base.proofs.Laws.Decides.{decides_and, decides_or, decides_eqb, decides_itself, decides_holds, decided}
use Rattle.policy.specs.Model.{Range, Selector, Packet}
use Rattle.relations.specs.Ranges.{Within, within}
use Rattle.relations.specs.Selectors.{Holds}
use Rattle.relations.proofs.Laws.Selectors.{within_decides, holds_both, holds_first, holds_rest}
use Rattle.covers.specs.Sets.{In, FirstOf, Narrowed, HeldBy}

-- ---- two sets

pub or_old : (a b k : ℕ) → In a k → In (bit_or a b) k
or_old a b k h =
    marked_or a b k ∙ decides_holds _ (decides_or (marked a k) (marked b k) (decides_itself (marked a k)) (decides_itself (marked b k))) (inl h)

pub or_new : (a b k : ℕ) → In b k → In (bit_or a b) k
or_new a b k h =
    marked_or a b k ∙ decides_holds _ (decides_or (marked a k) (marked b k) (decides_itself (marked a k)) (decides_itself (marked b k))) (inr h)

pub or_in : (a b k : ℕ) → In (bit_or a b) k → In a k ⊎ In b k
or_in a b k h = (decides_or (marked a k) (marked b k) (decides_itself (marked a k)) (decides_itself (marked b k))).yes (sym (marked_or a b k) ∙ h)

-- ---- from box to box: those of the set that are not looked at yet are those of `rest`

-- All boxes of `rest` are of the set.
abbrev pub Left : (set rest : ℕ) → Type 0
Left set rest = (i : ℕ) → In rest i → In set i

pub left_all : (set : ℕ) → Left set set
left_all set i h = h

-- What is not in the set that has none.
pub none_left : (rest i : ℕ) → rest ≡ 0 → In rest i → ⊥
none_left rest i z h = true≢false (sym h ∙ ap (λ (m : ℕ). marked m i) z ∙ none_marked i)

-- The bits that a number has and the one before it are after the first.
after_first : (n m j : ℕ) → m < 2 ^ n → (m ≡ 0 → ⊥) → bit_at m j ≡ 1 → bit_at (m - 1) j ≡ 1 → count_trailing_zeros n m < j
unfolding count_trailing_zeros
after_first zero m j h z a b = let p = pow-zero 2 in absurd (z (omega arith))
after_first (suc n) m j h z a b = go (m % 2) refl j a b (after_first n (m / 2))
  where
    go : (d : ℕ) → m % 2 ≡ d → (j : ℕ) → bit_at m j ≡ 1 → bit_at (m - 1) j ≡ 1
        → ((i : ℕ) → m / 2 < 2 ^ n → (m / 2 ≡ 0 → ⊥) → bit_at (m / 2) i ≡ 1 → bit_at (m / 2 - 1) i ≡ 1 → count_trailing_zeros n (m / 2) < i)
        → under d (count_trailing_zeros n (m / 2)) < j
    go zero e zero a b more = let x = bit_at_lowest m in absurd (omega arith)
    go zero e (suc i) a b more =
        let p = pow-suc 2 n in
        let q : (m - 1) / 2 ≡ m / 2 - 1 = omega (arith, z) in
        let r = more i (omega arith) (λ y. z (omega arith)) (sym (bit_at-suc m i) ∙ a) (sym (bit_at-suc (m - 1) i ∙ ap (λ (x : ℕ). bit_at x i) q) ∙ b) in
        omega arith
    go (suc d) e zero a b more = let x = bit_at_lowest (m - 1) in absurd (omega (arith, z))
    go (suc d) e (suc i) a b more = omega arith

-- The first of a word's bits, and the others.
pub first_of : (rest : ℕ) → rest < 2 ^ 64 → (rest ≡ 0 → ⊥) → FirstOf rest (count_trailing_zeros 64 rest) (bit_and rest (rest - 1))
first_of rest f z =
    let b = first_bit 64 rest f z in
    record {
      member = b;
      small = small_marked 64 rest _ f b;
      part = λ i h. (split i h).0;
      later = λ i h. after_first 64 rest i f z (bit_is rest i (split i h).0) (bit_is (rest - 1) i (split i h).1);
      others = λ i h o. marked_and rest (rest - 1) i ∙ decides_holds _ (both i) (h, less_others 64 rest i f z h o);
    }
  where
    -- the test of a box among the others
    both : (i : ℕ) → Decides (marked rest i && marked (rest - 1) i) (In rest i × In (rest - 1) i)
    both i = decides_and (marked rest i) (marked (rest - 1) i) (decides_itself (marked rest i)) (decides_itself (marked (rest - 1) i))

    split : (i : ℕ) → In (bit_and rest (rest - 1)) i → In rest i × In (rest - 1) i
    split i h = (both i).yes (sym (marked_and rest (rest - 1) i) ∙ h)

    bit_is : (m i : ℕ) → In m i → bit_at m i ≡ 1
    bit_is m i h = eqb-true _ _ (sym (marked_odd m i) ∙ h)

module _ (set rest j left : ℕ) (l : Left set rest) (n : FirstOf rest j left) where
  pub next_in : In set j
  next_in = l j n.member

  pub left_next : Left set left
  left_next i h = l i (n.part i h)

  -- What is known of those that were looked at and of the next is known of all up to it.
  pub seen_next : (Q : ℕ → Type 0) → ((i : ℕ) → In set i → (In rest i → ⊥) → Q i) → Q j → (i : ℕ) → In set i → (In left i → ⊥) → Q i
  seen_next Q before own i h o = go (marked rest i) refl
    where
      go : (t : Bool) → marked rest i ≡ t → Q i
      go true e = elim (decided (eqb i j) (decides_eqb i j)) [ inl q ↦ subst Q (sym q) own | inr q ↦ absurd (o (n.others i e q)) ]
      go false e = before i h (λ m. true≢false (sym m ∙ e))

-- ---- the boxes that hold a value

-- A test as the bit at place j.
bit_in : (b : Bool) (j i : ℕ) → In (from_bool b * 2 ^ j) i → (b ≡ true) × (i ≡ j)
bit_in true j i h = (refl, one_alone j i (sym (ap (λ (m : ℕ). marked m i) (one-mul (2 ^ j))) ∙ h))
bit_in false j i h = absurd (true≢false (sym h ∙ ap (λ (m : ℕ). marked m i) (zero-mul (2 ^ j)) ∙ none_marked i))

in_bit : (j : ℕ) → In (from_bool true * 2 ^ j) j
in_bit j = ap (λ (m : ℕ). marked m j) (one-mul (2 ^ j)) ∙ one_marked j

-- Of those that were looked at the ones of `held` hold v.
pub record HeldBefore (field : ℕ → Range) (set v held rest : ℕ) : Type 0 where
  pub part : (i : ℕ) → In held i → In set i
  pub holds : (i : ℕ) → In held i → Within (field i) v
  pub all : (i : ℕ) → In set i → (In rest i → ⊥) → Within (field i) v → In held i

module _ (field : ℕ → Range) (set v : ℕ) where
  pub held_start : HeldBefore field set v 0 set
  held_start = record {
    part = λ i h. absurd (none_left 0 i refl h);
    holds = λ i h. absurd (none_left 0 i refl h);
    all = λ i h n. absurd (n h);
  }

  -- One box more.
  module _ (held rest j left : ℕ) (l : Left set rest) (n : FirstOf rest j left) where
    abbrev new : ℕ
    new = from_bool (within (field j) v) * 2 ^ j

    pub held_next : HeldBefore field set v held rest → HeldBefore field set v (bit_or held new) left
    held_next h = record {
      part = λ i m. elim (or_in held new i m) [
        | inl a ↦ h.part i a
        | inr b ↦ subst (In set) (sym (bit_in (within (field j) v) j i b).1) (next_in set rest j left l n)
      ];
      holds = λ i m. elim (or_in held new i m) [
        | inl a ↦ h.holds i a
        | inr b ↦ let c = bit_in (within (field j) v) j i b in subst (λ (x : ℕ). Within (field x) v) (sym c.1) ((within_decides (field j) v).yes c.0)
      ];
      all = seen_next set rest j left l n (λ i. Within (field i) v → In (bit_or held new) i) (λ i m k w. or_old held new i (h.all i m k w))
          (λ w. or_new held new j (rw (decides_holds (within (field j) v) (within_decides (field j) v) w) (in_bit j)));
    }

-- ---- the packets that chosen boxes hold

-- Boxes of which more are chosen hold what they held.
pub more_held : (box : ℕ → Selector) {P Q : ℕ → Type 0} (q : Packet) → ((k : ℕ) → P k → Q k) → HeldBy box P q → HeldBy box Q q
more_held box q f h = record { place = h.place; choice = f h.place h.choice; holds = h.holds }

-- The boxes are a first field and the rest.
module _ (box rest : ℕ → Selector) (head : ℕ → Range) (split : (k : ℕ) → box k ≡ head k ∷ rest k) where
  -- With x in the first field, where the chosen boxes hold it.
  pub wider : {P Q : ℕ → Type 0} (x : ℕ) (q : Packet) → ((k : ℕ) → P k → Q k) → ((k : ℕ) → P k → Within (head k) x) → HeldBy rest P q → HeldBy box Q (x ∷ q)
  wider x q f w h =
      let k = h.place in
      record {
        place = k;
        choice = f k h.choice;
        holds = subst (λ (b : Selector). Holds b (x ∷ q)) (sym (split k)) (holds_both (head k) (rest k) x q (w k h.choice) h.holds);
      }

  -- Without it, by those of the boxes that hold it.
  pub narrower : {P Q : ℕ → Type 0} (v : ℕ) (q : Packet) → Narrowed head P v Q → HeldBy box P (v ∷ q) → HeldBy rest Q q
  narrower v q n h =
      let k = h.place in
      let t : Holds (head k ∷ rest k) (v ∷ q) = subst (λ (b : Selector). Holds b (v ∷ q)) (split k) h.holds in
      record { place = k; choice = n.all k h.choice (holds_first (head k) (rest k) v q t); holds = holds_rest (head k) (rest k) v q t }
