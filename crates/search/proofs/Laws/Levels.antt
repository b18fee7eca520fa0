-- One field of the search in the code: the boxes that hold the packet so far, the cover that is recalled or found for a value, and the next candidate.
-- Assumes nothing.
use Prim.Native.Nat.{ℕ, zero, suc, ◌-◌, ◌^◌, ◌≤◌, ◌<◌, min}
use mathlib.Core.Path.{◌≡◌, refl, sym, ap, subst, ◌∙◌}
use mathlib.Core.Logic.{inl, inr}
use mathlib.Core.List.Memᴰ
use mathlib.Core.List.{List, [], ◌∷◌, Memᴰ, map}
use native.Mathlib.Omega.{arith}
use Rattle.std.specs.Prelude.{Option, Some, None}
use Rattle.std.specs.Option.{unwrap_or}
use Rattle.std.proofs.lemmas.Option.{none-some, same_Some}
use lib.Bits.{bit_or}
use lib.ListN.{length, take, replicate, length-map}
use Rattle.base.specs.Bits.{marked}
use Rattle.base.proofs.Laws.Bits.{within_marked, one_marked, one_alone}
use Rattle.policy.specs.Model.{Range, Selector, Packet}
use Rattle.policy.specs.Views.{value, range_in}
use Rattle.policy.specs.declared.number.Number.{Number}
use Rattle.relations.specs.Selectors.{Holds}
use Rattle.relations.proofs.Laws.Selectors.{holds_nothing, not_longer}
use Rattle.covers.specs.Least.{◌≤ₚ◌, done, Claimed, Right, found, none}
use Rattle.covers.specs.Sets.{In, Numbered, field_of, Narrowed, HeldBy, CoveredBy}
use Rattle.covers.specs.Views.{BoxNumbers, comes, next_of}
use Rattle.search.specs.Covers.{box_in, high_of, Follows, opening, Holding, Furthest, kept_covers, recall, shifted}
use Rattle.covers.specs.declared.Boxes.{Boxes}
use Rattle.covers.proofs.Laws.Places.{of_first, in_first, first_numbered, place_listed, listed_place}
use Rattle.covers.proofs.Laws.Least.{EachSized, sized_listed}
use Rattle.search.proofs.Laws.Right.{LeastOf}
use Rattle.covers.proofs.Laws.Sets.{none_left, or_old, or_new, or_in}
use Rattle.search.proofs.Laws.Kept.{recall_known, shifted_kept}
use Rattle.search.proofs.Laws.Walks.{Walked, walked_start, walked_next, walked_found, left, left_falls, risen}

-- ---- the covers that are kept

-- Each is a cover of s.
pub record Keeps (box : ℕ → Selector) (s : Selector) (kept : List (Option ℕ)) : Type 0 where
  pub each : (c : ℕ) → Memᴰ (Some c) kept → CoveredBy box s c

pub keeps_none : (box : ℕ → Selector) (s : Selector) → Keeps box s (replicate kept_covers None)
keeps_none box s = record { each = λ c m. absurd (no_cover kept_covers c m) }
  where
    no_cover : (n c : ℕ) → Memᴰ (Some c) (replicate n None) → ⊥
    no_cover zero c m = Memᴰ.not-nil m
    no_cover (suc n) c m = elim (Memᴰ.cases_cons m) [ inl e ↦ none-some c (sym e) | inr k ↦ no_cover n c k ]

pub keeps_more : (box : ℕ → Selector) (s : Selector) (c : ℕ) (kept after : List (Option ℕ)) → Keeps box s kept → CoveredBy box s c
    → after ≡ shifted c (Some c) kept → Keeps box s after
keeps_more box s c kept after k d e =
    subst (Keeps box s) (sym e)
    (record {
      each = λ x m. elim (shifted_kept c (Some c) kept (Some x) m) [
        | inl i ↦ subst (CoveredBy box s) (sym (same_Some x c i)) d
        | inr n ↦ k.each x n
      ];
    })

-- ---- one field of the boxes

module _ (bounds at : List ℕ) where
  -- The boxes of c, which are of those that hold the packet so far, P, cover the fields fs, whose ranges in the row are s.
  pub record Fails (fs : List ℕ) (s : Selector) (P : ℕ → Type 0) (c : ℕ) : Type 0 where
    pub part : (k : ℕ) → In c k → P k
    pub covers : CoveredBy (box_in bounds at fs) s c

  -- One box that is left covers what is past the last field, nothing.
  pub fails_last : (field : ℕ → Range) (set v one : ℕ) → Furthest field set v one → Fails [] [] (Holding field set v) one
  fails_last field set v one f = record {
    part = λ k h. subst (Holding field set v) (sym (one_alone f.place k (sym (ap (λ (m : ℕ). marked m k) f.alone) ∙ h))) f.among;
    covers = λ q h. record {
      place = f.place;
      choice = ap (λ (m : ℕ). marked m f.place) f.alone ∙ one_marked f.place;
      holds = h;
    };
  }

  -- Field f and the fields fs after it, whose ranges in the row are r and rs.
  module _ (f : ℕ) (fs : List ℕ) (r : Range) (rs : Selector) where
    -- A cover that is recalled is one, of boxes that hold the packet so far.
    pub level_start : (a c : ℕ) (kept : List (Option ℕ)) (known : Option ℕ) (n : Option Number) → Keeps (box_in bounds at (f ∷ fs)) (risen r ∷ rs) kept
        → known ≡ recall a kept → c ≡ unwrap_or known 0 → next_of n ≡ opening known r.low → Walked (box_in bounds at (f ∷ fs)) r rs (In a) (In c) (next_of n)
    level_start a c kept known n k e d o =
        subst (Walked (box_in bounds at (f ∷ fs)) r rs (In a) (In c)) (sym o)
        (walked_start (box_in bounds at (f ∷ fs)) r rs known (part known e d) (λ x i. covered x i))
      where
        part : (o : Option ℕ) → o ≡ recall a kept → c ≡ unwrap_or o 0 → (j : ℕ) → In c j → In a j
        part None e d j i = absurd (none_left c j d i)
        part (Some x) e d j i = within_marked x a j (recall_known a kept x (sym e)).0 (subst (λ (m : ℕ). In m j) d i)

        covered : (x : ℕ) → known ≡ Some x → CoveredBy (box_in bounds at (f ∷ fs)) (risen r ∷ rs) c
        covered x i =
            let m = recall_known a kept x (sym e ∙ i) in
            let s : c ≡ x = d ∙ ap (λ (o : Option ℕ). unwrap_or o 0) i in
            subst (CoveredBy (box_in bounds at (f ∷ fs)) (risen r ∷ rs)) (sym s) (k.each x m.1)

    -- Where there is no candidate left the boxes hold each packet of this field and those after it.
    pub level_end : (P K : ℕ → Type 0) (n : Option Number) → Walked (box_in bounds at (f ∷ fs)) r rs P K (next_of n) → n ≡ None → (q : Packet) → Holds (risen r ∷ rs) q
        → HeldBy (box_in bounds at (f ∷ fs)) K q
    level_end P K n w e = (subst (λ (m : Option Number). Walked (box_in bounds at (f ∷ fs)) r rs P K (next_of m)) e w).held

    pub level_fails : (P : ℕ → Type 0) (c : ℕ) (n : Option Number) → Walked (box_in bounds at (f ∷ fs)) r rs P (In c) (next_of n) → n ≡ None
        → Fails (f ∷ fs) (risen r ∷ rs) P c
    level_fails P c n w e = record { part = w.part; covers = level_end P (In c) n w e }

    -- The field stands at the value v, and of the boxes P those of Q hold it.
    pub record Stands (P K : ℕ → Type 0) (n : Option Number) (v : Number) (Q : ℕ → Type 0) : Type 0 where
      pub walked : Walked (box_in bounds at (f ∷ fs)) r rs P K (next_of n)
      pub value_is : n ≡ Some v
      pub narrowed : Narrowed (field_of bounds at f) P (value v) Q

    here : {P K Q : ℕ → Type 0} (n : Option Number) {v : Number} → Stands P K n v Q → Walked (box_in bounds at (f ∷ fs)) r rs P K (comes (value v))
    here {P} {K} n s = subst (λ (m : Option Number). Walked (box_in bounds at (f ∷ fs)) r rs P K (next_of m)) s.value_is s.walked

    -- The value v comes to nothing by the cover c.
    module _ {P K Q : ℕ → Type 0} (n n' : Option Number) {v : Number} {c : ℕ} (s : Stands P K n v Q) (u : Fails fs rs Q c)
        (o : Follows (high_of bounds at f) c r.high (next_of n')) where
      low : min (value v) r.high ≤ o.least
      low = elim o.reaches.reached [
        | inl e ↦ omega (arith, e)
        | inr x ↦ let h = (s.narrowed.holds x.0 (u.part x.0 x.1)).high in omega (arith, h, x.2)
      ]

      next : {M : ℕ → Type 0} → ((k : ℕ) → K k → M k) → ((k : ℕ) → In c k → M k) → ((k : ℕ) → M k → P k)
          → Walked (box_in bounds at (f ∷ fs)) r rs P M (next_of n')
      next {M} old new within =
          subst (Walked (box_in bounds at (f ∷ fs)) r rs P M) (sym o.next)
          (walked_next (box_in bounds at (f ∷ fs)) (box_in bounds at fs) (field_of bounds at f) (λ k. refl) r rs (value v) o.least (here n s) s.narrowed
          u.part u.covers o.reaches.each low old new within)

      pub level_falls : left r.high (next_of n') < left r.high (next_of n)
      level_falls = rw (o.next, s.value_is) (left_falls (value v) o.least r.high low)

    -- The cover is added to that of the values before; of the first field all boxes are taken for the cover.
    pub level_next : {P Q : ℕ → Type 0} (n n' : Option Number) {v : Number} (k : ℕ) {c : ℕ} → Stands P (In k) n v Q → Fails fs rs Q c
        → Follows (high_of bounds at f) c r.high (next_of n') → Walked (box_in bounds at (f ∷ fs)) r rs P (In (bit_or k c)) (next_of n')
    level_next n n' k {c} s u o =
        next n n' s u o (or_old k c) (or_new k c)
        (λ j i. elim (or_in k c j i) [ inl x ↦ s.walked.part j x | inr y ↦ s.narrowed.part j (u.part j y) ])

    pub first_next : {P Q : ℕ → Type 0} (n n' : Option Number) {v : Number} {c : ℕ} → Stands P P n v Q → Fails fs rs Q c
        → Follows (high_of bounds at f) c r.high (next_of n') → Walked (box_in bounds at (f ∷ fs)) r rs P P (next_of n')
    first_next n n' s u o = next n n' s u o (λ j i. i) (λ j i. s.narrowed.part j (u.part j i)) (λ j i. i)

    -- What is found below the value is the least with it.
    pub level_found : {P K Q : ℕ → Type 0} (n : Option Number) {v : Number} (p : Packet) → Stands P K n v Q
        → LeastOf (HeldBy (box_in bounds at fs) Q) rs p → LeastOf (HeldBy (box_in bounds at (f ∷ fs)) P) (risen r ∷ rs) (value v ∷ p)
    level_found n p s m =
        walked_found (box_in bounds at (f ∷ fs)) (box_in bounds at fs) (field_of bounds at f) (λ k. refl) r rs _ p (here n s) s.narrowed m

module _ (field : ℕ → Range) (set v : ℕ) where
  -- Past the last field those are left that hold its value.
  pub left_last : Narrowed field (In set) v (Holding field set v)
  left_last = record { part = λ k h. h.0; holds = λ k h. h.1; all = λ k i w. (i, w) }

  -- Where no box is left past the last field the packet is found.
  pub last_found : (box : ℕ → Selector) → ((k : ℕ) → Holding field set v k → ⊥) → LeastOf (HeldBy box (Holding field set v)) [] []
  last_found box n = record { inside = holds_nothing; unclaimed = λ h. n h.place h.choice; least = lowest }
    where
      lowest : (q : Packet) → Holds [] q → (HeldBy box (Holding field set v) q → ⊥) → [] ≤ₚ q
      lowest [] h f = done
      lowest (x ∷ q) h f = absurd (not_longer x q h)

-- ---- the answer

-- The listed boxes in the fields fs.
abbrev pub boxes_of : List ℕ → Boxes → List ℕ → List Selector
boxes_of bounds cover fs = map (λ k. map (range_in bounds k) fs) (take cover.count cover.at)

-- All boxes of the list.
module _ (bounds : List ℕ) (fs : List ℕ) (cover : Boxes) (ok : BoxNumbers cover) (all : ℕ) (e : all ≡ 2 ^ cover.count - 1) where
  abbrev box : ℕ → Selector
  box k = map (range_in bounds k) fs

  pub all_numbered : Numbered cover.at all
  all_numbered = subst (Numbered cover.at) (sym e) (first_numbered cover ok)

  -- A box of the list is one that is claimed by.
  held_claimed : (q : Packet) → HeldBy (box_in bounds cover.at fs) (In all) q → Claimed (boxes_of bounds cover fs) q
  held_claimed q h = record {
    box = box_in bounds cover.at fs h.place;
    listed = place_listed cover ok box h.place (of_first cover.count h.place (subst (λ (m : ℕ). In m h.place) e h.choice));
    holds = h.holds;
  }

  claimed_held : (q : Packet) → Claimed (boxes_of bounds cover fs) q → HeldBy (box_in bounds cover.at fs) (In all) q
  claimed_held q h =
      let k = listed_place cover ok box h.box h.listed in
      record {
        place = k.0;
        choice = subst (λ (m : ℕ). In m k.0) (sym e) (in_first cover.count k.0 k.1);
        holds = subst (λ (b : Selector). Holds b q) (sym k.2) h.holds;
      }

  pub found_right : (s : Selector) (p : Packet) → LeastOf (HeldBy (box_in bounds cover.at fs) (In all)) s p → Right s (boxes_of bounds cover fs) (found p)
  found_right s p m = record {
    inside = m.inside;
    unclaimed = λ c. m.unclaimed (claimed_held p c);
    least = λ q h f. m.least q h (λ c. f (held_claimed q c));
  }

  pub none_right : (s : Selector) → ((q : Packet) → Holds s q → HeldBy (box_in bounds cover.at fs) (In all) q) → Right s (boxes_of bounds cover fs) none
  none_right s h q t = held_claimed q (h q t)

pub boxes_sized : (bounds fs : List ℕ) (cover : Boxes) → EachSized (length fs) (boxes_of bounds cover fs)
boxes_sized bounds fs cover =
    sized_listed (length fs) (boxes_of bounds cover fs)
    (λ b m. let i = Memᴰ.of_map (λ k. map (range_in bounds k) fs) (take cover.count cover.at) m in subst (λ (c : Selector). length c ≡ length fs) i.2 (length-map fs (range_in bounds i.0)))
