-- Laws of the covers that are kept: the first that is within a set, one cover more before the others, and which those are.
-- Assumes nothing.
use Prim.Native.Nat.{ℕ, suc, ◌+◌, ◌≤◌, ◌<◌}
use mathlib.Core.Path.{◌≡◌, refl, sym, ap, ◌∙◌}
use mathlib.Core.Bool.{Bool, true, false}
use mathlib.Core.Logic.{◌⊎◌, inl, inr}
use mathlib.Core.List.Memᴰ
use mathlib.Core.List.{List, [], ◌∷◌, ◌++◌, append-nil, append_assoc, Memᴰ}
use native.Mathlib.Numerals.{add-one}
use native.Mathlib.Omega.{arith}
use borrow.Author.Tests.{eqb-true}
use lib.Bits.{bit_and}
use lib.ListN.{length, get_or, set, take, drop, drop_of_length-le, length-set, take-append-drop}
use lib.Seq.{drop-cons, take-suc-set, drop-set-lt, take_all, get_or-drop}
use Rattle.base.specs.Truths.{pick}
use Rattle.std.specs.List.{find}
use Rattle.std.specs.Option.{unwrap_or}
use Rattle.std.proofs.Common.{Option, Some, None, cond}
use Rattle.std.proofs.lemmas.Option.{none-some, same_Some}
use Rattle.search.specs.Covers.{stops, recall, ends, shifted}

-- ---- the first within a set

-- A cover that is recalled is within the set, and is kept.
pub recall_known : (a : ℕ) (os : List (Option ℕ)) (c : ℕ) → recall a os ≡ Some c → (bit_and c a ≡ c) × Memᴰ (Some c) os
recall_known a [] c e = absurd (none-some c e)
recall_known a (o ∷ os) c e = go (stops a o) refl (recall_known a os c) e
  where
    here : (k : Option ℕ) → stops a k ≡ true → k ≡ Some c → bit_and c a ≡ c
    here None w i = absurd (none-some c i)
    here (Some x) w i = rw (sym (same_Some x c i)) (eqb-true _ _ w)

    go : (t : Bool) → stops a o ≡ t → (recall a os ≡ Some c → (bit_and c a ≡ c) × Memᴰ (Some c) os)
        → unwrap_or (cond t (Some o) (find (stops a) os)) None ≡ Some c → (bit_and c a ≡ c) × Memᴰ (Some c) (o ∷ os)
    go true w more k = (here o w k, Memᴰ.head (sym k))
    go false w more k = let m = more k in (m.0, Memᴰ.tail m.1)

-- ---- one cover more

-- Which covers there are then.
pub shifted_kept : (c : ℕ) (x : Option ℕ) (os : List (Option ℕ)) (y : Option ℕ) → Memᴰ y (shifted c x os) → (y ≡ x) ⊎ Memᴰ y os
unfolding shifted
shifted_kept c x [] y m = absurd (Memᴰ.not-nil m)
shifted_kept c x (z ∷ zs) y m = elim (Memᴰ.cases_cons m) [
  | inl e ↦ inl e
  | inr k ↦ inr (go (ends c z) (shifted_kept c z zs y) k)
]
  where
    go : (t : Bool) → (Memᴰ y (shifted c z zs) → (y ≡ z) ⊎ Memᴰ y zs) → Memᴰ y (pick t zs (shifted c z zs)) → Memᴰ y (z ∷ zs)
    go true more k = Memᴰ.tail k
    go false more k = elim (more k) [ inl e ↦ Memᴰ.head e | inr n ↦ Memᴰ.tail n ]

-- The first j covers stand, and the rest as before; `carried` goes next.
pub record Shifting (before : List (Option ℕ)) (c : ℕ) (now : List (Option ℕ)) (carried : Option ℕ) (j : ℕ) : Type 0 where
  pub long : length now ≡ length before
  pub same : take j now ++ shifted c carried (drop j before) ≡ shifted c (Some c) before
  pub rest : drop j now ≡ drop j before

module _ (before : List (Option ℕ)) (c : ℕ) (now : List (Option ℕ)) (carried : Option ℕ) (j : ℕ) (s : Shifting before c now carried j) where
  abbrev stored : List (Option ℕ)
  stored = set now j carried

  -- the cover at j, which gives its place to the one that is carried
  abbrev old : Option ℕ
  old = get_or now j None

  -- it stood there before
  old_is : get_or before j None ≡ old
  old_is =
      let z : j + 0 ≡ j = omega arith in
      sym (ap (λ (k : ℕ). get_or before k None) z) ∙ sym (get_or-drop j before 0 None) ∙ sym (ap (λ (l : List (Option ℕ)). get_or l 0 None) s.rest)
      ∙ get_or-drop j now 0 None ∙ ap (λ (k : ℕ). get_or now k None) z

  pub still : j < length now → drop (suc j) stored ≡ drop (suc j) before
  still h =
      let l = s.long in
      let e : get_or now j None ∷ drop (suc j) now ≡ get_or before j None ∷ drop (suc j) before =
      sym (drop-cons now j None h) ∙ s.rest ∙ drop-cons before j None (omega arith) in
      drop-set-lt (suc j) now j carried (omega arith) ∙ ap (drop 1) e

  opened : j < length now → take (suc j) stored ++ pick (ends c old) (drop (suc j) before) (shifted c old (drop (suc j) before)) ≡ shifted c (Some c) before
  unfolding shifted
  opened h =
      let l = s.long in
      let e : shifted c carried (drop j before) ≡ carried ∷ pick (ends c old) (drop (suc j) before) (shifted c old (drop (suc j) before)) =
      ap (shifted c carried) (drop-cons before j None (omega arith))
      ∙ ap (λ (y : Option ℕ). carried ∷ pick (ends c y) (drop (suc j) before) (shifted c y (drop (suc j) before))) old_is in
      ap (λ (t : List (Option ℕ)). t ++ pick (ends c old) (drop (suc j) before) (shifted c old (drop (suc j) before))) (take-suc-set now j carried h)
      ∙ append_assoc (take j now) (carried ∷ []) _ ∙ ap (λ (t : List (Option ℕ)). take j now ++ t) (sym e) ∙ s.same

  pub shifting_next : j < length now → ends c old ≡ false → Shifting before c stored old (j + 1)
  shifting_next h e =
      rw (add-one j) (record {
        long = length-set now j carried ∙ s.long;
        same = rw e at (opened h);
        rest = still h;
      })

  pub shifting_stop : j < length now → ends c old ≡ true → stored ≡ shifted c (Some c) before
  shifting_stop h e =
      sym (take-append-drop (suc j) stored) ∙ ap (λ (l : List (Option ℕ)). take (suc j) stored ++ l) (still h) ∙ (rw e at (opened h))

  pub shifting_end : length now ≤ j → now ≡ shifted c (Some c) before
  unfolding shifted
  shifting_end h =
      let l = s.long in
      let e : drop j before ≡ [] = drop_of_length-le before {i = j} (omega arith) in
      sym (append-nil now) ∙ ap (λ (l : List (Option ℕ)). l ++ []) (sym (take_all j now h)) ∙ (rw e at s.same)
