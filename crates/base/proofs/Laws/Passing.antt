-- Laws of the things of a list that pass a test: what is told of them, and a loop that keeps their numbers, in order, at the start of an
-- array, with a count: it stores each number at the count, and adds 1 to the count where the test holds.
-- Assumes nothing.
use Prim.Native.Nat.{ℕ, ◌+◌, ◌≤◌, ◌<◌}
use mathlib.Core.Path.{◌≡◌, refl, ap}
use mathlib.Core.Bool.{Bool, true, false}
use mathlib.Core.Logic.{inl, inr}
use mathlib.Core.List.Memᴰ
use mathlib.Core.List.{List, [], ◌∷◌, ◌++◌, map, append_assoc, append-nil, Memᴰ}
use native.Mathlib.Nat.{add-zero}
use native.Mathlib.Numerals.{add-one}
use native.Mathlib.Decide.{dec_lt}
use native.Mathlib.Omega.{arith}
use lib.ListN.{length, get_or, take, set, length-set}
use lib.Seq.{take-suc-set, take-set-le, get_or-set_same, get_or-set_other}
use Rattle.base.specs.Truths.{pick, bit}
use Rattle.base.specs.Lists.{passing}

pub bit_le : (b : Bool) → bit b ≤ 1
bit_le true = omega arith
bit_le false = omega arith

-- ---- what is told of those that pass

module _ {A B : Type 0} (test : A → Bool) (tell : A → B) where
  -- What is told is told of a thing that passes,
  pub passing_of : (xs : List A) (y : B) → Memᴰ y (passing test tell xs) → (x : A) × Memᴰ x xs × (test x ≡ true) × (y ≡ tell x)
  passing_of [] y m = absurd (Memᴰ.not-nil m)
  passing_of (x ∷ xs) y m = go (test x) refl (passing_of xs y) m
    where
      go : (b : Bool) → test x ≡ b → (Memᴰ y (passing test tell xs) → (z : A) × Memᴰ z xs × (test z ≡ true) × (y ≡ tell z))
          → Memᴰ y (pick b (tell x ∷ passing test tell xs) (passing test tell xs))
          → (z : A) × Memᴰ z (x ∷ xs) × (test z ≡ true) × (y ≡ tell z)
      go true e rest k = elim (Memᴰ.cases_cons k) [
        | inl s ↦ (x, Memᴰ.head refl, e, s)
        | inr j ↦ let h = rest j in (h.0, Memᴰ.tail h.1, h.2, h.3)
      ]
      go false e rest k = let h = rest k in (h.0, Memᴰ.tail h.1, h.2, h.3)

  -- and it is told of each.
  pub passing_in : (xs : List A) (x : A) → Memᴰ x xs → test x ≡ true → Memᴰ (tell x) (passing test tell xs)
  passing_in [] x m e = absurd (Memᴰ.not-nil m)
  passing_in (y ∷ xs) x m e = elim (Memᴰ.cases_cons m) [
    | inl q ↦ rw (← q, e) (Memᴰ.head refl)
    | inr k ↦
        let rest = passing_in xs x k e in
        elim (test y) as (λ b. Memᴰ (tell x) (pick b (tell y ∷ passing test tell xs) (passing test tell xs))) [
          | true ↦ Memᴰ.tail rest
          | false ↦ rest
        ]
  ]

-- ---- the loop

map_append : {A B : Type 0} (f : A → B) (xs ys : List A) → map f (xs ++ ys) ≡ map f xs ++ map f ys
map_append f [] ys = refl
map_append f (x ∷ xs) ys = ap (λ l. f x ∷ l) (map_append f xs ys)

-- What a number of the array stands for is `tell`'s; of `whole`, what is `left` comes of the things not looked at yet. k things were looked at,
-- and of n of them the numbers are kept, each below the bound, in an array that has room for them.
module _ {A : Type 0} (tell : ℕ → A) (room bound : ℕ) (whole : List A) where
  pub record Keeping (left : List A) (l : List ℕ) (n k : ℕ) : Type 0 where
    pub long : length l ≡ room
    pub few : n ≤ k
    pub within : (j : ℕ) → j < n → get_or l j 0 < bound
    pub same : map tell (take n l) ++ left ≡ whole

  pub keeping_start : (l : List ℕ) → length l ≡ room → Keeping whole l 0 0
  keeping_start l h = record { long = h; few = omega arith; within = λ j b. absurd (omega arith); same = refl }

  -- One thing more: the number i, and whether it passes.
  module _ {left : List A} {l : List ℕ} {n k : ℕ} (w : Keeping left l n k) (i : ℕ) (more : k < room) (small : i < bound) where
    numbers : (b : Bool) (j : ℕ) → j < n + bit b → get_or (set l n i) j 0 < bound
    numbers b j h =
        elim (dec_lt j n) [
          | yes q ↦ rw (get_or-set_other l n j i 0 (λ e. absurd (omega arith))) (w.within j q)
          | no q ↦
              let m = bit_le b in
              let e : j ≡ n = omega arith in
              rw (e, get_or-set_same l n i 0 (omega (arith, w.long, w.few))) small
        ]

    told : (rest : List A) (b : Bool) → left ≡ pick b (tell i ∷ rest) rest → map tell (take (n + bit b) (set l n i)) ++ rest ≡ whole
    told rest true e =
        let h : n < length l = omega (arith, w.long, w.few) in
        rw (add-one n, take-suc-set l n i h, map_append, append_assoc, ← e) w.same
    told rest false e = let q : n ≤ n = omega arith in rw (add-zero, take-set-le n l n i q, ← e) w.same

    pub keeping_more : (rest : List A) (b : Bool) → left ≡ pick b (tell i ∷ rest) rest → (d : ℕ) → d ≡ bit b → Keeping rest (set l n i) (n + d) (k + 1)
    keeping_more rest b e d q =
        let m : d ≤ 1 = rw q (bit_le b) in
        record {
          long = rw length-set w.long;
          few = omega (arith, w.few);
          within = rw q (numbers b);
          same = rw q (told rest b e);
        }

  pub keeping_all : {left : List A} {l : List ℕ} {n k : ℕ} → Keeping left l n k → left ≡ [] → map tell (take n l) ≡ whole
  keeping_all w e = rw append-nil at (rw e at w.same)
