-- The next cut after a number: with one candidate more, with one box more, and of all boxes of a list.
-- Assumes nothing.
use Prim.Native.Nat.{ℕ, ◌+◌, ◌≤◌, ◌<◌, min}
use mathlib.Core.Path.{◌≡◌, refl, sym, ap, subst, ◌∙◌}
use mathlib.Core.Bool.{true, false, ◌&&◌}
use mathlib.Core.Logic.{◌⊎◌, inl, inr}
use mathlib.Core.List.{Memᴰ}
use native.Mathlib.Decide.{dec_lt}
use native.Mathlib.Omega.{arith}
use borrow.Author.Tests.{lt-ltb, le-ltb, le-leb, lt-leb}
use lib.Dec.{ltb}
use lib.ListN.{length, get_or, take}
use Rattle.std.proofs.lemmas.List.{length-take, get_or-take}
use Rattle.base.specs.Truths.{pick}
use Rattle.base.specs.Lists.{tabulate}
use Rattle.base.proofs.Laws.Lists.{length_tabulate, get_d_tabulate}
use Rattle.base.proofs.Laws.Members.{member_at, at_member}
use Rattle.policy.specs.Model.{Range, no_range}
use Rattle.relations.specs.Ranges.{Within}
use Rattle.policy.specs.Views.{range_in}
use Rattle.covers.specs.Sets.{field_of}
use Rattle.covers.specs.Views.{NextValue, comes, end}
use Rattle.mesh.specs.declared.Mesh.{Mesh}
use Rattle.mesh.specs.Promises.{Cut}
use Rattle.mesh.specs.Views.{nearer_of, with_cut, Nearest, fields_of}

-- ---- one candidate more

module _ (r : Range) (v x : ℕ) (n : NextValue) where
  -- One that is not past v, or past the end of the range, is none.
  pub cut_passed : x ≤ v → with_cut r v x n ≡ n
  cut_passed h = rw (le-ltb v x h)

  pub cut_outside : r.high < x → with_cut r v x n ≡ n
  cut_outside h = rw (lt-leb x r.high h) (elim (ltb v x) as (λ t. pick (t && false) (nearer_of x n) n ≡ n) [ true ↦ refl | false ↦ refl ])

  -- Any other is nearer or not.
  pub cut_taken : v < x → x ≤ r.high → with_cut r v x n ≡ nearer_of x n
  cut_taken l h = rw (lt-ltb v x l, le-leb x r.high h)

-- D is C, and x if it is in the range.
module _ (r : Range) (v x : ℕ) (C D : ℕ → Type 0) (old : (y : ℕ) → C y → D y) (new : (y : ℕ) → D y → C y ⊎ (y ≡ x))
    (own : v < x → x ≤ r.high → D x) (inside : (y : ℕ) → D y → y ≤ r.high) where
  nearer_taken : v < x → x ≤ r.high → (n : NextValue) → Nearest C v n → Nearest D v (nearer_of x n)
  nearer_taken l h (comes w) m = (
    elim (dec_lt x w) [
      | yes k ↦ let e : min w x ≡ x = omega arith in subst D (sym e) (own l h)
      | no k ↦ let e : min w x ≡ w = omega arith in subst D (sym e) (old w m.0)
    ],
    let a = m.1 in omega arith,
    λ y d b. elim (new y d) [ inl c ↦ let a = m.2 y c b in omega arith | inr e ↦ omega arith ],
  )
  nearer_taken l h end m = (own l h, l, λ y d b. elim (new y d) [ inl c ↦ absurd (m y c b) | inr e ↦ omega arith ])

  -- Where x is none, the next one is as it was.
  nearer_left : (v < x → x ≤ r.high → ⊥) → (n : NextValue) → Nearest C v n → Nearest D v n
  nearer_left z (comes w) m = (
    old w m.0,
    m.1,
    λ y d b. elim (new y d) [ inl c ↦ m.2 y c b | inr e ↦ let i = inside y d in absurd (z (omega arith) (omega arith)) ],
  )
  nearer_left z end m = λ y d b. elim (new y d) [ inl c ↦ m y c b | inr e ↦ let i = inside y d in z (omega arith) (omega arith) ]

  pub nearest_with : (n : NextValue) → Nearest C v n → Nearest D v (with_cut r v x n)
  nearest_with n m = elim (dec_lt v x) [
    | yes l ↦ elim (dec_lt r.high x) [
      | yes h ↦ subst (Nearest D v) (sym (cut_outside r v x n h)) (nearer_left (λ a b. omega arith) n m)
      | no h ↦ subst (Nearest D v) (sym (cut_taken r v x n l (omega arith))) (nearer_taken l (omega arith) n m)
    ]
    | no l ↦ subst (Nearest D v) (sym (cut_passed r v x n (omega arith))) (nearer_left (λ a b. omega arith) n m)
  ]

-- ---- one box more

-- A cut after v by the first k boxes.
abbrev pub CutBy : (r : Range) (field : ℕ → Range) (v k x : ℕ) → Type 0
CutBy r field v k x = Within r x × (v < x) × ((j : ℕ) × (j < k) × ((x ≡ (field j).low) ⊎ (x ≡ (field j).high + 1)))

module _ (r : Range) (field : ℕ → Range) (v : ℕ) (w : Within r v) where
  abbrev By : ℕ → ℕ → Type 0
  By k x = CutBy r field v k x

  -- Past v every number up to the high is in the range.
  past : (x : ℕ) → v < x → x ≤ r.high → Within r x
  past x l h = let a = w.low in record { low = omega arith; high = h }

  -- The same, and the low of the box after them.
  abbrev Lower : ℕ → ℕ → Type 0
  Lower k x = By k x ⊎ (Within r x × (v < x) × (x ≡ (field k).low))

  pub nearest_box : (k : ℕ) (n : NextValue) → Nearest (By k) v n → Nearest (By (k + 1)) v (with_cut r v ((field k).high + 1) (with_cut r v (field k).low n))
  nearest_box k n m =
      nearest_with r v ((field k).high + 1) (Lower k) (By (k + 1)) to of (λ l h. (past ((field k).high + 1) l h, l, (k, omega arith, inr refl)))
      (λ y d. d.0.high) (with_cut r v (field k).low n)
      (nearest_with r v (field k).low (By k) (Lower k) (λ y. inl) split (λ l h. inr (past (field k).low l h, l, refl)) high n m)
    where
      split : (y : ℕ) → Lower k y → By k y ⊎ (y ≡ (field k).low)
      split y (inl b) = inl b
      split y (inr b) = inr b.2

      high : (y : ℕ) → Lower k y → y ≤ r.high
      high y (inl b) = b.0.high
      high y (inr b) = b.0.high

      to : (y : ℕ) → Lower k y → By (k + 1) y
      to y (inl b) = (b.0, b.1, (b.2.0, omega (arith, b.2.1), b.2.2))
      to y (inr b) = (b.0, b.1, (k, omega arith, inl b.2))

      of : (y : ℕ) → By (k + 1) y → Lower k y ⊎ (y ≡ (field k).high + 1)
      of y (i, l, (j, h, at)) = elim (dec_lt j k) [
        | yes a ↦ inl (inl (i, l, (j, a, at)))
        | no a ↦ let e : j ≡ k = omega arith in last e at
      ]
        where
          last : j ≡ k → (y ≡ (field j).low) ⊎ (y ≡ (field j).high + 1) → Lower k y ⊎ (y ≡ (field k).high + 1)
          last e (inl q) = inl (inr (i, l, q ∙ (λ x. (field (e x)).low)))
          last e (inr q) = inr (q ∙ (λ x. (field (e x)).high + 1))

  -- ---- of all boxes of a list

  of_cut : (count x : ℕ) → v < x → Cut r (tabulate field count) x → By count x
  of_cut count x l c = (c.inside, l, named c.at)
    where
      named : (x ≡ r.low) ⊎ ((q : Range) × Memᴰ q (tabulate field count) × ((x ≡ q.low) ⊎ (x ≡ q.high + 1)))
          → (j : ℕ) × (j < count) × ((x ≡ (field j).low) ⊎ (x ≡ (field j).high + 1))
      named (inl e) = let a = w.low in absurd (omega arith)
      named (inr b) =
          let m = member_at no_range b.0 (tabulate field count) b.1 in
          let j : m.0 < count = omega (arith, m.1, length_tabulate field count) in
          let e : field m.0 ≡ b.0 = sym (get_d_tabulate field count m.0 no_range j) ∙ m.2 in
          (m.0, j, subst (λ (q : Range). (x ≡ q.low) ⊎ (x ≡ q.high + 1)) (sym e) b.2)

  to_cut : (count x : ℕ) → By count x → Cut r (tabulate field count) x
  to_cut count x b =
      let j = b.2 in
      let l : j.0 < count = j.1 in
      let m : Memᴰ (field j.0) (tabulate field count) = subst (λ (q : Range). Memᴰ q (tabulate field count))
      (get_d_tabulate field count j.0 no_range l) (at_member no_range (tabulate field count) j.0 (omega (arith, length_tabulate field count))) in
      record { inside = b.0; at = inr (field j.0, m, j.2) }

  pub nearest_cut : (count : ℕ) (n : NextValue) → Nearest (By count) v n → Nearest (Cut r (tabulate field count)) v n
  nearest_cut count (comes w) m = (to_cut count w m.0, m.1, λ x c l. m.2 x (of_cut count x l c) l)
  nearest_cut count end m = λ x c l. m x (of_cut count x l c) l

-- ---- of the boxes of a mesh

module _ (m : Mesh) (f : ℕ) (r : Range) (v : ℕ) (w : Within r v) where
  abbrev field : ℕ → Range
  field k = field_of m.bounds.now m.boxes.at f k

  -- One more, q, of those that are counted: the cut before it, and then the one after it.
  pub nearest_both : (k : ℕ) (q : Range) → k < length (take m.boxes.count m.boxes.at) → q ≡ range_in m.bounds.now (get_or (take m.boxes.count m.boxes.at) k 0) f
      → (next low high : NextValue) → low ≡ with_cut r v q.low next → high ≡ with_cut r v (q.high + 1) low
      → Nearest (CutBy r field v k) v next → Nearest (CutBy r field v (k + 1)) v high
  nearest_both k q l e next low high a b n =
      let i : k < m.boxes.count = omega (arith, length-take m.boxes.count m.boxes.at) in
      let p : q ≡ field k = e ∙ (λ x. range_in m.bounds.now (get_or-take m.boxes.count m.boxes.at k 0 i x) f) in
      subst (Nearest (CutBy r field v (k + 1)) v)
      (sym (b ∙ ap (λ (n : NextValue). with_cut r v (q.high + 1) n) a ∙ ap (λ (x : Range). with_cut r v (x.high + 1) (with_cut r v x.low next)) p))
      (nearest_box r field v w k next n)

  -- Of all of them.
  pub nearest_all : (k : ℕ) (next : NextValue) → k ≡ length (take m.boxes.count m.boxes.at)
      → Nearest (CutBy r field v k) v next → Nearest (Cut r (fields_of m f)) v next
  nearest_all k next e n =
      let few = m.listed.few in
      let long = m.listed.long in
      let i : k ≡ m.boxes.count = omega (arith, length-take m.boxes.count m.boxes.at) in
      nearest_cut r field v w m.boxes.count next (subst (λ (k : ℕ). Nearest (CutBy r field v k) v next) i n)
