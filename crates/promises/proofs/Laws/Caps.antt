-- What kinds look at: the bits of a mask, coefficients that are ⪰ others or not, of any lists and of two rows, and the caps among the frames of a table.
-- Assumes nothing.
use Prim.Native.Nat.{ℕ, suc, ◌+◌, ◌-◌, ◌*◌, ◌/◌, ◌%◌, ◌^◌, ◌≤◌, ◌<◌}
use mathlib.Core.Path.{◌≡◌, sym, ap, ◌∙◌}
use mathlib.Core.Logic.{◌↔◌, inl, inr}
use mathlib.Core.Bool.{Bool}
use mathlib.Core.List.Memᴰ
use mathlib.Core.List.{List, [], ◌∷◌, map, Memᴰ}
use native.Mathlib.Nat.{add-mul-div_left, div-eq_of_lt, mod-lt, mod-add-div}
use native.Mathlib.Decide.{dec_lt}
use native.Mathlib.Omega.{arith}
use lib.Dec.{eqb, ltb}
use lib.ListN.{length, get_or, get_or-eq_default}
use lib.Pow.{pow_pos}
use Rattle.policy.specs.Model.{Coefficients, Table, row_at}
use Rattle.policy.specs.Wellformed.{Wellformed}
use Rattle.base.specs.Lists.{some}
use Rattle.base.proofs.Laws.Decides.{decides_eqb, decides_ltb, decided}
use Rattle.base.proofs.Laws.Members.{Some, some_decides}
use Rattle.relations.specs.Coefficients.{AtLeast}
use Rattle.frames.specs.Caps.{Cap}
use Rattle.frames.specs.Kinds.{of_entity, of_cap, of_floor, of_filter, of_row}
use Rattle.reader.specs.Frames.{Frame, a_frame, a_row, no_frame}
use Rattle.reader.specs.Rules.{cap_frames, frames_of}
use Rattle.reader.proofs.Laws.States.{byte_in}
use Rattle.reader.proofs.Laws.Sequence.{not_among}
use Rattle.kinds.specs.Meanings.{IsRow, Stronger}
use Rattle.promises.specs.KindPromises.{HasBit, SomeSmaller, ProtectsLess}

-- ---- masks

-- A mask has the bit exactly where its quotient by the bit's value is odd.
module _ (mask u : ℕ) where
  has_odd : HasBit mask u → (mask / (2 ^ u)) % 2 ≡ 0 → ⊥
  has_odd h e =
      let d = div-eq_of_lt h.small in
      let q = ap (λ (x : ℕ). x / (2 ^ u)) h.sum ∙ add-mul-div_left h.lower (1 + 2 * h.higher) (pow_pos u) in
      omega arith

  odd_has : ((mask / (2 ^ u)) % 2 ≡ 0 → ⊥) → HasBit mask u
  odd_has n =
      let q : 1 + 2 * ((mask / (2 ^ u)) / 2) ≡ mask / (2 ^ u) = omega arith in
      record {
        lower = mask % (2 ^ u);
        higher = (mask / (2 ^ u)) / 2;
        small = mod-lt mask (pow_pos u);
        sum = rw q (sym (mod-add-div mask (2 ^ u)));
      }

  pub lacks_bit : ((mask / (2 ^ u)) % 2 ≡ 0) ↔ (HasBit mask u → ⊥)
  lacks_bit = (
    λ e h. has_odd h e,
    λ n. elim (decided (eqb ((mask / (2 ^ u)) % 2) 0) (decides_eqb ((mask / (2 ^ u)) % 2) 0)) [
      | inl e ↦ e
      | inr o ↦ absurd (n (odd_has o))
    ],
  )

-- ---- coefficients

-- Of as many coefficients on both sides: not ⪰ exactly where some is smaller.
module _ (c d : Coefficients) (same : length c ≡ length d) where
  abbrev smaller : ℕ → Bool
  smaller k = ltb (get_or c k 0) (get_or d k 0)

  -- Past the end both have 0.
  none_past : (Some (length d) (λ k. get_or c k 0 < get_or d k 0) → ⊥) → (k : ℕ) → get_or c k 0 < get_or d k 0 → ⊥
  none_past n k h = elim (dec_lt k (length d)) [
    | yes b ↦ n (k, b, h)
    | no b ↦ let l : length d ≤ k = omega arith in let e = get_or-eq_default d 0 l in omega arith
  ]

  pub some_smaller : (AtLeast c d → ⊥) ↔ SomeSmaller c d
  some_smaller = (
    λ n. elim (decided (some (length d) smaller) (some_decides (length d) smaller {P = λ k. get_or c k 0 < get_or d k 0} (λ k b. decides_ltb _ _))) [
      | inl s ↦ (s.0, s.2)
      | inr none ↦ absurd (n (record { count = same; none_smaller = none_past none }))
    ],
    λ s a. a.none_smaller s.0 s.1,
  )

  -- They are ⪰ exactly where none is.
  none_smaller : AtLeast c d ↔ (SomeSmaller c d → ⊥)
  none_smaller = (λ a s. a.none_smaller s.0 s.1, λ n. record { count = same; none_smaller = λ k h. n (k, h) })

-- Of two rows: the first protects less, or not less.
module _ (t : Table) (w : Wellformed t) (i j : ℕ) (hi : IsRow t i) (hj : IsRow t j) where
  same_count : length (row_at t i).coefficients ≡ length (row_at t j).coefficients
  same_count = (w.row i hi).coefficients.three ∙ sym (w.row j hj).coefficients.three

  pub protects_less : (Stronger t i j → ⊥) ↔ ProtectsLess t i j
  protects_less = some_smaller _ _ same_count

  pub protects_enough : Stronger t i j ↔ (ProtectsLess t i j → ⊥)
  protects_enough = none_smaller _ _ same_count

-- ---- the cap among the frames

-- The cap that a frame says.
abbrev caps_in : Frame → List Cap
caps_in (a_frame of_entity v) = []
caps_in (a_frame of_cap v) = v ∷ []
caps_in (a_frame of_floor v) = []
caps_in (a_frame of_filter v) = []
caps_in (a_frame of_row v) = []
caps_in no_frame = []

-- The caps are in order: that of a technology stands at its place.
cap_place_lem : (v : Cap) (n : ℕ) (cs : List Coefficients) → Memᴰ (a_frame of_cap v) (cap_frames n cs)
    → (n ≤ v.technology) × (get_or cs (v.technology - n) [] ≡ v.coefficients)
cap_place_lem v n [] m = absurd (Memᴰ.not-nil m)
cap_place_lem v n (c ∷ cs) m = elim (Memᴰ.cases_cons m) [
  | inl e ↦
      let q = ap caps_in e in
      let r : v ≡ record { technology = n; coefficients = c } = cc in
      let x = ap (λ (u : Cap). u.technology) r in
      let z : v.technology - n ≡ 0 = omega arith in
      (omega arith, rw z (sym (ap (λ (u : Cap). u.coefficients) r)))
  | inr k ↦
      let h = cap_place_lem v (suc n) cs k in
      let s : v.technology - n ≡ suc (v.technology - suc n) = omega (arith, h.0) in
      (omega (arith, h.0), rw s h.1)
]

-- A cap among the frames of a table is that of its technology.
pub cap_said : (t : Table) (v : Cap) → Memᴰ (a_frame of_cap v) (frames_of t) → get_or t.caps (v.technology - 1) [] ≡ v.coefficients
cap_said t v m = elim (Memᴰ.append_cases (map (a_frame of_entity) t.entities) m) [
  | inl a ↦ absurd (not_among (a_frame of_entity) (a_frame of_cap v) (λ e q. omega arith) t.entities a)
  | inr a ↦ elim (Memᴰ.append_cases (cap_frames 1 t.caps) a) [
    | inl b ↦ (cap_place_lem v 1 t.caps b).1
    | inr b ↦ elim (Memᴰ.cases_cons b) [
      | inl e ↦ let q = ap byte_in e in absurd (omega arith)
      | inr d ↦ elim (Memᴰ.append_cases (map (a_frame of_filter) t.filters) d) [
        | inl x ↦ absurd (not_among (a_frame of_filter) (a_frame of_cap v) (λ f q. omega arith) t.filters x)
        | inr x ↦ absurd (not_among a_row (a_frame of_cap v) (λ r q. omega arith) t.rows x)
      ]
    ]
  ]
]
