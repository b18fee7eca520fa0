-- The cuts of a field: which numbers they are and that they ascend; how many, the first, the one after another, and the last; and that from a
-- cut up to the next one all numbers are in the same ranges.
-- Assumes nothing.
use Prim.Native.Nat.{ℕ, zero, suc, ◌+◌, ◌*◌, ◌≤◌, ◌<◌}
use mathlib.Core.Path.{◌≡◌, refl, ◌∙◌}
use mathlib.Core.Bool.{Bool, true, false}
use mathlib.Core.Logic.{◌↔◌, ◌⊎◌, inl, inr}
use mathlib.Core.List.Memᴰ
use mathlib.Core.List.{List, [], ◌∷◌, Memᴰ}
use native.Mathlib.Omega.{arith}
use native.Mathlib.Decide.{dec_lt}
use lib.Dec.{eqb, ltb}
use lib.ListN.{length, get_or}
use borrow.Author.Tests.{ltb-true, ltb-false, eqb-true, eqb-false}
use Rattle.base.specs.Truths.{pick}
use Rattle.base.specs.Lists.{Ascends}
use Rattle.policy.specs.Model.{Range}
use Rattle.relations.specs.Ranges.{Within, within}
use Rattle.base.proofs.Laws.Ascending.{one_ascends}
use Rattle.base.proofs.Laws.Members.{member_at, at_member}
use Rattle.relations.proofs.Laws.Selectors.{within_decides}
use Rattle.mesh.specs.Mesh.{placed, cut_before, cuts}
use Rattle.mesh.specs.Promises.{Cut, Cuts}

-- ---- a number in its place

-- Of ascending numbers the first is the least.
pub first_least : (y : ℕ) (l : List ℕ) → Ascends ◌<◌ (y ∷ l) → (z : ℕ) → Memᴰ z (y ∷ l) → y ≤ z
first_least y l a z m = elim (Memᴰ.cases_cons m) [ inl e ↦ omega arith | inr k ↦ omega (arith, a.0 z k) ]

-- What holds where x is before the first number, where it is that number, and where it goes among the rest holds of x in its place.
placed_cases : (P : List ℕ → Type 0) (x y : ℕ) (l : List ℕ) → (x < y → P (x ∷ y ∷ l)) → (x ≡ y → P (y ∷ l)) → (y < x → P (y ∷ placed x l))
    → P (placed x (y ∷ l))
placed_cases P x y l before here after = go (ltb x y) refl (eqb x y) refl
  where
    go : (s : Bool) → ltb x y ≡ s → (t : Bool) → eqb x y ≡ t → P (pick s (x ∷ y ∷ l) (pick t (y ∷ l) (y ∷ placed x l)))
    go true e t f = before (ltb-true x y e)
    go false e true f = here (eqb-true x y f)
    go false e false f = after (let h = ltb-false x y e in omega (arith, eqb-false x y f))

-- The things of a list are its first one and those of the rest.
member_cons : (z y : ℕ) (l : List ℕ) → Memᴰ z (y ∷ l) ↔ ((z ≡ y) ⊎ Memᴰ z l)
member_cons z y l = (Memᴰ.cases_cons, λ s. elim s [ inl e ↦ Memᴰ.head e | inr m ↦ Memᴰ.tail m ])

-- With x in its place, the numbers are x and those before.
placed_exact : (x z : ℕ) (l : List ℕ) → Memᴰ z (placed x l) ↔ ((z ≡ x) ⊎ Memᴰ z l)
placed_exact x z [] = member_cons z x []
placed_exact x z (y ∷ l) =
    let rest = placed_exact x z l in
    placed_cases (λ m. Memᴰ z m ↔ ((z ≡ x) ⊎ Memᴰ z (y ∷ l))) x y l
    (λ h. member_cons z x (y ∷ l))
    (λ h. (inr, λ s. elim s [ inl e ↦ Memᴰ.head (e ∙ h) | inr m ↦ m ]))
    (λ h. (
      λ m. elim (Memᴰ.cases_cons m) [
        | inl e ↦ inr (Memᴰ.head e)
        | inr k ↦ elim (rest.0 k) [ inl e ↦ inl e | inr j ↦ inr (Memᴰ.tail j) ]
      ],
      λ s. elim s [
        | inl e ↦ Memᴰ.tail (rest.1 (inl e))
        | inr m ↦ elim (Memᴰ.cases_cons m) [ inl e ↦ Memᴰ.head e | inr k ↦ Memᴰ.tail (rest.1 (inr k)) ]
      ],
    ))

-- Ascending numbers ascend with x in its place.
placed_ascends : (x : ℕ) (l : List ℕ) → Ascends ◌<◌ l → Ascends ◌<◌ (placed x l)
placed_ascends x [] a = one_ascends ◌<◌ true x
placed_ascends x (y ∷ l) a =
    let rest = placed_ascends x l a.1 in
    placed_cases (Ascends ◌<◌) x y l
    (λ h. ((λ z m. omega (arith, first_least y l a z m)), a))
    (λ h. a)
    (λ h. ((λ z m. elim ((placed_exact x z l).0 m) [ inl e ↦ omega arith | inr k ↦ a.0 z k ]), rest))

-- One number more at most.
placed_few : (x : ℕ) (l : List ℕ) → length (placed x l) ≤ 1 + length l
placed_few x [] = omega arith
placed_few x (y ∷ l) =
    let rest = placed_few x l in
    placed_cases (λ m. length m ≤ 1 + length (y ∷ l)) x y l (λ h. omega arith) (λ h. omega arith) (λ h. omega arith)

-- ---- a cut

module _ (r : Range) (x : ℕ) (l : List ℕ) where
  -- What holds with x in its place where x is in the range, and without it where it is not, holds of the cut before x.
  cut_cases : (P : List ℕ → Type 0) → (Within r x → P (placed x l)) → ((Within r x → ⊥) → P l) → P (cut_before r x l)
  cut_cases P inside outside = go (within r x) refl
    where
      go : (t : Bool) → within r x ≡ t → P (pick t (placed x l) l)
      go true e = inside ((within_decides r x).yes e)
      go false e = outside ((within_decides r x).no e)

  -- With the cut before x the numbers are those before, and x where it is in the range.
  cut_exact : (z : ℕ) → Memᴰ z (cut_before r x l) ↔ ((Within r z × (z ≡ x)) ⊎ Memᴰ z l)
  cut_exact z =
      cut_cases (λ m. Memᴰ z m ↔ ((Within r z × (z ≡ x)) ⊎ Memᴰ z l))
      (λ w. (
        λ m. elim ((placed_exact x z l).0 m) [ inl e ↦ inl (rw e w, e) | inr k ↦ inr k ],
        λ s. (placed_exact x z l).1 (elim s [ inl h ↦ inl h.1 | inr k ↦ inr k ]),
      ))
      (λ n. (inr, λ s. elim s [ inl h ↦ absurd (n (rw (← h.1) h.0)) | inr k ↦ k ]))

  -- Ascending numbers ascend with the cut.
  cut_ascends : Ascends ◌<◌ l → Ascends ◌<◌ (cut_before r x l)
  cut_ascends a = cut_cases (Ascends ◌<◌) (λ w. placed_ascends x l a) (λ n. a)

  -- One cut more at most.
  cut_few : length (cut_before r x l) ≤ 1 + length l
  cut_few = cut_cases (λ m. length m ≤ 1 + length l) (λ w. placed_few x l) (λ n. omega arith)

-- ---- all cuts

-- The cuts are the numbers before which the range is to be cut.
cuts_exact : (r : Range) (qs : List Range) → r.low ≤ r.high → (x : ℕ) → Memᴰ x (cuts r qs) ↔ Cut r qs x
unfolding cuts
cuts_exact r [] o x = (
  λ m. elim (Memᴰ.cases_cons m) [
    | inl e ↦ record { inside = record { low = omega arith; high = omega arith }; at = inl e }
    | inr k ↦ absurd (Memᴰ.not-nil k)
  ],
  λ c. elim c.at [ inl e ↦ Memᴰ.head e | inr h ↦ absurd (Memᴰ.not-nil h.1) ],
)
cuts_exact r (q ∷ qs) o x =
    let low = cut_exact r q.low (cut_before r (q.high + 1) (cuts r qs)) x in
    let high = cut_exact r (q.high + 1) (cuts r qs) x in
    let rest = cuts_exact r qs o x in (
      λ m. elim (low.0 m) [
        | inl h ↦ record { inside = h.0; at = inr (q, Memᴰ.head refl, inl h.1) }
        | inr k ↦ elim (high.0 k) [
          | inl h ↦ record { inside = h.0; at = inr (q, Memᴰ.head refl, inr h.1) }
          | inr j ↦ more (rest.0 j)
        ]
      ],
      λ c. elim c.at [
        | inl e ↦ low.1 (inr (high.1 (inr (rest.1 (record { inside = c.inside; at = inl e })))))
        | inr h ↦ elim (Memᴰ.cases_cons h.1) [
          | inl e ↦ elim h.2 [
            | inl f ↦ low.1 (inl (c.inside, rw (← e) f))
            | inr f ↦ low.1 (inr (high.1 (inl (c.inside, rw (← e) f))))
          ]
          | inr k ↦ low.1 (inr (high.1 (inr (rest.1 (record { inside = c.inside; at = inr (h.0, k, h.2) })))))
        ]
      ],
    )
  where
    more : Cut r qs x → Cut r (q ∷ qs) x
    more c = record {
      inside = c.inside;
      at = elim c.at [ inl e ↦ inl e | inr h ↦ inr (h.0, Memᴰ.tail h.1, h.2) ];
    }

-- The cuts ascend.
cuts_ascend : (r : Range) (qs : List Range) → Ascends ◌<◌ (cuts r qs)
unfolding cuts
cuts_ascend r [] = one_ascends ◌<◌ true r.low
cuts_ascend r (q ∷ qs) =
    cut_ascends r q.low (cut_before r (q.high + 1) (cuts r qs)) (cut_ascends r (q.high + 1) (cuts r qs) (cuts_ascend r qs))

-- Of a field: its cuts are these and no others, ascending, each once.
pub cuts_laws : (r : Range) (qs : List Range) → r.low ≤ r.high → Cuts r qs
cuts_laws r qs o = record { exact = cuts_exact r qs o; ascend = cuts_ascend r qs }

-- A range's own low, and two cuts at most for each other range.
pub cuts_few : (r : Range) (qs : List Range) → length (cuts r qs) ≤ 1 + 2 * length qs
unfolding cuts
cuts_few r [] = omega arith
cuts_few r (q ∷ qs) =
    omega (arith, cut_few r q.low (cut_before r (q.high + 1) (cuts r qs)), cut_few r (q.high + 1) (cuts r qs), cuts_few r qs)

-- ---- places among ascending numbers

-- Of ascending numbers the one at the earlier place is less.
pub ascends_at : (l : List ℕ) → Ascends ◌<◌ l → (i j : ℕ) → i < j → j < length l → get_or l i 0 < get_or l j 0
ascends_at [] a i j h b = absurd (omega arith)
ascends_at (x ∷ l) a i zero h b = absurd (omega arith)
ascends_at (x ∷ l) a zero (suc j) h b = a.0 (get_or l j 0) (at_member 0 l j (omega arith))
ascends_at (x ∷ l) a (suc i) (suc j) h b = ascends_at l a.1 i j (omega arith) (omega arith)

-- And the lesser one stands at the earlier place.
places_ascend : (l : List ℕ) → Ascends ◌<◌ l → (i j : ℕ) → i < length l → get_or l i 0 < get_or l j 0 → i < j
places_ascend l a i j b h = elim (dec_lt i j) [
  | yes k ↦ k
  | no k ↦ elim (dec_lt j i) [
    | yes n ↦ let m = ascends_at l a j i n b in absurd (omega arith)
    | no n ↦ let e : i ≡ j = omega arith in let m : get_or l i 0 ≡ get_or l j 0 = rw e in absurd (omega arith)
  ]
]

-- Of ascending numbers whose first is at most x, one is the greatest that is.
greatest_at_most : (x : ℕ) (l : List ℕ) → Ascends ◌<◌ l → 0 < length l → get_or l 0 0 ≤ x
    → (i : ℕ) × (i < length l) × (get_or l i 0 ≤ x) × ((z : ℕ) → Memᴰ z l → z ≤ x → z ≤ get_or l i 0)
greatest_at_most x [] a b h = absurd (omega arith)
greatest_at_most x (y ∷ []) a b h =
    (0, omega arith, h, λ z m k. elim (Memᴰ.cases_cons m) [ inl e ↦ omega arith | inr j ↦ absurd (Memᴰ.not-nil j) ])
greatest_at_most x (y ∷ w ∷ l) a b h = elim (dec_lt x w) [
  | yes k ↦ (
    0,
    omega arith,
    h,
    λ z m n. elim (Memᴰ.cases_cons m) [
      | inl e ↦ omega arith
      | inr j ↦ let c = first_least w l a.1 z j in absurd (omega arith)
    ],
  )
  | no k ↦
      let rest = greatest_at_most x (w ∷ l) a.1 (omega arith) (omega arith) in (
        suc rest.0,
        omega (arith, rest.1),
        rest.2,
        λ z m n. elim (Memᴰ.cases_cons m) [
          | inl e ↦ let c = a.0 w (Memᴰ.head refl) in let d = rest.3 w (Memᴰ.head refl) (omega arith) in omega arith
          | inr j ↦ rest.3 z j n
        ],
      )
]

-- ---- the first cut, the next one, the last

module _ (r : Range) (qs : List Range) (o : r.low ≤ r.high) where
  -- At each place stands a cut.
  cut_at : (i : ℕ) → i < length (cuts r qs) → Cut r qs (get_or (cuts r qs) i 0)
  cut_at i h = (cuts_exact r qs o (get_or (cuts r qs) i 0)).0 (at_member 0 (cuts r qs) i h)

  -- Each cut stands at a place.
  at_cut : (x : ℕ) → Cut r qs x → (k : ℕ) × (k < length (cuts r qs)) × (get_or (cuts r qs) k 0 ≡ x)
  at_cut x c = member_at 0 x (cuts r qs) ((cuts_exact r qs o x).1 c)

  -- The first cut is the range's low.
  pub cuts_first : (0 < length (cuts r qs)) × (get_or (cuts r qs) 0 0 ≡ r.low)
  cuts_first =
      let h = at_cut r.low (record { inside = record { low = omega arith; high = o }; at = inl refl }) in
      let b = h.1 in
      let e = h.2 in
      let w = (cut_at 0 (omega arith)).inside.low in (
        omega arith,
        elim (dec_lt 0 h.0) [
          | yes k ↦ let m = ascends_at (cuts r qs) (cuts_ascend r qs) 0 h.0 k b in absurd (omega arith)
          | no k ↦ let z : h.0 ≡ 0 = omega arith in rw z at e
        ],
      )

  -- The least cut after one stands at the next place.
  pub cuts_next : (i : ℕ) → i < length (cuts r qs) → (w : ℕ) → Cut r qs w → get_or (cuts r qs) i 0 < w
      → ((x : ℕ) → Cut r qs x → get_or (cuts r qs) i 0 < x → w ≤ x) → (i + 1 < length (cuts r qs)) × (get_or (cuts r qs) (i + 1) 0 ≡ w)
  cuts_next i b w c h least =
      let k = at_cut w c in
      let kb = k.1 in
      let e = k.2 in
      let a = cuts_ascend r qs in
      let p = places_ascend (cuts r qs) a i k.0 b (omega arith) in
      let m = least (get_or (cuts r qs) (i + 1) 0) (cut_at (i + 1) (omega arith)) (ascends_at (cuts r qs) a i (i + 1) (omega arith) (omega arith)) in (
        omega arith,
        elim (dec_lt (i + 1) k.0) [
          | yes n ↦ let d = ascends_at (cuts r qs) a (i + 1) k.0 n kb in absurd (omega arith)
          | no n ↦ let z : k.0 ≡ i + 1 = omega arith in rw z at e
        ],
      )

  -- A cut after which there is none stands at the last place.
  pub cuts_last : (i : ℕ) → i < length (cuts r qs) → ((x : ℕ) → Cut r qs x → get_or (cuts r qs) i 0 < x → ⊥) → i + 1 ≡ length (cuts r qs)
  cuts_last i b n = elim (dec_lt (i + 1) (length (cuts r qs))) [
    | yes k ↦ absurd (n (get_or (cuts r qs) (i + 1) 0) (cut_at (i + 1) k) (ascends_at (cuts r qs) (cuts_ascend r qs) i (i + 1) (omega arith) k))
    | no k ↦ omega arith
  ]

-- ---- between two cuts

-- Two numbers of the range, where each cut up to the greater is up to the lesser, are in the same of the ranges.
pub same_side : (r : Range) (qs : List Range) (c x : ℕ) → Within r c → Within r x → c ≤ x → ((y : ℕ) → Cut r qs y → y ≤ x → y ≤ c)
    → (q : Range) → Memᴰ q qs → Within q c ↔ Within q x
same_side r qs c x wc wx h free q m =
    let a = wc.low in
    let b = wx.high in (
      λ w. record {
        low = omega (arith, w.low);
        high = elim (dec_lt q.high x) [
          | yes k ↦
              let u = w.high in
              let y = free (q.high + 1) (record { inside = record { low = omega arith; high = omega arith }; at = inr (q, m, inr refl) }) (omega arith) in
              absurd (omega arith)
          | no k ↦ omega arith
        ];
      },
      λ w. record {
        low = elim (dec_lt c q.low) [
          | yes k ↦
              let u = w.low in
              let y = free q.low (record { inside = record { low = omega arith; high = omega arith }; at = inr (q, m, inl refl) }) (omega arith) in
              absurd (omega arith)
          | no k ↦ omega arith
        ];
        high = omega (arith, w.high);
      },
    )

-- For each number of the range there is a cut, not above it, that is in the same of the ranges.
pub cuts_interval : (r : Range) (qs : List Range) → r.low ≤ r.high → (x : ℕ) → Within r x
    → (i : ℕ) × (i < length (cuts r qs)) × (get_or (cuts r qs) i 0 ≤ x) × ((q : Range) → Memᴰ q qs → Within q (get_or (cuts r qs) i 0) ↔ Within q x)
cuts_interval r qs o x w =
    let f = cuts_first r qs o in
    let h = greatest_at_most x (cuts r qs) (cuts_ascend r qs) f.0 (omega (arith, w.low, f.1)) in (
      h.0,
      h.1,
      h.2,
      same_side r qs (get_or (cuts r qs) h.0 0) x (cut_at r qs o h.0 h.1).inside w h.2
          (λ y c. h.3 y ((cuts_exact r qs o y).1 c)),
    )
