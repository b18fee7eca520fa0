-- The search is right: a packet that it finds is the least of the row's that no box claims, and where it finds none there is none.
-- In order: narrowed boxes of one size, the least high, what the boxes claim, the least packet, the candidates of one field, the search.
-- Assumes nothing.
use Prim.Native.Nat.{ℕ, zero, suc, ◌+◌, ◌-◌, ◌≤◌, ◌<◌, min}
use mathlib.Core.Path.{◌≡◌, refl, subst}
use mathlib.Core.Bool.{Bool, true, false, ◌&&◌}
use mathlib.Core.Logic.{inl, inr}
use mathlib.Core.List.Memᴰ
use mathlib.Core.List.{List, [], ◌∷◌, Memᴰ}
use native.Mathlib.Omega.{arith}
use native.Mathlib.Decide.{dec_lt}
use lib.Dec.{leb, ltb}
use lib.ListN.{length, drop}
use borrow.Author.Tests.{ltb-true, ltb-false}
use Rattle.base.specs.Truths.{pick, Decides}
use Rattle.policy.specs.Model.{Range, Selector, Packet}
use Rattle.policy.specs.Wellformed.{Ordered}
use Rattle.relations.specs.Ranges.{Within, within}
use Rattle.relations.specs.Selectors.{Holds}
use Rattle.base.proofs.Laws.Decides.{decides_leb, decides_ltb, decides_and, decides_holds}
use Rattle.relations.proofs.Laws.Selectors.{within_decides, holds_both, holds_first, holds_rest, holds_nothing, not_longer, not_shorter}
use Rattle.covers.specs.Least.{SearchResult, found, none, ◌≤ₚ◌, done, less, same, Claimed, Least, Right}
use Rattle.covers.specs.Views.{comes, end}
use Rattle.search.specs.Search.{first, narrow, lesser, least, or_later, onward, tries, from, search}
use Rattle.base.proofs.Laws.Passing.{passing_of, passing_in}
use Rattle.covers.proofs.Laws.Least.{EachSized, sized_member}

-- ---- narrowed boxes of one size

sized_narrow : (n v : ℕ) (bs : List Selector) → EachSized (suc n) bs → EachSized n (narrow v bs)
sized_narrow n v [] s = tt
sized_narrow n v ([] ∷ bs) s = absurd (omega arith)
sized_narrow n v ((r ∷ b) ∷ bs) s =
    let rest = sized_narrow n v bs s.1 in
    elim (within r v) as (λ t. EachSized n (pick t (b ∷ narrow v bs) (narrow v bs))) [ true ↦ (omega arith, rest) | false ↦ rest ]

-- ---- the least high

-- The lesser is at most m, and at most a high that is not below v; and it is below v only where m is.
lesser_bounds : (v h m : ℕ) → (lesser v h m ≤ m) × (v ≤ h → lesser v h m ≤ h) × (min v m ≤ lesser v h m)
lesser_bounds v h m = go (leb v h && ltb h m) (decides_and (leb v h) (ltb h m) (decides_leb v h) (decides_ltb h m))
  where
    go : (t : Bool) → Decides t ((v ≤ h) × (h < m)) → (pick t h m ≤ m) × (v ≤ h → pick t h m ≤ h) × (min v m ≤ pick t h m)
    go true d = let k = d.yes refl in (omega arith, λ l. omega arith, omega arith)
    go false d = (omega arith, λ l. elim (dec_lt h m) [ yes k ↦ absurd (d.no refl (l, k)) | no k ↦ omega arith ], omega arith)

least_le : (v m : ℕ) (bs : List Selector) → least v m bs ≤ m
least_le v m [] = omega arith
least_le v m (b ∷ bs) = let k = lesser_bounds v (first b).high m in omega (arith, least_le v (lesser v (first b).high m) bs)

-- The least is below v only where m is.
least_from : (v m : ℕ) (bs : List Selector) → min v m ≤ least v m bs
least_from v m [] = omega arith
least_from v m (b ∷ bs) = let k = lesser_bounds v (first b).high m in omega (arith, least_from v (lesser v (first b).high m) bs)

-- The least is at most each box's first high that is not below v.
least_high : (v m : ℕ) (bs : List Selector) (b : Selector) → Memᴰ b bs → v ≤ (first b).high → least v m bs ≤ (first b).high
least_high v m [] b i h = absurd (Memᴰ.not-nil i)
least_high v m (c ∷ bs) b i h = elim (Memᴰ.cases_cons i) [
  | inl e ↦ rw (← e) (let k = (lesser_bounds v (first b).high m).1 h in omega (arith, least_le v (lesser v (first b).high m) bs))
  | inr k ↦ least_high v (lesser v (first c).high m) bs b k h
]

-- ---- what the boxes claim

-- A box that holds v in its first field is narrowed to its further fields.
narrow_in : (v : ℕ) (bs : List Selector) (r : Range) (b : Selector) → Within r v → Memᴰ (r ∷ b) bs → Memᴰ b (narrow v bs)
narrow_in v bs r b w i =
    passing_in (λ c. within (first c) v) (drop 1) bs (r ∷ b) i (decides_holds (within r v) (within_decides r v) w)

-- And each narrowed box is what is left of such a box.
narrow_of : (n v : ℕ) (bs : List Selector) (b : Selector) → EachSized (suc n) bs → Memᴰ b (narrow v bs)
    → (r : Range) × Within r v × Memᴰ (r ∷ b) bs
narrow_of n v bs b s i =
    let h = passing_of (λ c. within (first c) v) (drop 1) bs b i in
    go h.0 (sized_member (suc n) bs s h.0 h.1) h.1 h.2 h.3
  where
    go : (c : Selector) → length c ≡ suc n → Memᴰ c bs → within (first c) v ≡ true → b ≡ drop 1 c → (r : Range) × Within r v × Memᴰ (r ∷ b) bs
    go [] l m e q = absurd (omega arith)
    go (r ∷ c) l m e q = (r, (within_decides r v).yes e, rw q m)

-- What the boxes claim with v in the first field the narrowed ones claim.
narrow_claims : (v : ℕ) (bs : List Selector) (q : Packet) → Claimed bs (v ∷ q) → Claimed (narrow v bs) q
narrow_claims v bs q c = go c.box c.listed c.holds
  where
    go : (b : Selector) → Memᴰ b bs → Holds b (v ∷ q) → Claimed (narrow v bs) q
    go [] i h = absurd (not_longer v q h)
    go (r ∷ b) i h = record { box = b; listed = narrow_in v bs r b (holds_first r b v q h) i; holds = holds_rest r b v q h }

-- ---- the least packet that is not claimed, whatever claims

pub record LeastOf (C : Packet → Type 0) (s : Selector) (p : Packet) : Type 0 where
  pub inside : Holds s p
  pub unclaimed : C p → ⊥
  pub least : (q : Packet) → Holds s q → (C q → ⊥) → p ≤ₚ q

to_least : {s : Selector} {bs : List Selector} {p : Packet} → Least s bs p → LeastOf (Claimed bs) s p
to_least m = record { inside = m.inside; unclaimed = m.unclaimed; least = m.least }

of_least : {s : Selector} {bs : List Selector} {p : Packet} → LeastOf (Claimed bs) s p → Least s bs p
of_least m = record { inside = m.inside; unclaimed = m.unclaimed; least = m.least }

-- With v in the first field, where what claims with v there is C', and each packet below v is claimed.
pub least_here : (C C' : Packet → Type 0) (r : Range) (rs : Selector) (v : ℕ) (p : Packet) → Within r v → ((q : Packet) → C (v ∷ q) → C' q)
    → ((q : Packet) → C' q → C (v ∷ q)) → ((x : ℕ) (q : Packet) → r.low ≤ x → x < v → Holds rs q → C (x ∷ q)) → LeastOf C' rs p
    → LeastOf C (r ∷ rs) (v ∷ p)
least_here C C' r rs v p w to of passed m = record {
  inside = holds_both r rs v p w m.inside;
  unclaimed = λ c. m.unclaimed (to p c);
  least = lowest;
}
  where
    lowest : (q : Packet) → Holds (r ∷ rs) q → (C q → ⊥) → (v ∷ p) ≤ₚ q
    lowest [] t f = absurd (not_shorter r rs t)
    lowest (x ∷ q) t f = elim (dec_lt v x) [
      | yes a ↦ less a
      | no a ↦ elim (dec_lt x v) [
        | yes b ↦ absurd (f (passed x q (holds_first r rs x q t).low b (holds_rest r rs x q t)))
        | no b ↦ let e : v ≡ x = omega arith in same e (m.least q (holds_rest r rs x q t) (λ c. f (subst (λ (y : ℕ). C (y ∷ q)) e (of q c))))
      ]
    ]

-- ---- the candidates of one field

module _ (r : Range) (rs : Selector) (bs : List Selector) (sized : EachSized (suc (length rs)) bs) where
  -- The key step: from a candidate up to the least high, past which the next one is, no box's claim ends.
  claims_reach : (v x : ℕ) (q : Packet) → v ≤ x → x ≤ least v r.high bs → Claimed (narrow v bs) q → Claimed bs (x ∷ q)
  claims_reach v x q l h c =
      let o = narrow_of (length rs) v bs c.box sized c.listed in
      let w = o.1 in
      let k = least_high v r.high bs (o.0 ∷ c.box) o.2 w.high in
      record { box = o.0 ∷ c.box; listed = o.2; holds = holds_both o.0 c.box x q (record { low = omega arith; high = omega arith }) c.holds }

  -- Each packet of the row whose first field is below v is claimed.
  abbrev Passed : ℕ → Type 0
  Passed v = (x : ℕ) (q : Packet) → r.low ≤ x → x < v → Holds rs q → Claimed bs (x ∷ q)

  -- Where nothing is found at v, all up to the next candidate is claimed.
  pass : (v : ℕ) → Passed v → Right rs (narrow v bs) none → Passed (least v r.high bs + 1)
  pass v g c x q l h t = elim (dec_lt x v) [
    | yes k ↦ g x q l k t
    | no k ↦ claims_reach v x q (omega arith) (omega arith) (c q t)
  ]

  all_passed : (v : ℕ) → r.high < v → Passed v → Right (r ∷ rs) bs none
  all_passed v h g [] t = absurd (not_shorter r rs t)
  all_passed v h g (x ∷ q) t = let w = holds_first r rs x q t in g x q w.low (omega arith) (holds_rest r rs x q t)

  -- What is found at v, where all before it is claimed, is the least.
  here : (v : ℕ) (p : Packet) → Within r v → Passed v → Least rs (narrow v bs) p → Least (r ∷ rs) bs (v ∷ p)
  here v p w g m =
      let k = least_from v r.high bs in
      let i = w.high in
      of_least
      (least_here (Claimed bs) (Claimed (narrow v bs)) r rs v p w (narrow_claims v bs) (λ q. claims_reach v v q (omega arith) (omega arith)) g (to_least m))

  -- n candidates are enough where n reaches past the row's high.
  tries_right : (rest : List Selector → SearchResult) → ((v : ℕ) → Right rs (narrow v bs) (rest (narrow v bs)))
      → (n v : ℕ) → Within r v → r.high < v + n → Passed v → Right (r ∷ rs) bs (tries rest n v r.high bs)
  unfolding tries
  tries_right rest ok zero v w e g = absurd (omega arith)
  tries_right rest ok (suc n) v w e g =
      go (rest (narrow v bs)) (ok v) (ltb (least v r.high bs) r.high) refl (λ x. tries_right rest ok n x)
    where
      go : (o : SearchResult) → Right rs (narrow v bs) o → (t : Bool) → ltb (least v r.high bs) r.high ≡ t
          → ((x : ℕ) → Within r x → r.high < x + n → Passed x → Right (r ∷ rs) bs (tries rest n x r.high bs))
          → Right (r ∷ rs) bs (or_later v o (onward (pick t (comes (least v r.high bs + 1)) end) (λ x. tries rest n x r.high bs)))
      go (found p) m t l more = here v p w g m
      go none m true l more =
          let h = ltb-true (least v r.high bs) r.high l in
          let k = least_from v r.high bs in
          more (least v r.high bs + 1) (record { low = omega arith; high = omega arith }) (omega arith) (pass v g m)
      go none m false l more =
          let h = ltb-false (least v r.high bs) r.high l in
          all_passed (least v r.high bs + 1) (omega arith) (pass v g m)

-- ---- the search

-- Where no field is left, a box claims the packet.
no_fields : (b : Selector) (bs : List Selector) → EachSized zero (b ∷ bs) → Right [] (b ∷ bs) none
no_fields [] bs s q h = record { box = []; listed = Memᴰ.head refl; holds = h }
no_fields (r ∷ b) bs s q h = absurd (omega arith)

-- The row is to be ordered: its low is tried with no test that it is at most the high.
pub search_right : (s : Selector) (bs : List Selector) → Ordered s → EachSized (length s) bs → Right s bs (search s bs)
unfolding search from
search_right [] [] o n = record { inside = holds_nothing; unclaimed = λ c. Memᴰ.not-nil c.listed; least = lowest }
  where
    lowest : (q : Packet) → Holds [] q → (Claimed [] q → ⊥) → [] ≤ₚ q
    lowest [] h f = done
    lowest (x ∷ q) h f = absurd (not_longer x q h)
search_right [] (b ∷ bs) o n = no_fields b bs n
search_right (r ∷ rs) bs o n =
    tries_right r rs bs n (λ cs. search rs cs) (λ v. search_right rs (narrow v bs) o.1 (sized_narrow (length rs) v bs n))
    (suc (r.high - r.low)) r.low (record { low = omega arith; high = o.0 }) (omega arith) (λ x q l h t. absurd (omega arith))
