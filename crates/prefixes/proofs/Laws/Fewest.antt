-- No list of prefixes that covers just a range has fewer than the range's prefixes. From any such list one is made that covers just the range's pairs: an
-- address that stands alone must be there by itself, and is left out; the other prefixes lose their last bit.
-- Assumes nothing.
use Prim.Native.Nat.{ℕ, suc, ◌+◌, ◌*◌, ◌-◌, ◌/◌, ◌%◌, ◌^◌, ◌≤◌, ◌<◌, min}
use mathlib.Core.Path.{◌≡◌, sym, ap, subst, ◌∙◌}
use mathlib.Core.Bool.{Bool, true, false, not, ◌&&◌}
use mathlib.Core.Logic.{◌↔◌, inl, inr}
use mathlib.Core.List.Memᴰ
use mathlib.Core.List.{List, [], ◌∷◌, map, Memᴰ}
use native.Mathlib.Decide.{dec_lt}
use native.Mathlib.Omega.{arith}
use native.Mathlib.Nat.{pow-suc}
use lib.Dec.{eqb}
use lib.ListN.{length, length-map}
use Rattle.base.specs.Truths.{pick, Decides}
use Rattle.base.specs.Lists.{passing}
use Rattle.base.proofs.Laws.Decides.{decides_not, decides_and, decides_eqb, decides_holds, decides_fails}
use Rattle.base.proofs.Laws.Passing.{passing_of, passing_in}
use Rattle.policy.specs.Model.{Range}
use Rattle.relations.specs.Ranges.{Within}
use Rattle.prefixes.specs.Prefixes.{Prefix, IsPrefix, InPrefix, ArePrefixes, InSome, CoversJust, pairs, prefixes}
use Rattle.prefixes.proofs.Laws.Bits.{bit_before}
use Rattle.prefixes.proofs.Laws.Steps.{alone, in_whole, itself_in, alone_prefix, half, in_half, half_in, half_prefix}
use Rattle.prefixes.proofs.Laws.Lists.{around, by_pairs}
use Rattle.prefixes.proofs.Laws.Order.{length_around}

-- Some prefixes, at most n, whose addresses are just those of P.
record Some (width : ℕ) (P : ℕ → Type 0) (n : ℕ) : Type 0 where
  list : List Prefix
  each : ArePrefixes width list
  covers : (x : ℕ) → InSome width list x ↔ P x
  few : length list ≤ n

-- The same addresses, said otherwise.
some_as : {width n : ℕ} {P Q : ℕ → Type 0} → ((x : ℕ) → P x ↔ Q x) → Some width P n → Some width Q n
some_as e s =
    record {
      list = s.list;
      each = s.each;
      covers = λ x. (λ i. (e x).0 ((s.covers x).0 i), λ q. (s.covers x).1 ((e x).1 q));
      few = s.few;
    }

member_counts : {A : Type 0} {x : A} (l : List A) → Memᴰ x l → 1 ≤ length l
member_counts [] m = absurd (Memᴰ.not-nil m)
member_counts (y ∷ l) m = omega arith

-- ---- one left out

module _ {A : Type 0} (test : A → Bool) where
  passing_few : (l : List A) → length (passing test (λ x. x) l) ≤ length l
  passing_few [] = omega arith
  passing_few (y ∷ l) =
      let h = passing_few l in
      elim (test y) as (λ b. length (pick b (y ∷ passing test (λ x. x) l) (passing test (λ x. x) l)) ≤ suc (length l)) [ true ↦ omega arith | false ↦ omega arith ]

  passing_less : (l : List A) (x : A) → Memᴰ x l → test x ≡ false → length (passing test (λ x. x) l) < length l
  passing_less [] x m e = absurd (Memᴰ.not-nil m)
  passing_less (y ∷ l) x m e = elim (Memᴰ.cases_cons m) [
    | inl q ↦ let h = passing_few l in let f : test y ≡ false = ap test (sym q) ∙ e in rw f (omega arith)
    | inr k ↦
        let h = passing_less l x k e in
        elim (test y) as (λ b. length (pick b (y ∷ passing test (λ x. x) l) (passing test (λ x. x) l)) < suc (length l)) [ true ↦ omega arith | false ↦ omega arith ]
  ]

-- Of a pair x is there and s is not; P' is P without x.
module _ (width : ℕ) {P P' : ℕ → Type 0} (x s : ℕ) (pair : x / 2 ≡ s / 2) (there : P x) (missing : P s → ⊥) (less : (y : ℕ) → P' y ↔ (P y × (y ≡ x → ⊥)))
    {n : ℕ} (c : Some (suc width) P n) where
  -- A prefix of more than one address has both of a pair or none.
  by_itself : (q : Prefix) → Memᴰ q c.list → InPrefix (suc width) q x → (q.address ≡ x) × (q.length ≡ suc width)
  by_itself q m i =
      let p = c.each q m in
      elim (dec_lt q.length (suc width)) [
        | yes l ↦
            let short : q.length ≤ width = omega arith in
            absurd (missing ((c.covers s).0 (q, m, half_in width q short s (subst (InPrefix width (half q)) pair (in_half width q short x i)))))
        | no l ↦ (sym (in_whole (suc width) q x p.address (omega arith) i), let k = p.length in omega arith)
      ]

  abbrev is_x : Prefix → Bool
  is_x q = eqb q.address x && eqb q.length (suc width)

  is_x_decides : (q : Prefix) → Decides (is_x q) ((q.address ≡ x) × (q.length ≡ suc width))
  is_x_decides q = decides_and (eqb q.address x) (eqb q.length (suc width)) (decides_eqb q.address x) (decides_eqb q.length (suc width))

  abbrev other : Prefix → Bool
  other q = not (is_x q)

  other_decides : (q : Prefix) → Decides (other q) ((q.address ≡ x) × (q.length ≡ suc width) → ⊥)
  other_decides q = decides_not (is_x q) (is_x_decides q)

  abbrev others : List Prefix
  others = passing other (λ q. q) c.list

  of_others : (q : Prefix) → Memᴰ q others → Memᴰ q c.list × (other q ≡ true)
  of_others q m =
      let h = passing_of other (λ q. q) c.list q m in
      (rw h.3 h.1, rw h.3 h.2)

  covered : (y : ℕ) → InSome (suc width) others y → P' y
  covered y i =
      let o = of_others i.0 i.1 in
      (less y).1 (
        (c.covers y).0 (i.0, o.0, i.2),
        λ e. (other_decides i.0).yes o.1 (by_itself i.0 o.0 (subst (InPrefix (suc width) i.0) e i.2)),
      )

  kept : (y : ℕ) → P' y → InSome (suc width) others y
  kept y p =
      let h = (less y).0 p in
      let i = (c.covers y).1 h.0 in (
        i.0,
        passing_in other (λ q. q) c.list i.0 i.1
            (decides_holds (other i.0) (other_decides i.0)
            (λ e. h.1 (in_whole (suc width) i.0 y (c.each i.0 i.1).address (let k = e.1 in omega arith) i.2 ∙ e.0))),
        i.2,
      )

  left_out : (m : ℕ) × (n ≡ suc m) × Some (suc width) P' m
  left_out =
      let i = (c.covers x).1 there in
      let e = by_itself i.0 i.1 i.2 in
      let l : length others < length c.list =
      passing_less other c.list i.0 i.1 (decides_fails (other i.0) (other_decides i.0) (λ f. f e)) in
      let k = c.few in (
        n - 1,
        omega arith,
        record {
          list = others;
          each = λ q m. c.each q (of_others q m).0;
          covers = λ y. (covered y, kept y);
          few = omega arith;
        },
      )

-- ---- the last bit taken away

module _ (width : ℕ) where
  abbrev halved : Prefix → Prefix
  halved q = record { address = q.address / 2; length = min q.length width }

  in_halved : (q : Prefix) (x : ℕ) → InPrefix (suc width) q x → InPrefix width (halved q) (x / 2)
  in_halved q x i =
      let e = pow-suc 2 width in
      let a = i.address in
      record {
        address = omega arith;
        bits = λ k b. sym (bit_before width x k (omega arith)) ∙ i.bits k (omega arith) ∙ bit_before width q.address k (omega arith);
      }

  module _ (q : Prefix) (p : IsPrefix (suc width) q) where
    shorter : q.length ≤ width → halved q ≡ half q
    shorter l = let e : min q.length width ≡ q.length = omega arith in λ i. record { address = q.address / 2; length = e i }

    whole : width < q.length → halved q ≡ alone width (q.address / 2)
    whole l = let e : min q.length width ≡ width = omega arith in λ i. record { address = q.address / 2; length = e i }

    half_fits : q.address / 2 < 2 ^ width
    half_fits = let e = pow-suc 2 width in let a = p.address in omega arith

    halved_prefix : IsPrefix width (halved q)
    halved_prefix = elim (dec_lt width q.length) [
      | yes l ↦ subst (IsPrefix width) (sym (whole l)) (alone_prefix width (q.address / 2) half_fits)
      | no l ↦ let k : q.length ≤ width = omega arith in subst (IsPrefix width) (sym (shorter k)) (half_prefix width q k p)
    ]

    -- What is in it comes of an address of the prefix.
    of_halved : (y : ℕ) → InPrefix width (halved q) y → (x : ℕ) × (x / 2 ≡ y) × InPrefix (suc width) q x
    of_halved y i = elim (dec_lt width q.length) [
      | yes l ↦ (
        q.address,
        sym (in_whole width (alone width (q.address / 2)) y half_fits (omega arith) (subst (λ (z : Prefix). InPrefix width z y) (whole l) i)),
        itself_in (suc width) q p.address,
      )
      | no l ↦
          let k : q.length ≤ width = omega arith in
          let e : y * 2 / 2 ≡ y = omega arith in
          (y * 2, e, half_in width q k (y * 2) (subst (InPrefix width (half q)) (sym e) (subst (λ (z : Prefix). InPrefix width z y) (shorter k) i)))
    ]

  module _ {P Q : ℕ → Type 0} (alike : (x : ℕ) → P x ↔ Q (x / 2)) {n : ℕ} (c : Some (suc width) P n) where
    some_halved : Some width Q n
    some_halved =
        record {
          list = map halved c.list;
          each = λ p m. let h = Memᴰ.of_map halved c.list m in subst (IsPrefix width) h.2 (halved_prefix h.0 (c.each h.0 h.1));
          covers = λ y. (
            (λ i.
                let h = Memᴰ.of_map halved c.list i.1 in
                let o = of_halved h.0 (c.each h.0 h.1) y (subst (λ (z : Prefix). InPrefix width z y) (sym h.2) i.2) in
                subst Q o.1 ((alike o.0).0 ((c.covers o.0).0 (h.0, h.1, o.2)))),
            λ q.
                let e : y * 2 / 2 ≡ y = omega arith in
                let i = (c.covers (y * 2)).1 ((alike (y * 2)).1 (subst Q (sym e) q)) in
                (halved i.0, Memᴰ.map halved i.1, subst (InPrefix width (halved i.0)) e (in_halved i.0 (y * 2) i.2)),
          );
          few = let e = length-map c.list halved in let k = c.few in omega arith;
        }

-- ---- the pairs of a range

abbrev from : ℕ → ℕ → Range
from low high = record { low = low; high = high }

module _ (r : Range) where
  -- Without the highest, if it is the first of its pair,
  abbrev lower : Range
  lower = from r.low ((pairs r).high * 2 + 1)

  -- and without the lowest, if it is the second.
  abbrev inner : Range
  inner = from ((pairs r).low * 2) ((pairs r).high * 2 + 1)

module _ (width : ℕ) (r : Range) (l : r.low < r.high) {n : ℕ} where
  without_highest : Some (suc width) (Within r) n → (m : ℕ) × (n ≡ m + (1 - r.high % 2)) × Some (suc width) (Within (lower r)) m
  without_highest c = elim (dec_lt (r.high % 2) 1) [
    | yes e ↦
        let o = left_out width {P = Within r} {P' = Within (lower r)} r.high (r.high + 1) (omega arith) (record { low = omega arith; high = omega arith })
        (λ w. let b = w.high in omega arith)
        (λ y. (
          (λ w. let a = w.low in let b = w.high in (record { low = a; high = omega arith }, λ q. omega arith)),
          λ w. let a = w.0.low in let b = w.0.high in
              elim (dec_lt y r.high) [ yes d ↦ record { low = a; high = omega arith } | no d ↦ absurd (w.1 (omega arith)) ],
        )) c in
        (o.0, omega (arith, o.1), o.2)
    | no e ↦ (
      n,
      omega arith,
      some_as (λ y. (
        (λ w. let a = w.low in let b = w.high in record { low = a; high = omega arith }),
        λ w. let a = w.low in let b = w.high in record { low = a; high = omega arith },
      )) c,
    )
  ]

  without_lowest : Some (suc width) (Within (lower r)) n → (m : ℕ) × (n ≡ m + r.low % 2) × Some (suc width) (Within (inner r)) m
  without_lowest c = elim (dec_lt (r.low % 2) 1) [
    | yes e ↦ (
      n,
      omega arith,
      some_as (λ y. (
        (λ w. let a = w.low in let b = w.high in record { low = omega arith; high = b }),
        λ w. let a = w.low in let b = w.high in record { low = omega arith; high = b },
      )) c,
    )
    | no e ↦
        let o = left_out width {P = Within (lower r)} {P' = Within (inner r)} r.low (r.low - 1) (omega arith) (record { low = omega arith; high = omega arith })
        (λ w. let a = w.low in omega arith)
        (λ y. (
          (λ w. let a = w.low in let b = w.high in (record { low = omega arith; high = b }, λ q. omega arith)),
          λ w. let a = w.0.low in let b = w.0.high in
              elim (dec_lt r.low y) [ yes d ↦ record { low = omega arith; high = b } | no d ↦ absurd (w.1 (omega arith)) ],
        )) c in
        (o.0, omega (arith, o.1), o.2)
  ]

-- ---- the law

none : (width : ℕ) (r : Range) → r.high < r.low → (n : ℕ) → Some width (Within r) n → 0 ≤ n
none width r h n c = omega arith

one : (width : ℕ) (r : Range) → r.low ≡ r.high → r.high < 2 ^ width → (n : ℕ) → Some width (Within r) n → 1 ≤ n
one width r e h n c =
    let i = (c.covers r.low).1 (record { low = omega arith; high = omega arith }) in
    let m = member_counts c.list i.1 in
    let k = c.few in
    omega arith

more : (width : ℕ) (r : Range) (ps : List Prefix) → r.low < r.high → ((n : ℕ) → Some width (Within (pairs r)) n → length ps ≤ n)
    → (n : ℕ) → Some (suc width) (Within r) n → length (around width r ps) ≤ n
more width r ps l h n c =
    let a = without_highest width r l c in
    let b = without_lowest width r l a.2 in
    let d = h b.0 (some_halved width (λ x. (
      (λ w. let e = w.low in let f = w.high in record { low = omega arith; high = omega arith }),
      λ w. let e = w.low in let f = w.high in record { low = omega arith; high = omega arith },
    )) b.2) in
    omega (arith, a.1, b.1, length_around width r ps)

pub prefixes_fewest : (width : ℕ) (r : Range) → r.high < 2 ^ width → (qs : List Prefix) → ArePrefixes width qs → CoversJust width r qs
    → length (prefixes width r) ≤ length qs
prefixes_fewest width r h qs e c =
    by_pairs (λ width r ps. (n : ℕ) → Some width (Within r) n → length ps ≤ n) none one
    (λ width r l h c f. more width r (prefixes width (pairs r)) l f) width r h (length qs)
    (record { list = qs; each = e; covers = c; few = omega arith })
