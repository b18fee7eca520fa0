-- The prefixes of a range are prefixes, and cover just the range.
-- Assumes nothing.
use Prim.Native.Nat.{ℕ, suc, ◌/◌, ◌%◌, ◌^◌, ◌<◌}
use mathlib.Core.Path.{◌≡◌, refl, sym, subst}
use mathlib.Core.Logic.{inl, inr}
use mathlib.Core.List.Memᴰ
use mathlib.Core.List.{List, [], ◌∷◌, ◌++◌, map, Memᴰ}
use native.Mathlib.Decide.{dec_lt}
use native.Mathlib.Omega.{arith}
use Rattle.policy.specs.Model.{Range}
use Rattle.relations.specs.Ranges.{Within}
use Rattle.prefixes.specs.Prefixes.{Prefix, IsPrefix, InPrefix, ArePrefixes, InSome, CoversJust, alone_if, raised, is_first, is_second, pairs, prefixes}
use Rattle.prefixes.proofs.Laws.Steps.{alone, in_whole, itself_in, alone_prefix, in_raised, raised_in, raised_prefix}
use Rattle.prefixes.proofs.Laws.Lists.{of_alone, around, by_pairs}

-- ---- the parts of a list

-- A prefix of the list around another is one of the ends, or of the pairs' made longer.
pub data Part (width : ℕ) (r : Range) (ps : List Prefix) (p : Prefix) : Type 0 where
  lowest : p ≡ alone (suc width) r.low → Part width r ps p
  inner : (q : Prefix) → Memᴰ q ps → raised 1 q ≡ p → Part width r ps p
  highest : p ≡ alone (suc width) r.high → Part width r ps p

module _ (width : ℕ) (r : Range) (ps : List Prefix) where
  abbrev first : List Prefix
  first = alone_if (is_second r.low) (suc width) r.low

  abbrev last : List Prefix
  last = alone_if (is_first r.high) (suc width) r.high

  pub part_of : (p : Prefix) → Memᴰ p (around width r ps) → Part width r ps p
  part_of p m = elim (Memᴰ.append_cases first m) [
    | inl a ↦ lowest (of_alone (is_second r.low) (suc width) r.low p a).1
    | inr n ↦ elim (Memᴰ.append_cases (map (raised 1) ps) n) [
      | inl a ↦ let h = Memᴰ.of_map (raised 1) ps a in inner h.0 h.1 h.2
      | inr a ↦ highest (of_alone (is_first r.high) (suc width) r.high p a).1
    ]
  ]

  pub in_first : r.low % 2 ≡ 1 → Memᴰ (alone (suc width) r.low) (around width r ps)
  in_first h = Memᴰ.append_left {s = first} (map (raised 1) ps ++ last) (rw h (Memᴰ.head refl))

  pub in_inner : (q : Prefix) → Memᴰ q ps → Memᴰ (raised 1 q) (around width r ps)
  in_inner q m = Memᴰ.append_right first (Memᴰ.append_left last (Memᴰ.map (raised 1) m))

  pub in_last : r.high % 2 ≡ 0 → Memᴰ (alone (suc width) r.high) (around width r ps)
  in_last h = Memᴰ.append_right first (Memᴰ.append_right (map (raised 1) ps) (rw h (Memᴰ.head refl)))

-- ---- the laws

pub record Right (width : ℕ) (r : Range) (ps : List Prefix) : Type 0 where
  pub each : ArePrefixes width ps
  pub covers : CoversJust width r ps

none : (width : ℕ) (r : Range) → r.high < r.low → Right width r []
none width r h =
    record {
      each = λ p m. absurd (Memᴰ.not-nil m);
      covers = λ x. (λ s. absurd (Memᴰ.not-nil s.1), λ w. absurd (let a = w.low in let b = w.high in omega arith));
    }

one : (width : ℕ) (r : Range) → r.low ≡ r.high → r.high < 2 ^ width → Right width r (alone width r.low ∷ [])
one width r e h =
    let b : r.low < 2 ^ width = omega arith in
    record {
      each = λ p m. rw (Memᴰ.eq_of_singleton m) (alone_prefix width r.low b);
      covers = λ x. (
        (λ s.
            let i : InPrefix width (alone width r.low) x = subst (λ (p : Prefix). InPrefix width p x) (Memᴰ.eq_of_singleton s.1) s.2 in
            let q : x ≡ r.low = in_whole width (alone width r.low) x b (omega arith) i in
            record { low = omega arith; high = omega arith }),
        λ w.
            let q : x ≡ r.low = let a = w.low in let c = w.high in omega arith in
            (alone width r.low, Memᴰ.head refl, subst (InPrefix width (alone width r.low)) (sym q) (itself_in width (alone width r.low) b)),
      );
    }

module _ (width : ℕ) (r : Range) (ps : List Prefix) (l : r.low < r.high) (h : r.high < 2 ^ suc width) (i : Right width (pairs r) ps) where
  low_fits : r.low < 2 ^ suc width
  low_fits = omega arith

  each : ArePrefixes (suc width) (around width r ps)
  each p m = go (part_of width r ps p m)
    where
      go : Part width r ps p → IsPrefix (suc width) p
      go (lowest e) = rw e (alone_prefix (suc width) r.low low_fits)
      go (inner q n e) = subst (IsPrefix (suc width)) e (raised_prefix width q (i.each q n))
      go (highest e) = rw e (alone_prefix (suc width) r.high h)

  within : (x : ℕ) → InSome (suc width) (around width r ps) x → Within r x
  within x s = go s.0 (part_of width r ps s.0 s.1) s.2
    where
      go : (p : Prefix) → Part width r ps p → InPrefix (suc width) p x → Within r x
      go p (lowest e) j =
          let q : x ≡ r.low = in_whole (suc width) (alone (suc width) r.low) x low_fits (omega arith) (subst (λ (y : Prefix). InPrefix (suc width) y x) e j) in
          record { low = omega arith; high = omega arith }
      go p (inner q n e) j =
          let w = (i.covers (x / 2)).0 (q, n, in_raised width q (i.each q n).length x (subst (λ (y : Prefix). InPrefix (suc width) y x) (sym e) j)) in
          let a = w.low in
          let b = w.high in
          record { low = omega arith; high = omega arith }
      go p (highest e) j =
          let q : x ≡ r.high = in_whole (suc width) (alone (suc width) r.high) x h (omega arith) (subst (λ (y : Prefix). InPrefix (suc width) y x) e j) in
          record { low = omega arith; high = omega arith }

  some : (x : ℕ) → Within r x → InSome (suc width) (around width r ps) x
  some x w =
      let a = w.low in
      let b = w.high in
      elim (dec_lt (x / 2) (pairs r).low) [
        | yes c ↦
            let q : r.low ≡ x = omega arith in
            (alone (suc width) r.low, in_first width r ps (omega arith), subst (InPrefix (suc width) (alone (suc width) r.low)) q (itself_in (suc width) (alone (suc width) r.low) low_fits))
        | no c ↦ elim (dec_lt (pairs r).high (x / 2)) [
          | yes d ↦
              let q : r.high ≡ x = omega arith in
              (alone (suc width) r.high, in_last width r ps (omega arith), subst (InPrefix (suc width) (alone (suc width) r.high)) q (itself_in (suc width) (alone (suc width) r.high) h))
          | no d ↦
              let s = (i.covers (x / 2)).1 (record { low = omega arith; high = omega arith }) in
              (raised 1 s.0, in_inner width r ps s.0 s.1, raised_in width s.0 (i.each s.0 s.1).length x s.2)
        ]
      ]

  more : Right (suc width) r (around width r ps)
  more = record { each = each; covers = λ x. (within x, some x) }

pub prefixes_right : (width : ℕ) (r : Range) → r.high < 2 ^ width → Right width r (prefixes width r)
prefixes_right = by_pairs Right none one (λ width r l h c i. more width r (prefixes width (pairs r)) l h i)
