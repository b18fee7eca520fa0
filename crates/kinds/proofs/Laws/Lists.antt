-- Tests over rows and over places of a list agree with their meanings.
-- Assumes nothing.
use Prim.Native.Nat.{ℕ, zero, suc, ◌<◌}
use mathlib.Core.Path.{◌≡◌, refl, sym}
use mathlib.Core.Bool.{◌&&◌}
use mathlib.Core.Logic.{◌⊎◌, inl, inr}
use mathlib.Core.List.{List, [], ◌∷◌, Memᴰ}
use native.Mathlib.Omega.{arith}
use lib.Dec.{eqb}
use lib.ListN.{length, get_or}
use Rattle.base.specs.Truths.{Decides}
use Rattle.base.specs.Lists.{among}
use Rattle.base.proofs.Laws.Decides.{decides_as, decides_false, decides_and, decides_or, decides_eqb}
use Rattle.base.proofs.Laws.Members.{among_decides, member_at, at_member}
use Rattle.kinds.specs.Meanings.{InOrder, Twice}
use Rattle.kinds.specs.Tests.{in_order, twice}

-- Two places of a list: its first and a later one, or both later.
module _ (a b x : ℕ) (l : List ℕ) where
  join : ((a ≡ x) × Memᴰ b l) ⊎ InOrder a b l → InOrder a b (x ∷ l)
  join (inl h) =
      let k = member_at 0 b l h.1 in
      record { place = 0; later = suc k.0; order = omega arith; last = omega (arith, k.1); first = sym h.0; second = k.2 }
  join (inr h) =
      record {
        place = suc h.place;
        later = suc h.later;
        order = omega (arith, h.order);
        last = omega (arith, h.last);
        first = h.first;
        second = h.second;
      }

  split : InOrder a b (x ∷ l) → ((a ≡ x) × Memᴰ b l) ⊎ InOrder a b l
  split h = go h.place h.later h.order h.last h.first h.second
    where
      go : (p q : ℕ) → p < q → q < length (x ∷ l) → get_or (x ∷ l) p 0 ≡ a → get_or (x ∷ l) q 0 ≡ b → ((a ≡ x) × Memᴰ b l) ⊎ InOrder a b l
      go p zero o m e f = absurd (omega arith)
      go zero (suc q) o m e f = inl (sym e, rw f at (at_member 0 l q (omega arith)))
      go (suc p) (suc q) o m e f = inr (record { place = p; later = q; order = omega arith; last = omega arith; first = e; second = f })

none_in_order : (a b : ℕ) → InOrder a b [] → ⊥
none_in_order a b h = let k = h.last in absurd (omega arith)

pub in_order_decides : (a b : ℕ) (l : List ℕ) → Decides (in_order a b l) (InOrder a b l)
unfolding in_order
in_order_decides a b [] = decides_false (none_in_order a b)
in_order_decides a b (x ∷ l) =
    decides_as (join a b x l) (split a b x l)
    (decides_or (eqb a x && among b l) (in_order a b l)
    (decides_and (eqb a x) (among b l) (decides_eqb a x) (among_decides b l))
    (in_order_decides a b l))

pub twice_none : Twice [] → ⊥
twice_none h = none_in_order h.0 h.0 h.1

module _ (x : ℕ) (l : List ℕ) where
  pub twice_cons : Memᴰ x l ⊎ Twice l → Twice (x ∷ l)
  twice_cons (inl m) = (x, join x x x l (inl (refl, m)))
  twice_cons (inr h) = (h.0, join h.0 h.0 x l (inr h.1))

  pub twice_uncons : Twice (x ∷ l) → Memᴰ x l ⊎ Twice l
  twice_uncons h = elim (split h.0 h.0 x l h.1) [ inl m ↦ inl (rw m.0 at m.1) | inr k ↦ inr (h.0, k) ]

pub twice_decides : (l : List ℕ) → Decides (twice l) (Twice l)
unfolding twice
twice_decides [] = decides_false twice_none
twice_decides (x ∷ l) =
    decides_as (twice_cons x l) (twice_uncons x l)
    (decides_or (among x l) (twice l) (among_decides x l) (twice_decides l))
