-- A corner is a packet of which each number is a cut of its field: here by the first number and those of the further fields.
-- Assumes nothing.
use Prim.Native.Nat.{ℕ, zero, suc, ◌<◌}
use mathlib.Core.Path.{◌≡◌, refl, sym, ap, subst}
use mathlib.Core.List.{List, [], ◌∷◌, map}
use native.Mathlib.Omega.{arith}
use lib.ListN.{length, get_or}
use Rattle.policy.specs.Model.{Range, Selector, Packet, no_range}
use Rattle.mesh.specs.Mesh.{firsts, rests}
use Rattle.mesh.specs.Promises.{Cut, CutInEach}

-- Field f of each box.
abbrev fields : ℕ → List Selector → List Range
fields f bs = map (λ b. get_or b f no_range) bs

-- The field after f is field f of what is left past the first.
fields_rest : (f : ℕ) (bs : List Selector) → fields (suc f) bs ≡ fields f (rests bs)
fields_rest f [] = refl
fields_rest f ([] ∷ bs) = ap (λ l. no_range ∷ l) (fields_rest f bs)
fields_rest f ((q ∷ b) ∷ bs) = ap (λ l. get_or b f no_range ∷ l) (fields_rest f bs)

-- The corner of no field.
pub corner_nil : (bs : List Selector) → CutInEach [] bs []
corner_nil bs = record { count = refl; each = λ f l. absurd (omega arith) }

-- A corner of a field more: a cut of the field, before a corner of the further ones.
module _ (r : Range) (s : Selector) (bs : List Selector) (x : ℕ) (p : Packet) where
  pub corner_both : Cut r (firsts bs) x → CutInEach s (rests bs) p → CutInEach (r ∷ s) bs (x ∷ p)
  corner_both c k = record { count = ap suc k.count; each = go }
    where
      go : (f : ℕ) → f < length (r ∷ s) → Cut (get_or (r ∷ s) f no_range) (fields f bs) (get_or (x ∷ p) f 0)
      go zero l = c
      go (suc f) l = subst (λ (qs : List Range). Cut (get_or s f no_range) qs (get_or p f 0)) (sym (fields_rest f bs)) (k.each f (omega arith))

  pub corner_first : CutInEach (r ∷ s) bs (x ∷ p) → Cut r (firsts bs) x
  corner_first k = k.each 0 (omega arith)

  pub corner_rest : CutInEach (r ∷ s) bs (x ∷ p) → CutInEach s (rests bs) p
  corner_rest k = record {
    count = let e = k.count in omega arith;
    each = λ f l. subst (λ (qs : List Range). Cut (get_or s f no_range) qs (get_or p f 0)) (fields_rest f bs) (k.each (suc f) (omega arith));
  }
