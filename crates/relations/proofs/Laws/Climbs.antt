-- The climb from an entity, as the code goes it: a step of it, and what the library's methods find on it.
-- Assumes nothing.
use mathlib.Core.Path.{◌≡◌, refl, sym, ap, ◌∙◌}
use mathlib.Core.Bool.{Bool, true, false, ◌||◌, cond}
use mathlib.Core.List.{List, [], ◌∷◌, map-id}
use Prim.Native.Nat.{ℕ, ◌<◌}
use lib.Dec.{eqb}
use lib.ListN.{drop}
use borrow.Author.Tests.{ne_eqb}
use Rattle.std.specs.Option.{unwrap_or}
use Rattle.std.specs.Prelude.{Option, Some, None}
use Rattle.std.specs.List.{list_any, find, last_or}
use Rattle.std.specs.Iterator.{Drains, YieldsFirst}
use Rattle.std.proofs.lemmas.Iterator.{items_from_drains}
use Rattle.std.proofs.lemmas.Iterator.Consumers.{YieldsList-from_first}
use Rattle.base.specs.Lists.{among}
use Rattle.base.specs.Truths.{pick}
use Rattle.policy.specs.Model.{no_parent}
use Rattle.relations.specs.declared.entity.Climb.{Climb}
use Rattle.relations.specs.Entities.{Tree, ancestors, upward, above, last_of, root_of, first_above, lowest_above, at_or_above, left_above}
use Rattle.relations.proofs.Laws.Entities.{ancestors_root, ancestors_next}

-- e and its parents upward: first e.
pub ancestors_first : (up : ℕ → ℕ) (e : ℕ) → ancestors up e ≡ e ∷ above up e
unfolding ancestors upward
ancestors_first up e = refl

pub above_root : (up : ℕ → ℕ) (e : ℕ) → up e ≡ no_parent → above up e ≡ []
above_root up e h = ap (drop 1) (ancestors_root up e h)

pub above_parent : (up : ℕ → ℕ) → Tree up → (e x : ℕ) → up e ≡ x → x < e → (x ≡ no_parent → ⊥) → above up e ≡ x ∷ above up x
above_parent up tree e x h b n = ap (drop 1) (ancestors_next up tree e (λ r. n (sym h ∙ r))) ∙ ap (ancestors up) h ∙ ancestors_first up x

last_found : (d : ℕ) (l : List ℕ) → unwrap_or (last_or None l) d ≡ last_of d l
last_found d [] = refl
last_found d (x ∷ l) = go x l
  where
    go : (x : ℕ) (l : List ℕ) → unwrap_or (last_or (Some x) l) d ≡ last_of x l
    go x [] = refl
    go x (y ∷ l) = go y l

pub root_found : (up : ℕ → ℕ) (e : ℕ) → unwrap_or (last_or None (above up e)) e ≡ root_of up e
unfolding root_of
root_found up e = last_found e (above up e) ∙ ap (last_of e) (sym (ancestors_first up e))

-- Of an entity that is not f: it is ⪰ f where it is above f.
pub above_found : (up : ℕ → ℕ) (e f : ℕ) → (e ≡ f → ⊥) → at_or_above up e f ≡ list_any (eqb e) (above up f)
unfolding at_or_above among
above_found up e f n = ap (among e) (ancestors_first up f) ∙ rw (ne_eqb e f n) (sym (any_among (above up f)))
  where
    any_among : (l : List ℕ) → list_any (eqb e) l ≡ among e l
    any_among [] = refl
    any_among (y ∷ l) = ap (λ b. eqb e y || b) (any_among l)

-- The lowest entity ⪰ e and f is the first on the way up from e that is ⪰ f, and e's root where none is.
pub lowest_found : (up : ℕ → ℕ) (e f : ℕ) (o : Option ℕ) → o ≡ find (λ x. at_or_above up x f) (e ∷ above up e) → lowest_above up e f ≡ unwrap_or o (root_of up e)
unfolding lowest_above first_above root_of
lowest_found up e f o h =
    first e (ancestors up e)
    ∙ ap (λ p. unwrap_or p (root_of up e)) (ap (find (λ x. at_or_above up x f)) (ancestors_first up e) ∙ sym h)
  where
    chosen : (b : Bool) (x y : ℕ) (p : Option ℕ) → pick b x (unwrap_or p y) ≡ unwrap_or (cond b (Some x) p) y
    chosen true x y p = refl
    chosen false x y p = refl

    first : (d : ℕ) (l : List ℕ) → first_above up f d l ≡ unwrap_or (find (λ x. at_or_above up x f) l) (last_of d l)
    first d [] = refl
    first d (x ∷ l) = ap (pick (at_or_above up x f) x) (first x l) ∙ chosen (at_or_above up x f) x (last_of x l) (find (λ y. at_or_above up y f) l)

-- All that came of a climb to its end.
pub whole_climb : (c : Climb) (xs l : List ℕ) → Drains (YieldsFirst left_above) c xs → left_above c ≡ l → xs ≡ l
whole_climb c xs l d e = sym (map-id xs) ∙ items_from_drains xs (d.1.0, d.1.1, λ _. (d.0, d.1.2)) (YieldsList-from_first (λ x. x) left_above l e)
