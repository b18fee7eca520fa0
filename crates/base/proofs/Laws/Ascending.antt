-- Laws of lists that ascend, by any relation: of at most one thing; two lists one after the other; things that are told otherwise, in the
-- same order.
-- Assumes nothing.
use mathlib.Core.Path.{refl, subst}
use mathlib.Core.Bool.{Bool, true, false}
use mathlib.Core.Logic.{inl, inr}
use mathlib.Core.List.Memᴰ
use mathlib.Core.List.{List, [], ◌∷◌, ◌++◌, map, Memᴰ}
use Rattle.base.specs.Truths.{pick}
use Rattle.base.specs.Lists.{Ascends}

module _ {A : Type 0} (Before : A → A → Type 0) where
  pub one_ascends : (b : Bool) (x : A) → Ascends Before (pick b (x ∷ []) [])
  one_ascends true x = ((λ y m. absurd (Memᴰ.not-nil m)), tt)
  one_ascends false x = tt

  -- Each of the one list is before each of the other.
  abbrev pub AllBefore : List A → List A → Type 0
  AllBefore l m = (x y : A) → Memᴰ x l → Memᴰ y m → Before x y

  pub append_ascends : (l m : List A) → Ascends Before l → Ascends Before m → AllBefore l m → Ascends Before (l ++ m)
  append_ascends [] m a b h = b
  append_ascends (x ∷ l) m a b h = (
    (λ y n. elim (Memᴰ.append_cases l n) [ inl k ↦ a.0 y k | inr k ↦ h x y (Memᴰ.head refl) k ]),
    append_ascends l m a.1 b (λ z y p q. h z y (Memᴰ.tail p) q),
  )

module _ {A B : Type 0} (Before : A → A → Type 0) (After : B → B → Type 0) (f : A → B) (keeps : (x y : A) → Before x y → After (f x) (f y)) where
  pub map_ascends : (l : List A) → Ascends Before l → Ascends After (map f l)
  map_ascends [] a = tt
  map_ascends (x ∷ l) a = (
    (λ y m. let h = Memᴰ.of_map f l m in subst (After (f x)) h.2 (keeps x h.0 (a.0 h.0 h.1))),
    map_ascends l a.1,
  )
