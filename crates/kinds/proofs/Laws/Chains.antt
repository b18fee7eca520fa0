-- The chain search, one row at a time: a row that does not go on, one that ends the chain, one from whose end the search goes on.
-- Assumes nothing.
use Prim.Native.Nat.{ℕ, suc, ◌≤◌, ◌<◌}
use mathlib.Core.Path.{◌≡◌, refl}
use mathlib.Core.Bool.{Bool, true, false, ◌&&◌, and-false}
use mathlib.Core.List.{List, ◌∷◌}
use lib.Dec.{eqb, ltb}
use borrow.Author.Tests.{eq-eqb, ne_eqb, lt-ltb, le-ltb}
use Rattle.policy.specs.Model.{Selector}
use Rattle.relations.specs.Selectors.{meet}
use Rattle.base.specs.Lists.{some}
use Rattle.kinds.specs.Tests.{goes_on, chains}

pub chains_none : (from to : ℕ → ℕ) (selector : ℕ → Selector) (rows b a : ℕ) (visited : List ℕ) (s : Selector)
    → chains from to selector rows 0 b a visited s ≡ false
unfolding chains
chains_none from to selector rows b a visited s = refl

module _ (from to : ℕ → ℕ) (selector : ℕ → Selector) (rows n b a : ℕ) (visited : List ℕ) (s : Selector) where
  -- Row j is the next of a chain that may have n rows more.
  abbrev pub next : ℕ → Bool
  next j =
      goes_on from to selector j a visited s
      && elim (eqb (to j) b) [ true ↦ ltb n 3 | false ↦ chains from to selector rows n b (to j) (to j ∷ visited) (meet s (selector j)) ]

  pub next_off : (j : ℕ) → goes_on from to selector j a visited s ≡ false → next j ≡ false
  next_off j g = rw g

  -- It begins elsewhere; it ends elsewhere, and none may follow.
  pub next_elsewhere : (j : ℕ) → (from j ≡ a → ⊥) → next j ≡ false
  unfolding goes_on
  next_elsewhere j e = rw (ne_eqb (from j) a e)

  pub next_past : (j : ℕ) → n ≡ 0 → (to j ≡ b → ⊥) → next j ≡ false
  next_past j z e = rw (ne_eqb (to j) b e, z, chains_none, and-false)

  pub next_last : (j : ℕ) → goes_on from to selector j a visited s ≡ true → to j ≡ b → n < 3 → next j ≡ true
  next_last j g e h = rw (g, eq-eqb (to j) b e, lt-ltb n 3 h)

  pub next_only : (j : ℕ) → goes_on from to selector j a visited s ≡ true → to j ≡ b → 3 ≤ n → next j ≡ false
  next_only j g e h = rw (g, eq-eqb (to j) b e, le-ltb n 3 h)

  pub next_on : (j : ℕ) → goes_on from to selector j a visited s ≡ true → (to j ≡ b → ⊥)
      → next j ≡ chains from to selector rows n b (to j) (to j ∷ visited) (meet s (selector j))
  next_on j g e = rw (g, ne_eqb (to j) b e)

  pub chains_some : chains from to selector rows (suc n) b a visited s ≡ some rows next
  unfolding chains
  chains_some = refl
