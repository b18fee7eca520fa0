-- Rows whose boxes do not overlap are of no kind of two rows.
-- Assumes nothing.
use Prim.Native.Nat.{ℕ, ◌+◌}
use mathlib.Core.Path.{◌≡◌}
use mathlib.Core.Bool.{false, and-false}
use lib.ListN.{replicate}
use Rattle.policy.specs.Model.{Selector}
use Rattle.policy.specs.Wellformed.{Ordered}
use Rattle.relations.specs.Selectors.{Overlap, contains, overlaps}
use Rattle.base.proofs.Laws.Decides.{decides_fails}
use Rattle.relations.proofs.Laws.Selectors.{contains_decides, overlaps_decides, ordered_inhabited}
use Rattle.kinds.specs.Views.{Placed}
use Rattle.kinds.specs.Tests.{encloses, pair_of}
use Rattle.kinds.specs.Kinds.{kind_count, pair_tests}

-- a box that contains another overlaps it
module _ (s q : Selector) (a : Ordered s) (b : Ordered q) (e : overlaps s q ≡ false) where
  no_overlap : Overlap s q → ⊥
  no_overlap = (overlaps_decides s q a b).no e

  apart_contains : contains s q ≡ false
  apart_contains =
      decides_fails (contains s q) (contains_decides s q b) (λ c. let p = ordered_inhabited q b in no_overlap (p.0, c p.0 p.1, p.1))

  apart_contained : contains q s ≡ false
  apart_contained =
      decides_fails (contains q s) (contains_decides q s a) (λ c. let p = ordered_inhabited s a in no_overlap (p.0, p.1, c p.0 p.1))

module _ (up : ℕ → ℕ) (i j : ℕ) (p q : Placed) where
  pub apart_none : Ordered p.row.selector → Ordered q.row.selector → overlaps p.row.selector q.row.selector ≡ false
      → pair_tests (pair_of up i j p q) ≡ replicate (kind_count + 1) false
  unfolding encloses
  apart_none a b e =
      rw (e, apart_contains p.row.selector q.row.selector a b e, apart_contained p.row.selector q.row.selector a b e)
      (simp and-false)
