-- Laws of joining, in a tree of parents:
--   joinable_decides, joinable_swap: the test of what can be joined, either way round
--   joined_least: the joined row is the least that is ⪰ both
--   joined_swap, joined_itself: either way round it is the same, and a row joined with itself is that row
--   joined_kept: it keeps the table's rules
-- Assumes nothing.
use mathlib.Core.Path.{◌≡◌, sym, ◌∙◌}
use Prim.Native.Nat.{ℕ}
use native.Mathlib.Omega.{arith}
use lib.ListN.{length}
use Rattle.policy.specs.Model.{Row, Table, Coefficients, parent_of}
use Rattle.policy.specs.Wellformed.{Below, Ordered, range_widths, RowRule, Wellformed}
use Rattle.base.specs.Truths.{Decides}
use Rattle.base.specs.Bounds.{LeastAbove}
use Rattle.base.proofs.Laws.Decides.{decides_as, decides_eqb, decides_and}
use Rattle.relations.specs.Entities.{Tree}
use Rattle.relations.specs.Coefficients.{larger}
use Rattle.relations.proofs.Laws.Entities.{above_le}
use Rattle.relations.proofs.Laws.Groups.{same_group_decides, group_sym}
use Rattle.relations.proofs.Laws.Bounds.{lowest_least, lowest_swap, lowest_itself, larger_at, larger_length, larger_least, larger_swap, larger_itself, hull_least, hull_swap, hull_itself, hull_ordered, hull_fits}
use Rattle.relations.proofs.Laws.Tables.{table_tree}
use Rattle.joining.specs.Joining.{RowAbove, Joinable, joinable, joined}

-- ---- what can be joined

module _ (up : ℕ → ℕ) (r q : Row) where
  pub joinable_decides : Decides (joinable up r q) (Joinable up r q)
  unfolding joinable
  joinable_decides =
      decides_as (λ h. record { group = h.0; source = h.1.0; destination = h.1.1 }) (λ j. (j.group, (j.source, j.destination)))
      (decides_and _ _ (same_group_decides r q) (decides_and _ _ (decides_eqb _ _) (decides_eqb _ _)))

  pub joinable_swap : Joinable up r q → Joinable up q r
  joinable_swap j = record { group = group_sym j.group; source = sym j.source; destination = sym j.destination }

-- ---- the row

module _ (up : ℕ → ℕ) (tree : Tree up) (r q : Row) (j : Joinable up r q) where
  pub joined_least : length r.coefficients ≡ length q.coefficients → length r.selector ≡ length q.selector
      → Ordered r.selector → Ordered q.selector → LeastAbove (RowAbove up) r q (joined up r q)
  joined_least c f o1 o2 =
      let s = lowest_least up tree q.source r.source j.source in
      let d = lowest_least up tree q.destination r.destination j.destination in
      let k = larger_least r.coefficients q.coefficients c in
      let h = hull_least r.selector q.selector f o1 o2 in
      record {
        first = record { source = s.first; destination = d.first; selector = h.first; coefficients = k.first };
        second = record { source = s.second; destination = d.second; selector = h.second; coefficients = k.second };
        least = λ z a b. record {
          source = s.least z.source a.source b.source;
          destination = d.least z.destination a.destination b.destination;
          selector = h.least z.selector a.selector b.selector;
          coefficients = k.least z.coefficients a.coefficients b.coefficients;
        };
      }

  pub joined_swap : joined up r q ≡ joined up q r
  joined_swap =
      let s = lowest_swap up tree r.source q.source j.source in
      let d = lowest_swap up tree r.destination q.destination j.destination in
      let c = larger_swap r.coefficients q.coefficients in
      let h = hull_swap r.selector q.selector in
      λ i. record {
        holder = j.group.holder i;
        source = s i;
        destination = d i;
        technology = j.group.technology i;
        coefficients = c i;
        selector = h i;
        gateways = j.group.gateways i;
      }

pub joined_itself : (up : ℕ → ℕ) → Tree up → (r : Row) → joined up r r ≡ r
joined_itself up tree r =
    let s = lowest_itself up tree r.source in
    let d = lowest_itself up tree r.destination in
    let c = larger_itself r.coefficients in
    let h = hull_itself r.selector in
    λ i. record {
      holder = r.holder;
      source = s i;
      destination = d i;
      technology = r.technology;
      coefficients = c i;
      selector = h i;
      gateways = r.gateways;
    }

-- ---- the table's rules

-- What is below a bound in both is below it in the larger.
larger_below : (bound : ℕ) (c d : Coefficients) → length c ≡ length d → Below bound c → Below bound d → Below bound (larger c d)
larger_below bound c d e h k i b =
    let n = larger_length c d e in
    omega (arith, larger_at c d e i, h i (omega arith), k i (omega arith))

pub joined_kept : (t : Table) → Wellformed t → (r q : Row) → RowRule t r → RowRule t q → Joinable (parent_of t) r q → RowRule t (joined (parent_of t) r q)
joined_kept t w r q h k j =
    let tree = table_tree t w in
    let s = lowest_least (parent_of t) tree q.source r.source j.source in
    let d = lowest_least (parent_of t) tree q.destination r.destination j.destination in
    let same : length r.coefficients ≡ length q.coefficients = h.coefficients.three ∙ sym k.coefficients.three in
    record {
      holder = h.holder;
      source = omega (arith, above_le (parent_of t) tree _ _ s.first, h.source);
      destination = omega (arith, above_le (parent_of t) tree _ _ d.first, h.destination);
      technology = h.technology;
      coefficients = record {
        three = larger_length r.coefficients q.coefficients same ∙ h.coefficients.three;
        bytes = larger_below 256 r.coefficients q.coefficients same h.coefficients.bytes k.coefficients.bytes;
      };
      null = λ n. larger_below 1 r.coefficients q.coefficients same (h.null n) (k.null (sym j.group.technology ∙ n));
      selector = record {
        ordered = hull_ordered r.selector q.selector h.selector.ordered k.selector.ordered;
        fits = hull_fits range_widths r.selector q.selector h.selector.fits k.selector.fits;
      };
      few_gateways = h.few_gateways;
      gateways = h.gateways;
    }
