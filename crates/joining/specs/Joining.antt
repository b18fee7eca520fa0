-- Document 02, [2], "Joining two rows": which rows can be joined, and the row that they are joined to. `up e` is e's parent, FF for a root.
-- Assumes nothing.
use Rattle.std.specs.Prelude.{ℕ, ◌≡◌, Bool, ◌&&◌, eqb}
use Rattle.policy.specs.Model.{Row}
use Rattle.relations.specs.Entities.{root_of, AtOrAbove, lowest_above}
use Rattle.relations.specs.Coefficients.{AtLeast, larger}
use Rattle.relations.specs.Selectors.{Contains, hull}
use Rattle.relations.specs.Groups.{SameGroup, same_group}

-- Row r is ⪰ row q "in source, destination, box and coefficients".
pub record RowAbove (up : ℕ → ℕ) (r q : Row) : Type 0 where
  pub source : AtOrAbove up r.source q.source
  pub destination : AtOrAbove up r.destination q.destination
  pub selector : Contains r.selector q.selector
  pub coefficients : AtLeast r.coefficients q.coefficients

-- None of "holder, technology, G or either end's root" differs.
pub record Joinable (up : ℕ → ℕ) (r q : Row) : Type 0 where
  pub group : SameGroup r q
  pub source : root_of up r.source ≡ root_of up q.source
  pub destination : root_of up r.destination ≡ root_of up q.destination

unfoldable pub joinable : (ℕ → ℕ) → Row → Row → Bool
joinable up r q =
    same_group r q
    && (eqb (root_of up r.source) (root_of up q.source) && eqb (root_of up r.destination) (root_of up q.destination))

-- "the lowest entity that is ⪰ both sources, the same for destinations, the larger of each coefficient, the smallest box holding both boxes, the
-- common .. holder, technology and G". That it is the least row ⪰ both is a law.
abbrev pub joined : (ℕ → ℕ) → Row → Row → Row
joined up r q =
    record {
      holder = r.holder;
      source = lowest_above up r.source q.source;
      destination = lowest_above up r.destination q.destination;
      technology = r.technology;
      coefficients = larger r.coefficients q.coefficients;
      selector = hull r.selector q.selector;
      gateways = r.gateways;
    }
