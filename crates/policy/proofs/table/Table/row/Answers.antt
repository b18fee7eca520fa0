-- `row` meets its contract: each of the row's bytes is read at its place, and the selector is the one at i. Assumes nothing.
use mathlib.Core.Path.{◌≡◌, refl}
use native.Mathlib.Nat.{add-zero}
use Rattle.policy.specs.Model.{Row}
use Rattle.policy.specs.Views.{numbers_at}
use Rattle.policy.proofs.table.Table.row.Goals as goal

-- Rows are equal where each field is.
alike : (r q : Row) → r.holder ≡ q.holder → r.source ≡ q.source → r.destination ≡ q.destination → r.technology ≡ q.technology
    → r.coefficients ≡ q.coefficients → r.selector ≡ q.selector → r.gateways ≡ q.gateways → r ≡ q
alike r q h s d t c b g = λ i. record { holder = h i; source = s i; destination = d i; technology = t i; coefficients = c i; selector = b i; gateways = g i }

pub returns : goal.returns
unfolding numbers_at
returns c = alike _ _ (rw add-zero) refl refl refl refl c.selector_at.ensures refl
