-- Document 01, "A table and its edges": the items marked ◆ that are about relations, stated of their meanings.
-- Assumes nothing.
use Rattle.std.specs.Prelude.{ℕ, List, [], ◌∷◌}
use Rattle.policy.specs.Model.{Selector}
use Rattle.relations.specs.Coefficients.{AtLeast}
use Rattle.relations.specs.Selectors.{Overlap}

-- A selector of one field.
abbrev pub to : ℕ → ℕ → Selector
to low high = record { low = low; high = high } ∷ []

abbrev pub edges : List (Type 0)
edges =
    -- "Ranges 0-8 and 8-9 overlap, 0-7 and 8-9 don't."
    Overlap (to 0 8) (to 8 9)
    ∷ (Overlap (to 0 7) (to 8 9) → ⊥)
    -- "(3,1,1) and (3,0,2): neither ⪰."
    ∷ (AtLeast (3 ∷ 1 ∷ 1 ∷ []) (3 ∷ 0 ∷ 2 ∷ []) → ⊥)
    ∷ (AtLeast (3 ∷ 0 ∷ 2 ∷ []) (3 ∷ 1 ∷ 1 ∷ []) → ⊥)
    ∷ []
