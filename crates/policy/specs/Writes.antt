-- How the runs of a table are written. That what is written is read again, and that the rest stays, are laws of proofs/Laws/Runs.antt.
-- Assumes nothing.
use Rattle.std.specs.Prelude.{ℕ, ◌*◌, List, ◌∷◌, get_or}
use Rattle.std.proofs.lemmas.List.Edits.{sets}
use Rattle.base.specs.Lists.{tabulate}
use Rattle.policy.specs.Limits.{most_gateways, word_count, head_count}
use Rattle.policy.specs.Model.{Selector}
use Rattle.policy.specs.Words.{words_of}
use Rattle.policy.specs.declared.row.Row.{Row as RowStruct}

-- The selector at k.
abbrev pub put_selector : List ℕ → ℕ → Selector → List ℕ
put_selector bounds k s = sets bounds (word_count * k) (words_of s)

-- The bytes of a row besides its selector.
abbrev pub head_of : RowStruct → List ℕ
head_of r =
    r.holder
    ∷ r.source
    ∷ r.destination
    ∷ r.technology
    ∷ r.coefficients.header
    ∷ r.coefficients.payload
    ∷ r.coefficients.confidentiality
    ∷ r.count
    ∷ tabulate (λ k. get_or r.gateways k 0) most_gateways

-- The bytes of the row at i.
abbrev pub put_head : List ℕ → ℕ → List ℕ → List ℕ
put_head heads i head = sets heads (head_count * i) head
