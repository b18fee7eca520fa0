-- Document 02, [8]: "a call beside Witness, whose search it doesn't use, with the same refusals".
-- Assumes nothing.
use Rattle.std.specs.Prelude.{ℕ, ◌≡◌}
use Rattle.base.specs.Answers.{Answer}
use Rattle.reader.specs.States.{Parsed}
use Rattle.covers.specs.Least.{SearchResult}
use Rattle.mesh.specs.Verdicts.{mesh_on}
use Rattle.calls.specs.Rows.{on_row}
use Rattle.calls.specs.Views.{witness_answer}
use Rattle.calls.specs.declared.Witness.{Witness}

unfoldable pub mesh_of : Answer Parsed → ℕ → Answer SearchResult
mesh_of x k = on_row mesh_on x k

-- What the call's contract says of its answer, x being what reading the text gives.
abbrev pub MeshAnswers : Answer Parsed → ℕ → Witness → Type 0
MeshAnswers x k r = witness_answer r ≡ mesh_of x k
