-- Mesh's answer is a call on a row; of a row that is there it is that of the mesh, and a text's refusal, or of a row that is not there, is Mesh's.
-- Assumes nothing.
use Prim.Native.Nat.{ℕ, ◌≤◌, ◌<◌}
use mathlib.Core.Path.{◌≡◌, refl}
use lib.ListN.{length}
use borrow.Author.Tests.{le-ltb}
use Rattle.base.specs.Answers.{Answer, returned, refused_by}
use Rattle.policy.specs.Model.{Table}
use Rattle.frames.specs.Refusals.{no_such_row}
use Rattle.reader.specs.States.{Parsed, table_read}
use Rattle.mesh.specs.Verdicts.{mesh_on}
use Rattle.calls.specs.Rows.{on_row}
use Rattle.calls.proofs.Laws.Texts.{row_answered}
use Rattle.mesh_call.specs.Calls.{mesh_of}

pub mesh_verdict : (x : Answer Parsed) (t : Table) → x ≡ returned (table_read t) → (k : ℕ) → k < length t.rows → mesh_of x k ≡ returned (mesh_on t k)
unfolding mesh_of
mesh_verdict x t e k h = row_answered mesh_on k x t e h

pub mesh_on_row : (x : Answer Parsed) (k : ℕ) → mesh_of x k ≡ on_row mesh_on x k
unfolding mesh_of
mesh_on_row x k = refl

pub mesh_refused_text : (number at k : ℕ) → mesh_of (refused_by number at) k ≡ refused_by number at
unfolding mesh_of
mesh_refused_text number at k = refl

pub mesh_missing : (r : Parsed) (k : ℕ) → length r.table.rows ≤ k → mesh_of (returned r) k ≡ refused_by no_such_row 0
unfolding mesh_of
mesh_missing r k h = rw (le-ltb _ _ h)
