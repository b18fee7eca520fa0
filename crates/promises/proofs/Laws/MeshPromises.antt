-- Document 02, [8], holds of the calls, for every text and row: of a row of a well-formed table the mesh and the search each give the right answer, of which
-- there is one.
-- Assumes nothing.
use Prim.Native.Nat.{ℕ, ◌<◌}
use native.Mathlib.Omega.{arith}
use mathlib.Core.Path.{◌≡◌, refl, sym, ap, ◌∙◌}
use mathlib.Core.Bool.{Bool, true, false}
use mathlib.Core.Logic.{◌↔◌}
use mathlib.Core.List.{List}
use borrow.Author.Tests.{ltb-true}
use lib.Dec.{ltb}
use lib.ListN.{length}
use Rattle.base.specs.Truths.{pick}
use Rattle.base.specs.Answers.{Answer, returned, refused_by}
use Rattle.policy.specs.Model.{Selector, Packet, Table, row_at}
use Rattle.policy.specs.Wellformed.{Wellformed}
use Rattle.policy.specs.Views.{packet_of}
use Rattle.reader.specs.States.{Parsed, parse}
use Rattle.reader.proofs.Laws.Wellformed.{accepted_wellformed}
use Rattle.covers.specs.Least.{SearchResult, found, none, ◌≤ₚ◌, Claimed}
use Rattle.covers.specs.Covers.{cover_on}
use Rattle.covers.proofs.Laws.Least.{sized_listed, antisym, right_unique}
use Rattle.covers.proofs.Laws.Claims.{cover_exact, sized_cover}
use Rattle.verdicts.specs.Verdicts.{verdict_on}
use Rattle.verdicts.proofs.Laws.Verdicts.{verdict_right}
use Rattle.mesh.specs.Verdicts.{mesh_on}
use Rattle.mesh.specs.Promises.{CutInEach, FirstUnclaimed}
use Rattle.mesh.proofs.Laws.Cuts.{cuts_laws}
use Rattle.mesh.proofs.Laws.Cells.{cells_laws}
use Rattle.calls.specs.Rows.{on_row}
use Rattle.calls.specs.Views.{witness_answer}
use Rattle.mesh_call.specs.Calls.{mesh_of}
use Rattle.mesh_call.proofs.Laws.Calls.{mesh_verdict, mesh_on_row}
use Rattle.analyser.specs.Calls.{witness_of}
use Rattle.analyser.proofs.Laws.Calls.{witness_on_row}
use Rattle.promises.specs.MeshPromises.{MeshOfRow, MeshPromise}
use Rattle.promises.proofs.Laws.AnswerPromises.{same_answers}

-- The mesh's answer on a row is the verdict.
mesh_same : (t : Table) → Wellformed t → (i : ℕ) → i < length t.rows → mesh_on t i ≡ verdict_on t i
mesh_same t w i h =
    right_unique (row_at t i).selector (cover_on t i) (mesh_on t i) (verdict_on t i)
    (cells_laws (row_at t i).selector (cover_on t i) (w.row i h).selector.ordered (sized_cover t w i h)).right (verdict_right t w i h)

-- Two calls on a row that agree on each row of the text's table give one answer.
row_alike : {A : Type 0} (u v : Table → ℕ → A) (x : Answer Parsed) (k : ℕ)
    → ((r : Parsed) → x ≡ returned r → k < length r.table.rows → u r.table k ≡ v r.table k)
    → on_row u x k ≡ on_row v x k
row_alike u v (returned r) k f = there (ltb k (length r.table.rows)) (λ b. f r refl (ltb-true k (length r.table.rows) b))
  where
    there : (b : Bool) → (b ≡ true → u r.table k ≡ v r.table k)
        → pick b (returned (u r.table k)) (refused_by 9 0) ≡ pick b (returned (v r.table k)) (refused_by 9 0)
    there true f = ap returned (f refl)
    there false f = refl
row_alike u v (refused_by number line) k f = refl

pub same_answer : (text : List ℕ) (k : ℕ) → mesh_of (parse text) k ≡ witness_of (parse text) k
same_answer text k =
    mesh_on_row (parse text) k
    ∙ row_alike mesh_on verdict_on (parse text) k (λ r e h. mesh_same r.table (accepted_wellformed text r.table e) k h)
    ∙ sym (witness_on_row (parse text) k)

-- An answer that is the first of the examined packets in no box: what it is to be none, and to be a packet.
module _ (s : Selector) (bs : List Selector) where
  first_none : (o : SearchResult) → FirstUnclaimed s bs o → (o ≡ none) ↔ ((p : Packet) → CutInEach s bs p → (Claimed bs p → ⊥) → ⊥)
  first_none none f = (λ e p x u. u (f p x), λ n. refl)
  first_none (found q) f = (λ e. let z : ◌≡◌ {A = ℕ} 0 1 = cc in absurd (omega arith), λ n. absurd (n q f.0 f.1))

  first_found : (o : SearchResult) → FirstUnclaimed s bs o → (p : Packet)
      → (o ≡ found p) ↔ (CutInEach s bs p × (Claimed bs p → ⊥) × ((q : Packet) → CutInEach s bs q → (Claimed bs q → ⊥) → p ≤ₚ q))
  first_found none f p = (λ e. let z : ◌≡◌ {A = ℕ} 0 1 = cc in absurd (omega arith), λ h. absurd (h.1 (f p h.0)))
  first_found (found q) f p =
      (λ e. let same : q ≡ p = cc in rw (sym same) f, λ h. ap found (antisym (f.2 p h.0 h.1) (h.2 q f.0 f.1)))

mesh_of_row : (text : List ℕ) (r : Parsed) (i : ℕ) → parse text ≡ returned r → i < length r.table.rows → MeshOfRow r i
mesh_of_row text r i e h =
    let t = r.table in
    let w = accepted_wellformed text t e in
    let first = (cells_laws (row_at t i).selector (cover_on t i) (w.row i h).selector.ordered (sized_cover t w i h)).first in
    let None-first = first_none (row_at t i).selector (cover_on t i) (mesh_on t i) first in
    let found_first = first_found (row_at t i).selector (cover_on t i) (mesh_on t i) first in
    let v = mesh_verdict (returned r) t refl i h in
    record {
      cover = cover_exact t i h;
      dead = (λ a. let q : mesh_on t i ≡ none = cc in None-first.0 q, λ n. sym (v ∙ ap returned (None-first.1 n)));
      packet = λ p. (
        λ a. let q : mesh_on t i ≡ found (packet_of p) = cc in (found_first (packet_of p)).0 q,
        λ n. sym (v ∙ ap returned ((found_first (packet_of p)).1 n)),
      );
    }

pub mesh_promise : MeshPromise
mesh_promise =
    record {
      same = λ text k. same_answers witness_answer (same_answer text k);
      rows = mesh_of_row;
      cuts = cuts_laws;
      cells = λ s bs o n. cells_laws s bs o (sized_listed (length s) bs n);
    }
