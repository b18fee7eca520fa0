-- The verdict on a row of a well-formed table is right, and the test of dead rows finds just those.
-- Assumes nothing.
use Prim.Native.Nat.{ℕ, ◌<◌}
use native.Mathlib.Omega.{arith}
use mathlib.Core.Path.{◌≡◌, refl}
use mathlib.Core.Logic.{inl, inr}
use lib.ListN.{length}
use Rattle.base.specs.Truths.{Decides}
use Rattle.base.proofs.Laws.Decides.{decides_true, decides_false, decides_as}
use Rattle.policy.specs.Model.{Packet, Table, row_at}
use Rattle.policy.specs.Wellformed.{Wellformed}
use Rattle.relations.specs.Groups.{Wins, Dead}
use Rattle.relations.proofs.Laws.Tables.{table_tree}
use Rattle.relations.proofs.Laws.Groups.{wins_own, hidden_or_wins}
use Rattle.covers.specs.Least.{SearchResult, found, none, Claimed, Least, Right}
use Rattle.covers.specs.Covers.{cover_on}
use Rattle.covers.proofs.Laws.Claims.{claimed_hidden, hidden_claimed, sized_cover}
use Rattle.search.proofs.Laws.Right.{search_right}
use Rattle.verdicts.specs.Verdicts.{verdict_after, verdict_on, is_none, dead}
use Rattle.verdicts.specs.Promises.{Verdicts}

module _ (t : Table) (w : Wellformed t) (i : ℕ) (row : i < length t.rows) where
  -- The verdict is the right answer of a search of row i's selector for what its cover leaves.
  pub verdict_right : Right (row_at t i).selector (cover_on t i) (verdict_on t i)
  unfolding verdict_after
  verdict_right = search_right (row_at t i).selector (cover_on t i) (w.row i row).selector.ordered (sized_cover t w i row)

  verdict_least : (p : Packet) → verdict_on t i ≡ found p → Least (row_at t i).selector (cover_on t i) p
  verdict_least p e = rw e at verdict_right

  -- The row wins its own probe with the packet that is found.
  own_wins : (p : Packet) → verdict_on t i ≡ found p → Wins t i (row_at t i).source (row_at t i).destination p
  own_wins p e =
      let m = verdict_least p e in
      elim (hidden_or_wins t (table_tree t w) i row p m.inside) [
        | inl h ↦ absurd (m.unclaimed (hidden_claimed t i row h.0 p h.1))
        | inr o ↦ o
      ]

  -- No packet with which the row wins a probe is claimed.
  won_unclaimed : (a b : ℕ) (p : Packet) → Wins t i a b p → Claimed (cover_on t i) p → ⊥
  won_unclaimed a b p o c =
      let h = claimed_hidden t i row p c in
      let k = h.1 in
      (wins_own t (table_tree t w) i a b p o).first h.0 k.earlier k.group
      (record { source = k.source; destination = k.destination; packet = k.packet })

  -- The verdict keeps demand 3.
  pub verdicts : Verdicts t i
  verdicts = record {
    dead = (none_dead, dead_none (verdict_on t i) refl);
    wins = own_wins;
    least = λ p e a b q o. (verdict_least p e).least q o.matches.packet (won_unclaimed a b q o);
  }
    where
      none_dead : verdict_on t i ≡ none → Dead t i
      none_dead e a b p x y o =
          let r : Right (row_at t i).selector (cover_on t i) none = rw e at verdict_right in
          won_unclaimed a b p o (r p o.matches.packet)

      dead_none : (o : SearchResult) → verdict_on t i ≡ o → Dead t i → verdict_on t i ≡ none
      dead_none (found p) e d =
          absurd (d (row_at t i).source (row_at t i).destination p (w.row i row).source (w.row i row).destination (own_wins p e))
      dead_none none e d = e

-- ---- the test

is_none_decides : (a : SearchResult) → Decides (is_none a) (a ≡ none)
is_none_decides none = decides_true refl
is_none_decides (found p) = decides_false (λ e. cc)

pub dead_decides : (t : Table) → Wellformed t → (i : ℕ) → i < length t.rows → Decides (dead t i) (Dead t i)
dead_decides t w i h = let v = (verdicts t w i h).dead in decides_as v.0 v.1 (is_none_decides (verdict_on t i))
