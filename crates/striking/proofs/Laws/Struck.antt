-- Striking the dead rows of a well-formed table keeps what demand 3 says: a row that wins a probe is not dead, so it is kept, and
-- the rows that go did not win it.
-- Assumes nothing.
use Prim.Native.Nat.{ℕ, ◌<◌}
use mathlib.Core.Path.{◌≡◌, refl, subst, subst⁻¹}
use mathlib.Core.Bool.{not}
use native.Mathlib.Decide.{dec_lt}
use native.Mathlib.Omega.{arith}
use lib.ListN.{length, get_or}
use Rattle.std.specs.Prelude.{Option, Some, None}
use Rattle.policy.specs.Model.{Packet, Row, Table, row_at, parent_of}
use Rattle.policy.specs.Wellformed.{IsEntity, Wellformed}
use Rattle.relations.specs.Groups.{SameGroup, Matches, Wins, Dead, winner_from}
use Rattle.base.proofs.Laws.Decides.{decides_holds}
use Rattle.relations.proofs.Laws.Groups.{group_sym, group_trans, group_wins, group_nobody}
use Rattle.relations.proofs.Laws.Renumbered.{wins_renumbered}
use Rattle.verdicts.specs.Verdicts.{dead}
use Rattle.striking.specs.Striking.{kept, struck, SameWinner, Struck}
use Rattle.striking.proofs.Laws.Kept.{kept_rows, kept_row, alive_decides}
use Rattle.striking.proofs.Laws.Tables.{length_struck, row_struck, struck_well}

-- ---- who wins in the struck table

module _ (t : Table) (a b : ℕ) (p : Packet) where
  matches_kept : (k : ℕ) → k < length (kept t) → Matches (parent_of (struck t)) (row_at (struck t) k) a b p
      → Matches (parent_of t) (row_at t (get_or (kept t) k 0)) a b p
  matches_kept k h = subst (λ r. Matches (parent_of t) r a b p) (row_struck t k h)

  -- A kept row that wins a probe wins it in the struck table.
  wins_struck : (k : ℕ) → k < length (kept t) → Wins t (get_or (kept t) k 0) a b p → Wins (struck t) k a b p
  wins_struck k h =
      wins_renumbered t (struck t).rows (λ j. get_or (kept t) j 0) k a b p (omega (arith, length_struck t)) (λ j l. row_struck t j (omega arith))
      (λ j l. (kept_rows t).ascending j k l h)

-- Of a group one row wins a probe.
wins_once : (t : Table) (i j a b : ℕ) (p : Packet) → SameGroup (row_at t i) (row_at t j) → Wins t i a b p → Wins t j a b p → i ≡ j
wins_once t i j a b p s u v =
    elim (dec_lt i j) [
      | yes l ↦ absurd (v.first i l s u.matches)
      | no l ↦ elim (dec_lt j i) [ yes k ↦ absurd (u.first j k (group_sym s) v.matches) | no k ↦ omega arith ]
    ]

module _ (t : Table) (w : Wellformed t) where
  -- No row of the struck table is dead: the row that it was is not.
  struck_alive : (k : ℕ) → k < length (struck t).rows → Dead (struck t) k → ⊥
  struck_alive k l d =
      let h : k < length (kept t) = omega (arith, length_struck t) in
      (alive_decides t w (get_or (kept t) k 0) (kept_row t k h)).yes ((kept_rows t).pass k h)
      (λ a b p x y o. d a b p x y (wins_struck t a b p k h o))

  module _ (g : Row) (a b : ℕ) (p : Packet) (x : IsEntity t a) (y : IsEntity t b) where
    -- The row that wins is not dead, so it is kept, and wins.
    stays : (i : ℕ) → winner_from (parent_of t) g a b p 0 t.rows ≡ Some i
        → (m : ℕ) × (m < length (kept t)) × (get_or (kept t) m 0 ≡ i) × SameGroup (row_at (struck t) m) g × Wins (struck t) m a b p
    stays i e =
        let u = group_wins t g a b p i e in
        let live = decides_holds (not (dead t i)) (alive_decides t w i u.1.row) (λ d. d a b p x y u.1) in
        let c = (kept_rows t).all i (omega arith) (omega (arith, u.1.row)) live in (
          c.0,
          c.1,
          c.2,
          subst⁻¹ (λ r. SameGroup r g) (row_struck t c.0 c.1) (subst⁻¹ (λ n. SameGroup (row_at t n) g) c.2 u.0),
          wins_struck t a b p c.0 c.1 (subst⁻¹ (λ n. Wins t n a b p) c.2 u.1),
        )

    same : (o n : Option ℕ) → winner_from (parent_of t) g a b p 0 t.rows ≡ o
        → winner_from (parent_of (struck t)) g a b p 0 (struck t).rows ≡ n → SameWinner (kept t) o n
    same (Some i) (Some k) e f =
        let c = stays i e in
        let v = group_wins (struck t) g a b p k f in
        let q : c.0 ≡ k = wins_once (struck t) c.0 k a b p (group_trans c.3 (group_sym v.0)) c.4 v.1 in
        (subst (λ n. n < length (kept t)) q c.1, subst (λ n. get_or (kept t) n 0 ≡ i) q c.2)
    same (Some i) None e f =
        let c = stays i e in
        group_nobody (struck t) g a b p f c.0 c.4.row c.3 c.4.matches
    same None (Some k) e f =
        let v = group_wins (struck t) g a b p k f in
        let h : k < length (kept t) = omega (arith, v.1.row, length_struck t) in
        group_nobody t g a b p e (get_or (kept t) k 0) (kept_row t k h)
        (subst (λ r. SameGroup r g) (row_struck t k h) v.0)
        (matches_kept t a b p k h v.1.matches)
    same None None e f = tt

    struck_winners : SameWinner (kept t) (winner_from (parent_of t) g a b p 0 t.rows) (winner_from (parent_of (struck t)) g a b p 0 (struck t).rows)
    struck_winners =
        same (winner_from (parent_of t) g a b p 0 t.rows) (winner_from (parent_of (struck t)) g a b p 0 (struck t).rows) refl refl

-- ---- the promises

pub struck_keeps : (t : Table) → Wellformed t → Struck t
struck_keeps t w = record { well = struck_well t w; alive = struck_alive t w; winners = struck_winners t w }
