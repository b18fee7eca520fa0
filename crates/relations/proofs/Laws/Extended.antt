-- Rows added at the end of a table leave its own as they are: each wins the probes that it won and no others, and the winner of a probe stays.
-- Assumes nothing.
use Prim.Native.Nat.{ℕ, ◌<◌}
use mathlib.Core.Path.{◌≡◌, sym, subst}
use mathlib.Core.Logic.{◌↔◌}
use mathlib.Core.List.{List, ◌++◌}
use native.Mathlib.Omega.{arith}
use lib.ListN.{length, length-append, get_or-append}
use Rattle.std.specs.Prelude.{Some}
use Rattle.policy.specs.Model.{Packet, Row, Table, extended, no_row, row_at, parent_of}
use Rattle.relations.specs.Groups.{SameGroup, Wins, Dead, winner_from}
use Rattle.relations.proofs.Laws.Groups.{group_wins, wins_group}
use Rattle.relations.proofs.Laws.Renumbered.{wins_renumbered}

module _ (t : Table) (added : List Row) where
  pub row_extended : (i : ℕ) → i < length t.rows → row_at (extended added t) i ≡ row_at t i
  row_extended i h = get_or-append t.rows added no_row i h

  pub wins_extended : (i a b : ℕ) (p : Packet) → i < length t.rows → Wins t i a b p ↔ Wins (extended added t) i a b p
  wins_extended i a b p h = (
    wins_renumbered t (t.rows ++ added) (λ j. j) i a b p (omega (arith, length-append t.rows added)) (λ j l. row_extended j (omega arith)) (λ j l. l),
    wins_renumbered (extended added t) t.rows (λ j. j) i a b p h (λ j l. sym (row_extended j (omega arith))) (λ j l. l),
  )

  pub dead_extended : (i : ℕ) → i < length t.rows → Dead t i ↔ Dead (extended added t) i
  dead_extended i h = (
    λ d a b p x y w. d a b p x y ((wins_extended i a b p h).1 w),
    λ d a b p x y w. d a b p x y ((wins_extended i a b p h).0 w),
  )

  pub winner_extended : (g : Row) (a b : ℕ) (p : Packet) (i : ℕ) → winner_from (parent_of t) g a b p 0 t.rows ≡ Some i
      → winner_from (parent_of t) g a b p 0 (t.rows ++ added) ≡ Some i
  winner_extended g a b p i e =
      let c = group_wins t g a b p i e in
      let h = c.1.row in
      wins_group (extended added t) g a b p i (subst (λ r. SameGroup r g) (sym (row_extended i h)) c.0, (wins_extended i a b p h).0 c.1)
