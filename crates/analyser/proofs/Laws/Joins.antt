-- The call Join on an accepted text: what it does where a row is not there, where the two can't be joined, and where they can.
-- Assumes nothing.
use Prim.Native.Nat.{ℕ, ◌≤◌, ◌<◌}
use native.Mathlib.Decide.{dec_lt}
use native.Mathlib.Omega.{arith}
use borrow.Author.Tests.{lt-ltb, le-ltb}
use mathlib.Core.Path.{◌≡◌, refl, ap}
use mathlib.Core.Logic.{inl, inr}
use mathlib.Core.List.{List, [], ◌∷◌, ◌++◌}
use lib.ListN.{length, drop}
use Rattle.base.specs.Outputs.{Writes}
use Rattle.base.specs.Answers.{Answer, returned, refused_by, told, given, wrote}
use Rattle.base.specs.declared.Short.{Short}
use Rattle.std.specs.Prelude.{Result, Err}
use Rattle.frames.specs.declared.refusals.Refusal.{Refusal}
use Rattle.reader.specs.Views.{Parses}
use Rattle.calls.specs.Rows.{has_row, with_row}
use Rattle.calls.proofs.Laws.Texts.{row_refused}
use Rattle.base.proofs.Laws.Answers.{Kept}
use Rattle.base.proofs.Laws.Decides.{decides_holds, decides_fails}
use Rattle.policy.specs.Model.{Table, row_at, parent_of}
use Rattle.joining.specs.Joining.{Joinable}
use Rattle.joining.proofs.Laws.Joining.{joinable_decides}
use Rattle.reader.specs.States.{Parsed, table_read}
use Rattle.analyser.specs.Calls.{has_room, can_join, joined_line, join_conditions, join_of, join_written}
use Rattle.analyser.specs.Views.{room_answer}
use Rattle.analyser.proofs.Laws.Outputs.{call_broken, call_asked, call_writes, call_short, call_whole}

-- What the call answers, and what it leaves in the output.
abbrev pub Does : Answer Parsed → (i j : ℕ) → List ℕ → Answer ℕ → List ℕ → Type 0
Does x i j out answer after = (join_of x i j out ≡ answer) × (join_written x i j out ≡ after)

-- A text's refusal, or that of the first row, is the call's.
pub join_away : (x : Answer Parsed) (i j : ℕ) (out : List ℕ) {r : Refusal} → Parses (Err r) (with_row x i) → Does x i j out (refused_by r.number r.line) out
unfolding join_of join_written
join_away x i j out p =
    let a = row_refused i (λ q. has_row j q.table ∷ can_join i j q.table ∷ has_room (joined_line i j q.table) out ∷ []) (λ q. joined_line i j q.table) x p in
    (ap (told length) a, ap (λ y. wrote (λ l. l) y out) a)

module _ (x : Answer Parsed) (t : Table) (e : x ≡ returned (table_read t)) (i j : ℕ) (out : List ℕ) where
  pub join_no_row : ((i < length t.rows) × (j < length t.rows) → ⊥) → Does x i j out (refused_by 9 0) out
  unfolding join_of join_written
  join_no_row n =
      call_broken (join_conditions i j) (λ l. l) length (joined_line i j) out x t e 9
      (elim (dec_lt i (length t.rows)) [
        | yes l ↦ inr (lt-ltb _ _ l, elim (dec_lt j (length t.rows)) [ yes m ↦ absurd (n (l, m)) | no m ↦ inl (le-ltb j (length t.rows) (omega arith), refl) ])
        | no l ↦ inl (le-ltb i (length t.rows) (omega arith), refl)
      ])

  -- both rows are there
  module _ (h : i < length t.rows) (k : j < length t.rows) where
    pub join_differ : (Joinable (parent_of t) (row_at t i) (row_at t j) → ⊥) → Does x i j out (refused_by 11 0) out
    unfolding join_of join_written
    join_differ n =
        call_broken (join_conditions i j) (λ l. l) length (joined_line i j) out x t e 11
        (inr (lt-ltb _ _ h, inr (lt-ltb _ _ k, inl (decides_fails _ (joinable_decides (parent_of t) (row_at t i) (row_at t j)) n, refl))))

    -- and can be joined
    module _ (c : Joinable (parent_of t) (row_at t i) (row_at t j)) where
      pub join_kept : Kept (join_conditions i j t)
      join_kept = (lt-ltb _ _ h, (lt-ltb _ _ k, (decides_holds _ (joinable_decides (parent_of t) (row_at t i) (row_at t j)) c, tt)))

      -- Only the room is asked for.
      pub join_asked : let asked = given (has_room (joined_line i j t) out ∷ []) (joined_line i j t) in
          Does x i j out (told length asked) (wrote (λ l. l) asked out)
      unfolding join_of join_written
      join_asked =
          let a = call_asked (join_conditions i j) (λ l. l) length (joined_line i j) out x t e join_kept in
          (ap (told length) a, ap (λ y. wrote (λ l. l) y out) a)

      pub join_short : length out < length (joined_line i j t) → Does x i j out (refused_by 8 0) out
      unfolding join_of join_written
      join_short l = call_short (join_conditions i j) (λ l. l) length (joined_line i j) out x t e join_kept l

      pub join_whole : length (joined_line i j t) ≤ length out
          → Does x i j out (returned (length (joined_line i j t))) (joined_line i j t ++ drop (length (joined_line i j t)) out)
      unfolding join_of join_written
      join_whole l = call_whole (join_conditions i j) (λ l. l) length (joined_line i j) out x t e join_kept l

      -- The line is written where there is room.
      pub join_writes : (after : List ℕ) (r : Result ℕ Short) → Writes (joined_line i j t) out after r
          → (room_answer r ≡ join_of x i j out) × (after ≡ join_written x i j out)
      unfolding join_of join_written
      join_writes after r w = call_writes (join_conditions i j) (λ l. l) length (joined_line i j) out x t e join_kept after r w
