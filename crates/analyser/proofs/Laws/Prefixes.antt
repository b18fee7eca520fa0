-- The addresses of a side have 32 bits. The call Prefixes on an accepted text: what it does where the row is not there, where there is no such side, and
-- where both are there.
-- Assumes nothing.
use Prim.Native.Nat.{ℕ, zero, suc, ◌^◌, ◌≤◌, ◌<◌}
use native.Mathlib.Omega.{arith}
use borrow.Author.Tests.{lt-ltb, le-ltb, le-leb, lt-leb}
use mathlib.Core.Path.{◌≡◌, refl, ap}
use mathlib.Core.Logic.{inl, inr}
use mathlib.Core.List.{List, [], ◌∷◌, ◌++◌}
use lib.ListN.{length, drop}
use Rattle.base.specs.Outputs.{WritesCounted}
use Rattle.base.specs.Answers.{Answer, returned, refused_by, told, wrote}
use Rattle.base.specs.declared.Short.{Short}
use Rattle.std.specs.Prelude.{Result, Err}
use Rattle.base.proofs.Laws.Answers.{Kept}
use Rattle.policy.specs.Model.{Selector, Table}
use Rattle.policy.specs.Wellformed.{SelectorRule}
use Rattle.prefixes.specs.Bytes.{address_bytes, prefix_bytes}
use Rattle.prefixes.specs.Sides.{side_of}
use Rattle.frames.specs.declared.refusals.Refusal.{Refusal}
use Rattle.reader.specs.States.{Parsed, table_read}
use Rattle.reader.specs.Views.{Parses}
use Rattle.calls.specs.Rows.{with_row}
use Rattle.calls.proofs.Laws.Texts.{row_refused}
use Rattle.analyser.specs.Calls.{has_room, has_side, row_prefixes, prefix_conditions, prefixes_of, prefixes_written}
use Rattle.analyser.specs.Views.{room_answer}
use Rattle.analyser.proofs.Laws.Outputs.{call_broken, call_writes, call_short, call_whole}

-- The highest address of a side, of a selector that keeps its rules.
pub side_fits : (s : Selector) (side : ℕ) → side ≤ 1 → SelectorRule s → (side_of side s).high < 2 ^ 32
side_fits [] side h r = absurd r.fits
side_fits (a ∷ []) side h r = absurd r.fits.1
side_fits (a ∷ b ∷ s) zero h r = r.fits.0
side_fits (a ∷ b ∷ s) (suc zero) h r = r.fits.1.0
side_fits (a ∷ b ∷ s) (suc (suc side)) h r = absurd (omega arith)

-- What the call answers, and what it leaves in the output.
abbrev pub Does : Answer Parsed → (k side : ℕ) → List ℕ → Answer ℕ → List ℕ → Type 0
Does x k side out answer after = (prefixes_of x k side out ≡ answer) × (prefixes_written x k side out ≡ after)

-- A text's refusal, or that of the row, is the call's.
pub prefixes_away : (x : Answer Parsed) (k side : ℕ) (out : List ℕ) {r : Refusal} → Parses (Err r) (with_row x k)
    → Does x k side out (refused_by r.number r.line) out
unfolding prefixes_of prefixes_written
prefixes_away x k side out p =
    let a =
    row_refused k (λ q. has_side side ∷ has_room (prefix_bytes address_bytes (row_prefixes k side q.table)) out ∷ []) (λ q. row_prefixes k side q.table)
    x p in
    (ap (told length) a, ap (λ y. wrote (prefix_bytes address_bytes) y out) a)

module _ (x : Answer Parsed) (t : Table) (e : x ≡ returned (table_read t)) (k side : ℕ) (out : List ℕ) where
  pub prefixes_no_row : length t.rows ≤ k → Does x k side out (refused_by 9 0) out
  unfolding prefixes_of prefixes_written
  prefixes_no_row h =
      call_broken (prefix_conditions k side) (prefix_bytes address_bytes) length (row_prefixes k side) out x t e 9 (inl (le-ltb k (length t.rows) h, refl))

  -- the row is there
  module _ (h : k < length t.rows) where
    pub prefixes_no_side : 1 < side → Does x k side out (refused_by 12 0) out
    unfolding prefixes_of prefixes_written
    prefixes_no_side n =
        call_broken (prefix_conditions k side) (prefix_bytes address_bytes) length (row_prefixes k side) out x t e 12
        (inr (lt-ltb k (length t.rows) h, inl (lt-leb side 1 n, refl)))

    -- and the side is
    module _ (s : side ≤ 1) where
      pub prefixes_kept : Kept (prefix_conditions k side t)
      prefixes_kept = (lt-ltb k (length t.rows) h, (le-leb side 1 s, tt))

      pub prefixes_short : length out < length (prefix_bytes address_bytes (row_prefixes k side t)) → Does x k side out (refused_by 8 0) out
      unfolding prefixes_of prefixes_written
      prefixes_short l = call_short (prefix_conditions k side) (prefix_bytes address_bytes) length (row_prefixes k side) out x t e prefixes_kept l

      pub prefixes_whole : let bs = prefix_bytes address_bytes (row_prefixes k side t) in length bs ≤ length out
          → Does x k side out (returned (length (row_prefixes k side t))) (bs ++ drop (length bs) out)
      unfolding prefixes_of prefixes_written
      prefixes_whole l = call_whole (prefix_conditions k side) (prefix_bytes address_bytes) length (row_prefixes k side) out x t e prefixes_kept l

      -- The prefixes are written where there is room.
      pub prefixes_writes : (after : List ℕ) (r : Result ℕ Short)
          → WritesCounted (length (row_prefixes k side t)) (prefix_bytes address_bytes (row_prefixes k side t)) out after r
          → (room_answer r ≡ prefixes_of x k side out) × (after ≡ prefixes_written x k side out)
      unfolding prefixes_of prefixes_written
      prefixes_writes after r w =
          call_writes (prefix_conditions k side) (prefix_bytes address_bytes) length (row_prefixes k side) out x t e prefixes_kept after r w
