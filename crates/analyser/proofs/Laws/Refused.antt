-- Calls on a text that is refused: each answers its refusal, and writes nothing. And what they answer of a table, or of a row that is not there.
-- Assumes nothing.
use Prim.Native.Nat.{ℕ, ◌≤◌}
use mathlib.Core.Path.{◌≡◌, refl}
use mathlib.Core.List.{List, []}
use lib.ListN.{length}
use borrow.Author.Tests.{le-ltb}
use Rattle.base.specs.Answers.{returned, refused_by}
use Rattle.policy.specs.Model.{Packet}
use Rattle.reader.specs.States.{Parsed}
use Rattle.frames.specs.Refusals.{no_such_row}
use Rattle.analyser.specs.Calls.{counts_of, check_of, line_part, witness_of, winner_of, list_of, list_written, strike_of, strike_written}
use Rattle.analyser.specs.Calls.{join_of, join_written, prefixes_of, prefixes_written}

module _ (number at : ℕ) where
  pub check_refused_text : check_of (refused_by number at) ≡ refused_by number at
  unfolding check_of
  check_refused_text = refl

  pub line_refused_text : (text : List ℕ) (k : ℕ) → line_part text (refused_by number at) k ≡ []
  unfolding line_part
  line_refused_text text k = refl

  pub witness_refused_text : (k : ℕ) → witness_of (refused_by number at) k ≡ refused_by number at
  unfolding witness_of
  witness_refused_text k = refl

  pub winner_refused_text : (k a b : ℕ) (p : Packet) → winner_of (refused_by number at) k a b p ≡ refused_by number at
  unfolding winner_of
  winner_refused_text k a b p = refl

  pub list_refused_text : (out : List ℕ) → (list_of (refused_by number at) out ≡ refused_by number at) × (list_written (refused_by number at) out ≡ out)
  unfolding list_of list_written
  list_refused_text out = (refl, refl)

  pub strike_refused_text : (text out : List ℕ)
      → (strike_of text (refused_by number at) out ≡ refused_by number at) × (strike_written text (refused_by number at) out ≡ out)
  unfolding strike_of strike_written
  strike_refused_text text out = (refl, refl)

  pub join_refused_text : (i j : ℕ) (out : List ℕ)
      → (join_of (refused_by number at) i j out ≡ refused_by number at) × (join_written (refused_by number at) i j out ≡ out)
  unfolding join_of join_written
  join_refused_text i j out = (refl, refl)

  pub prefixes_refused_text : (k side : ℕ) (out : List ℕ)
      → (prefixes_of (refused_by number at) k side out ≡ refused_by number at) × (prefixes_written (refused_by number at) k side out ≡ out)
  unfolding prefixes_of prefixes_written
  prefixes_refused_text k side out = (refl, refl)

module _ (r : Parsed) where
  pub check_accepted : check_of (returned r) ≡ returned (counts_of r.table)
  unfolding check_of
  check_accepted = refl

  module _ (k : ℕ) (h : length r.table.rows ≤ k) where
    pub line_missing : (text : List ℕ) → line_part text (returned r) k ≡ []
    unfolding line_part
    line_missing text = rw (le-ltb _ _ h)

    pub witness_missing : witness_of (returned r) k ≡ refused_by no_such_row 0
    unfolding witness_of
    witness_missing = rw (le-ltb _ _ h)
