-- What every call does first: it reads the text, and most ask for a row. From the result that stands for it,
--   text_refused: the text's refusal, which is then that of every call
--   Accepted, accepted: the table, and what holds of it
--   keep_broken, keep_kept: what the test of a condition comes to
--   row_kept, row_missing: what is read of a text with the row, by the test of a table
--   row_taken: the row is there
--   row_refused: a text's refusal, or of a row that is not there, is that of every call that asks for the row first
--   row_answered: of a row that is there, the value of a call on it
-- Assumes nothing.
use mathlib.Core.Path.{◌≡◌, refl, sym, ap, ◌∙◌}
use mathlib.Core.Bool.{Bool, true, false}
use mathlib.Core.List.{List, ◌∷◌}
use Prim.Native.Nat.{ℕ, ◌<◌}
use native.Mathlib.Omega.{arith}
use lib.Dec.{ltb}
use lib.ListN.{length}
use borrow.Author.Tests.{lt-ltb, ltb-true}
use Rattle.std.specs.Prelude.{Result, Ok, Err, IsErrAnd}
use Rattle.base.specs.Truths.{pick}
use Rattle.base.specs.Checks.{Check}
use Rattle.base.specs.Answers.{Answer, returned, refused_by, given, call_on}
use Rattle.policy.specs.Model.{Table}
use Rattle.policy.specs.Views.{table_of, Held}
use Rattle.policy.specs.Wellformed.{Wellformed}
use Rattle.policy.specs.declared.table.Table.{Table as TableStruct}
use Rattle.policy.proofs.Laws.Lists.{length_rows}
use Rattle.policy.proofs.Laws.Tables.{Sized, Counted, counted}
use Rattle.frames.specs.Refusals.{no_such_row}
use Rattle.frames.specs.declared.refusals.Refusal.{Refusal}
use Rattle.reader.specs.States.{Parsed, table_read, parse}
use Rattle.reader.specs.Views.{Parses}
use Rattle.reader.proofs.Laws.Wellformed.{accepted_wellformed}
use Rattle.calls.specs.Rows.{has_row, on_row, with_row}
use Rattle.calls.specs.Views.{refusal}

pub text_refused : {r : Refusal} {x : Answer Parsed} → Parses (Err r) x → x ≡ refused_by r.number r.line
text_refused p = sym p.same

pub record Accepted (text : List ℕ) (t : TableStruct) : Type 0 where
  pub read : parse text ≡ returned (table_read (table_of t))
  pub well : Wellformed (table_of t)
  pub sized : Sized t
  pub counted : Counted t
  pub held : Held t

-- Of a table that a call has given.
pub accepted : (text : List ℕ) (t : TableStruct) → Sized t → Parses (Ok t) (parse text) → Accepted text t
accepted text t sized p =
    let e : parse text ≡ returned (table_read (table_of t)) = sym p.same in
    record {
      read = e;
      well = accepted_wellformed text (table_of t) e;
      sized = sized;
      counted = counted t (omega (arith, sized.caps, p.held.capped));
      held = p.held;
    }

-- ---- conditions that are tested one by one

-- The condition that is broken has this number; none is where the test is passed.
pub keep_broken : (b : Bool) (number n : ℕ) → 0 < number → number ≡ pick b 0 n → (b ≡ false) × (number ≡ n)
keep_broken true number n l e = absurd (omega arith)
keep_broken false number n l e = (refl, e)

pub keep_kept : (b : Bool) (n : ℕ) → 0 < n → 0 ≡ pick b 0 n → b ≡ true
keep_kept true n l e = refl
keep_kept false n l e = absurd (omega arith)

-- ---- a row that is asked for first

module _ (k : ℕ) where
  there : (x : Answer Parsed) (t : Table) → returned (table_read t) ≡ with_row x k → (x ≡ returned (table_read t)) × (k < length t.rows)
  there (returned p) t e = go (ltb k (length p.table.rows)) refl e
    where
      go : (b : Bool) → ltb k (length p.table.rows) ≡ b → returned (table_read t) ≡ pick b (returned (table_read p.table)) (refused_by no_such_row 0)
          → (returned p ≡ returned (table_read t)) × (k < length t.rows)
      go true h e = let s : t ≡ p.table = cc in (rw s refl, rw s (ltb-true k (length p.table.rows) h))
      go false h e = let z : ◌≡◌ {A = ℕ} 0 1 = cc in absurd (omega arith)
  there (refused_by n l) t e = let z : ◌≡◌ {A = ℕ} 0 1 = cc in absurd (omega arith)

  pub row_taken : {t : TableStruct} {x : Answer Parsed} → Parses (Ok t) (with_row x k) → Parses (Ok t) x × (k < length (table_of t).rows)
  row_taken {t} {x} p = let s = there x (table_of t) p.same in (record { same = sym s.0; held = p.held }, s.1)

  -- What the test of a row comes to, of a table that was read.
  module _ {t : TableStruct} {x : Answer Parsed} (p : Parses (Ok t) x) where
    asked : with_row x k ≡ pick (ltb k t.rows) (returned (table_read (table_of t))) (refused_by no_such_row 0)
    asked =
        ap (λ y. with_row y k) (sym p.same)
        ∙ ap (λ (n : ℕ). pick (ltb k n) (returned (table_read (table_of t))) (refused_by no_such_row 0)) (length_rows t.heads t.bounds t.rows)

    pub row_kept : 0 ≡ pick (ltb k t.rows) 0 no_such_row → Parses (Ok t) (with_row x k)
    row_kept h = record { same = sym (asked ∙ kept (ltb k t.rows) h); held = p.held }
      where
        kept : {a : Answer Parsed} (b : Bool) → 0 ≡ pick b 0 no_such_row → pick b a (refused_by no_such_row 0) ≡ a
        kept true h = refl
        kept false h = absurd (omega arith)

    pub row_missing : (r : Result TableStruct Refusal) (number : ℕ) → 0 < number → number ≡ pick (ltb k t.rows) 0 no_such_row → IsErrAnd r (λ e. e ≡ refusal number 0)
        → Parses r (with_row x k)
    row_missing (Ok u) number l h q = absurd q
    row_missing (Err e) number l h q = record { same = lost (returned (table_read (table_of t))) (ltb k t.rows) h ∙ sym asked; held = tt }
      where
        lost : (a : Answer Parsed) (b : Bool) → number ≡ pick b 0 no_such_row → refused_by e.number e.line ≡ pick b a (refused_by no_such_row 0)
        lost a true h = absurd (omega arith)
        lost a false h = rw q (ap (λ (n : ℕ). refused_by n 0) h)

  module _ {A : Type 0} (conditions : Parsed → List Check) (value : Parsed → A) where
    absent : (x : Answer Parsed) (number line : ℕ) → refused_by number line ≡ with_row x k
        → call_on (λ r. has_row k r.table ∷ conditions r) value x ≡ refused_by number line
    absent (returned p) number line e = go (ltb k (length p.table.rows)) e
      where
        go : (b : Bool) → refused_by number line ≡ pick b (returned (table_read p.table)) (refused_by no_such_row 0)
            → pick b (given (conditions p) (value p)) (refused_by no_such_row 0) ≡ refused_by number line
        go true e = let z : ◌≡◌ {A = ℕ} 0 1 = cc in absurd (omega arith)
        go false e = let n : number ≡ no_such_row = cc in let l : line ≡ 0 = cc in rw (n, l) refl
    absent (refused_by n l) number line e = let s : number ≡ n = cc in let m : line ≡ l = cc in rw (s, m) refl

    pub row_refused : (x : Answer Parsed) {r : Refusal} → Parses (Err r) (with_row x k)
        → call_on (λ q. has_row k q.table ∷ conditions q) value x ≡ refused_by r.number r.line
    row_refused x {r} p = absent x r.number r.line p.same

pub row_answered : {A : Type 0} (value : Table → ℕ → A) (k : ℕ) (x : Answer Parsed) (t : Table) → x ≡ returned (table_read t) → k < length t.rows
    → on_row value x k ≡ returned (value t k)
row_answered value k x t e h = rw e (rw (lt-ltb k (length t.rows) h))
