-- What judging the lines of a text one by one comes to:
--   Onward, onward_start, onward_next: the lines of what is unread make of the struct's state what the text is
--   ends_refused, ends_unended, ends_early, ends_whole: so it ends, refused by a line, or at the text's end
--   parses_filled: the table of an accepted text
-- Assumes nothing.
use mathlib.Core.Path.{◌≡◌, refl, ap, sym, ◌∙◌}
use mathlib.Core.Bool.{Bool, true, false}
use mathlib.Core.List.{List, [], ◌∷◌}
use Prim.Native.Nat.{ℕ}
use native.Mathlib.Omega.{arith}
use borrow.Author.Tests.{eq-eqb, ne_eqb}
use lib.Dec.{eqb}
use lib.ListN.{length}
use Rattle.std.specs.Prelude.{Option, Some, None, Ok, Err}
use Rattle.base.specs.Answers.{Answer, returned, refused_by}
use Rattle.base.specs.Truths.{bit}
use Rattle.policy.specs.Views.{Stands}
use Rattle.policy.specs.declared.table.Table.{Table as TableStruct}
use Rattle.frames.specs.Progress.{Progress, nothing, lines_read}
use Rattle.frames.specs.Refusals.{no_line, out_of_sequence}
use Rattle.frames.specs.declared.refusals.Refusal.{Refusal}
use Rattle.reader.specs.Lines.{lines_of, rest_of}
use Rattle.reader.specs.States.{Parsed, table_read, State, reading, refused, step, run, finish, parse}
use Rattle.reader.specs.Views.{Ready, Has, Reads, IsNext, Moves, Ends, Fillable, Parses}
use Rattle.reader.specs.declared.state.State.{State as StateStruct}
use Rattle.reader.proofs.Laws.Lines.{rest_alone}
use Rattle.reader.proofs.Laws.Rules.{accepted_exactly}
use Rattle.reader.proofs.Laws.States.{run_refused}

said_by : (x : Refusal) {number line : ℕ} → x ≡ record { number = number; line = line }
    → ◌≡◌ {A = Answer Parsed} (refused_by number line) (refused_by x.number x.line)
said_by x h = λ i. refused_by (sym h i).number (sym h i).line

-- The struct is ready, and what some lines make of the state that it stands for is what the text is.
pub record Onward (text unread : List ℕ) (r : StateStruct) : Type 0 where
  pub ready : Ready r
  pub state : State
  pub reads : Reads r state
  pub same : finish (run state (lines_of unread)) (rest_of unread) ≡ parse text

pub onward_start : (text : List ℕ) (r : StateStruct) → Ready r → Reads r (reading 0 nothing) → Onward text text r
unfolding parse
onward_start text r ready h = record { ready = ready; state = reading 0 nothing; reads = h; same = refl }

module _ {text unread : List ℕ} {r : StateStruct} (o : Onward text unread r) where
  -- The first of the lines has been read.
  pub onward_next : {line after : List ℕ} {q : StateStruct} → (lines_of unread ≡ line ∷ lines_of after) × (rest_of unread ≡ rest_of after)
      → Moves r (λ s. step s line) q → Onward text after q
  unfolding run
  onward_next {line} {after} {q} e m =
      record { ready = m.ready; state = step o.state line; reads = m.reads o.state o.reads; same = rw (e.0, e.1) at o.same }

  -- Whatever lines follow, the refusal of a struct is that of the text.
  pub ends_refused : (by : Refusal) → r.refusal ≡ Some by → Ends text (Err by)
  unfolding finish
  ends_refused by e = go o.state o.reads o.same
    where
      go : (s : State) → Reads r s → finish (run s (lines_of unread)) (rest_of unread) ≡ parse text → parse text ≡ refused_by by.number by.line
      go (reading k p) h same = let x : ◌≡◌ {A = Option Refusal} None (Some by) = sym h.0 ∙ e in absurd (cc)
      go (refused k l) h same =
          let x : ◌≡◌ {A = Option Refusal} (Some by) (Some (record { number = k; line = l })) = sym e ∙ h.is in
          let z : finish (run (refused k l) (lines_of unread)) (rest_of unread) ≡ refused_by k l = rw (run_refused k l (lines_of unread)) in
          sym same ∙ z ∙ said_by by cc

  -- No line follows, and the text ends with what is left.
  module _ {left : List ℕ} (none : (lines_of unread ≡ []) × (left ≡ unread)) (z : r.refusal ≡ None) where
    -- Not refused, it has all of what has been read.
    going : {A : Type 0} → ((p : Progress) → Has r p → finish (reading (lines_read p) p) left ≡ parse text → A) → A
    unfolding run
    going {A} f = go o.state o.reads (rw (none.0, rest_alone unread none.0, ← none.1) at o.same)
      where
        go : (s : State) → Reads r s → finish s left ≡ parse text → A
        go (reading n p) g q = f p g.2 (rw g.1 at q)
        go (refused k l) g q = let x : ◌≡◌ {A = Option Refusal} None (Some (record { number = k; line = l })) = sym z ∙ g.is in absurd (cc)

    pub ends_unended : (by : Refusal) → false ≡ eqb (length left) 0 → IsNext r no_line by → Ends text (Err by)
    unfolding finish
    ends_unended by e g = going (λ p has x. sym x ∙ rw (← e) (said_by by (g p has)))

    module _ (e : true ≡ eqb (length left) 0) where
      pub ends_early : (by : Refusal) → r.floored ≡ false → IsNext r out_of_sequence by → Ends text (Err by)
      unfolding finish
      ends_early by f g =
          going
          (λ p has x.
          let z : p.floored ≡ 0 = sym has.floored ∙ ap bit f in
          let early : ◌≡◌ {A = Bool} (eqb p.floored 1) false = ne_eqb p.floored 1 (λ k. omega arith) in
          sym x ∙ rw (← e, early) (said_by by (g p has)))

      pub ends_whole : r.floored ≡ true → Ends text (Ok r)
      unfolding finish
      ends_whole f =
          going
          (λ p has x.
          let z : p.floored ≡ 1 = sym has.floored ∙ ap bit f in
          let last : ◌≡◌ {A = Bool} (eqb p.floored 1) true = eq-eqb p.floored 1 z in
          let whole : parse text ≡ returned (table_read p.table) = sym x ∙ rw (← e, last) in
          record {
            table = p.table;
            keeps = (accepted_exactly text p.table).0 whole;
            ready = o.ready;
            has =
                record {
                  entities = has.entities;
                  caps = has.caps;
                  floor = has.floor;
                  floored = has.floored ∙ z;
                  filters = has.filters;
                  rows = has.rows;
                };
          })

-- The table that an accepted text's state is filled to.
pub parses_filled : (text : List ℕ) (s : StateStruct) (a : Fillable text s) (t : TableStruct) → Stands t a.table → Parses (Ok t) (parse text)
parses_filled text s a t h =
    record { same = ap (λ x. returned (table_read x)) h.same ∙ sym ((accepted_exactly text a.table).1 a.keeps); held = h.held }
