-- "The first faulty line counts (lines from 1), there the least number", of every text:
--   refused_exactly: a text is refused by a number at a line exactly when that is its first fault
--   accepted_faultless: a text that is accepted has no fault
-- Assumes nothing.
use mathlib.Core.Path.{◌≡◌, refl, sym, ap, ◌∙◌}
use mathlib.Core.Bool.{Bool, true, false}
use mathlib.Core.Logic.{◌↔◌, inl, inr}
use mathlib.Core.List.Memᴰ
use mathlib.Core.List.{List, [], ◌∷◌, ◌++◌, map, Memᴰ}
use Prim.Native.Nat.{ℕ, zero, suc, ◌+◌, ◌≤◌, ◌<◌}
use native.Mathlib.Decide.{dec_lt}
use native.Mathlib.Omega.{arith}
use borrow.Author.Tests.{eqb-true, eqb-false}
use lib.Dec.{eqb}
use lib.ListN.{length}
use Rattle.base.specs.Answers.{Answer, returned, refused_by}
use Rattle.base.specs.Checks.{refusal}
use Rattle.base.proofs.Laws.Checks.{refusal_none, refusal_least, refusal_fault}
use Rattle.base.proofs.Laws.Lists.{length_none}
use Rattle.hexlines.specs.Lines.{is_line}
use Rattle.policy.specs.Model.{Coefficients, Table}
use Rattle.frames.specs.Refusals.{no_line, out_of_sequence}
use Rattle.frames.specs.Progress.{Progress, nothing}
use Rattle.frames.specs.Kinds.{of_entity, of_floor}
use Rattle.frames.proofs.Laws.Growing.{before_floor, after_floor}
use Rattle.reader.specs.Lines.{lines_of, rest_of}
use Rattle.reader.specs.Frames.{Frame, a_frame}
use Rattle.reader.specs.States.{Parsed, table_read, reading, checks, line_checks, grown, step, run, finish, parse}
use Rattle.reader.specs.Rules.{cap_frames}
use Rattle.reader.specs.Faults.{Fault, EndFault, feed_missing, floor_missing, FaultFrom, FaultAt, FirstFault}
use Rattle.reader.proofs.Laws.Runs.{pick_either}
use Rattle.reader.proofs.Laws.States.{step_taken, step_refused, byte_in, run_refused}
use Rattle.reader.proofs.Laws.Wellformed.{in_range, growing_frame}
use Rattle.reader.proofs.Laws.Sequence.{early_frames, floor_there, not_among}
use Rattle.reader.proofs.Laws.Rules.{line_frame, so_far_taken}
use Rattle.reader.proofs.Laws.Faults.{Reached, reached_nothing, read_more, line_rising, line_faults, line_breaks}

-- ---- one line

module _ (before : List Frame) (p : Progress) (r : Reached before p) (l : List ℕ) where
  abbrev number : ℕ
  number = refusal (line_checks p l)

  -- What has been read with a line that has no fault.
  reached_more : number ≡ 0 → Reached (before ++ (line_frame l ∷ [])) (grown p (line_frame l))
  reached_more z =
      let k = refusal_none (is_line l) no_line (checks p (line_frame l)) (λ e. omega arith) z in
      record {
        growing = growing_frame p (line_frame l) (in_range l) r.growing k.1;
        frames = so_far_taken p (line_frame l) r.growing.sequenced k.1 ∙ ap (λ fs. fs ++ (line_frame l ∷ [])) r.frames;
        read = read_more nothing before (line_frame l) ∙ ap (λ q. grown q (line_frame l)) r.read;
      }

  -- It has no fault, or the least is its number.
  line_faultless : number ≡ 0 → (n : ℕ) → Fault before l n → ⊥
  line_faultless z n h = omega (arith, refusal_least 0 n (line_checks p l) (line_rising before p r l) (line_breaks before p r l n h))

  line_fault : (number ≡ 0 → ⊥) → Fault before l number
  line_fault z = refusal_fault (Fault before l) (line_checks p l) (line_faults before p r l) z

  line_least : (n : ℕ) → Fault before l n → number ≤ n
  line_least n h = (refusal_least 0 n (line_checks p l) (line_rising before p r l) (line_breaks before p r l n h)).1

-- ---- the text's end

floor_no_cap : (c : Coefficients) (n : ℕ) (cs : List Coefficients) → Memᴰ (a_frame of_floor c) (cap_frames n cs) → ⊥
floor_no_cap c n [] m = Memᴰ.not-nil m
floor_no_cap c n (d ∷ cs) m = elim (Memᴰ.cases_cons m) [ inl e ↦ let q = ap byte_in e in omega arith | inr k ↦ floor_no_cap c (suc n) cs k ]

module _ (before : List Frame) (p : Progress) (r : Reached before p) (rest : List ℕ) where
  end_early : rest ≡ [] → (p.floored ≡ 1 → ⊥) → EndFault before rest out_of_sequence
  end_early e n = floor_missing e (λ c m. elim r.growing.sequenced [
    | before_floor z q ↦
        let m' = rw (← r.frames, early_frames p z q.none_later) at m in
        elim (Memᴰ.append_cases (map (a_frame of_entity) p.table.entities) m') [
          | inl k ↦ not_among (a_frame of_entity) (a_frame of_floor c) (λ e q. omega arith) p.table.entities k
          | inr k ↦ floor_no_cap c 1 p.table.caps k
        ]
    | after_floor f q ↦ n f
  ])

  end_whole : rest ≡ [] → p.floored ≡ 1 → (n : ℕ) → EndFault before rest n → ⊥
  end_whole e f n (feed_missing h) = h e
  end_whole e f n (floor_missing h none) = none p.table.floor (rw (← r.frames) (floor_there p f))

  end_least : rest ≡ [] → (n : ℕ) → EndFault before rest n → out_of_sequence ≤ n
  end_least e n (feed_missing h) = absurd (h e)
  end_least e n (floor_missing h none) = omega arith

  end_some : (n : ℕ) → EndFault before rest n → no_line ≤ n
  end_some n (feed_missing h) = omega arith
  end_some n (floor_missing h none) = omega arith

-- ---- lines and the text's end

record First (before : List Frame) (lines : List (List ℕ)) (rest : List ℕ) (number place : ℕ) : Type 0 where
  first : (k n : ℕ) → k < place → FaultFrom before lines rest k n → ⊥
  fault : FaultFrom before lines rest place number
  least : (n : ℕ) → FaultFrom before lines rest place n → number ≤ n

-- What an answer says of the faults of lines that follow m others, and of the text's end.
abbrev Says : List Frame → List (List ℕ) → List ℕ → ℕ → Answer Parsed → Type 0
Says before lines rest m (returned t) = (k n : ℕ) → FaultFrom before lines rest k n → ⊥
Says before lines rest m (refused_by number line) = (place : ℕ) × (line ≡ m + place + 1) × First before lines rest number place

says_end : (before : List Frame) (p : Progress) → Reached before p → (rest : List ℕ) (m : ℕ) → Says before [] rest m (finish (reading m p) rest)
unfolding finish
says_end before p r rest m =
    pick_either (Says before [] rest m) (eqb (length rest) 0) _ _
    (λ e.
    let ended = length_none rest (eqb-true (length rest) 0 e) in
    pick_either (Says before [] rest m) (eqb p.floored 1) _ _
    (λ f k n. whole (end_whole before p r rest ended (eqb-true p.floored 1 f)) k n)
    (λ f. at_end out_of_sequence (end_early before p r rest ended (eqb-false p.floored 1 f)) (end_least before p r rest ended)))
    (λ e. at_end no_line (feed_missing (λ z. eqb-false (length rest) 0 e (ap length z))) (end_some before p r rest))
  where
    whole : ((n : ℕ) → EndFault before rest n → ⊥) → (k n : ℕ) → FaultFrom before [] rest k n → ⊥
    whole none zero n h = none n h
    whole none (suc k) n h = h

    at_end : (number : ℕ) → EndFault before rest number → ((n : ℕ) → EndFault before rest n → number ≤ n) → Says before [] rest m (refused_by number (suc m))
    at_end number f l = (0, omega arith, record { first = λ k n h. absurd (omega arith); fault = f; least = l })

-- A line without fault, before the others.
says_more : (before : List Frame) (l : List ℕ) (lines : List (List ℕ)) (rest : List ℕ) (m : ℕ) → ((n : ℕ) → Fault before l n → ⊥) → (x : Answer Parsed)
    → Says (before ++ (line_frame l ∷ [])) lines rest (suc m) x → Says before (l ∷ lines) rest m x
says_more before l lines rest m none (returned t) h = later
  where
    later : (k n : ℕ) → FaultFrom before (l ∷ lines) rest k n → ⊥
    later zero n f = none n f
    later (suc k) n f = h k n f
says_more before l lines rest m none (refused_by number line) h = (suc h.0, omega (arith, h.1), record { first = later; fault = h.2.fault; least = h.2.least })
  where
    later : (k n : ℕ) → k < suc h.0 → FaultFrom before (l ∷ lines) rest k n → ⊥
    later zero n b f = none n f
    later (suc k) n b f = h.2.first k n (omega arith) f

says : (lines : List (List ℕ)) (before : List Frame) (p : Progress) → Reached before p → (rest : List ℕ) (m : ℕ)
    → Says before lines rest m (finish (run (reading m p) lines) rest)
unfolding run finish
says [] before p r rest m = says_end before p r rest m
says (l ∷ lines) before p r rest m = go (eqb (number before p r l) 0) refl (λ q s. says lines (before ++ (line_frame l ∷ [])) q s rest (suc m))
  where
    go : (b : Bool) → eqb (number before p r l) 0 ≡ b
        → ((q : Progress) → Reached (before ++ (line_frame l ∷ [])) q → Says (before ++ (line_frame l ∷ [])) lines rest (suc m) (finish (run (reading (suc m) q) lines) rest))
        → Says before (l ∷ lines) rest m (finish (run (step (reading m p) l) lines) rest)
    go true e later =
        let z = eqb-true (number before p r l) 0 e in
        rw (step_taken m p l z)
        (says_more before l lines rest m (line_faultless before p r l z) (finish (run (reading (suc m) (grown p (line_frame l))) lines) rest)
        (later (grown p (line_frame l)) (reached_more before p r l z)))
    go false e later =
        let z = eqb-false (number before p r l) 0 e in
        rw (step_refused m p l (number before p r l) refl z, run_refused (number before p r l) (suc m) lines) (
          0,
          omega arith,
          record {
            first = λ k n h. absurd (omega arith);
            fault = line_fault before p r l z;
            least = line_least before p r l;
          },
        )

-- ---- the theorem

text_says : (text : List ℕ) → Says [] (lines_of text) (rest_of text) 0 (parse text)
unfolding parse
text_says text = says (lines_of text) [] nothing reached_nothing (rest_of text) 0

pub accepted_faultless : (text : List ℕ) (t : Table) → parse text ≡ returned (table_read t) → (k n : ℕ) → FaultAt text k n → ⊥
accepted_faultless text t e = rw e at (text_says text)

refused_first : (text : List ℕ) (number line : ℕ) → parse text ≡ refused_by number line → FirstFault text number line
refused_first text number line e =
    let s : Says [] (lines_of text) (rest_of text) 0 (refused_by number line) = rw e at (text_says text) in
    record { place = s.0; counted = omega (arith, s.1); first = s.2.first; fault = s.2.fault; least = s.2.least }

-- A text has one first fault.
module _ (text : List ℕ) (number line other at : ℕ) (f : FirstFault text number line) (g : FirstFault text other at) where
  same_place : f.place ≡ g.place
  same_place =
      elim (dec_lt f.place g.place) [
        | yes h ↦ absurd (g.first f.place number h f.fault)
        | no h ↦ elim (dec_lt g.place f.place) [
          | yes k ↦ absurd (f.first g.place other k g.fault)
          | no k ↦ omega arith
        ]
      ]

  one_fault : (number ≡ other) × (line ≡ at)
  one_fault =
      let e = same_place in
      let a = f.least other (rw e g.fault) in
      let b = g.least number (rw (← e) f.fault) in
      (omega arith, omega (arith, f.counted, g.counted))

pub refused_exactly : (text : List ℕ) (number line : ℕ) → (parse text ≡ refused_by number line) ↔ FirstFault text number line
refused_exactly text number line = (refused_first text number line, go (parse text) refl)
  where
    go : (x : Answer Parsed) → parse text ≡ x → FirstFault text number line → parse text ≡ refused_by number line
    go (returned r) e f = absurd (accepted_faultless text r.table e f.place number f.fault)
    go (refused_by other at) e f =
        let s = one_fault text number line other at f (refused_first text other at e) in
        e ∙ (λ i. refused_by (sym s.0 i) (sym s.1 i))
