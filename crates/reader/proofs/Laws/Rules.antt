-- Demand 1, "Every text that keeps the table rules of document 01 is accepted", and no other:
--   accepted_exactly: the reader accepts a text as a table exactly when the text keeps the rules and says the table
--   refused_otherwise: a text that says no table is refused
-- Assumes nothing.
use mathlib.Core.Path.{◌≡◌, refl, ap, sym, ◌∙◌}
use mathlib.Core.Logic.{◌↔◌, inl, inr}
use mathlib.Core.Bool.{true}
use mathlib.Core.List.Memᴰ
use mathlib.Core.List.{List, [], ◌∷◌, ◌++◌, map, append-nil, Memᴰ}
use Prim.Native.Nat.{ℕ, suc}
use native.Mathlib.Omega.{arith}
use borrow.Author.Tests.{eqb-true}
use lib.Dec.{eqb}
use lib.ListN.{length}
use lib.Seq.{append_snoc}
use Rattle.hexlines.specs.Lines.{is_line, bytes_of}
use Rattle.policy.specs.Model.{Table}
use Rattle.base.specs.Checks.{refusal}
use Rattle.base.proofs.Laws.Lists.{length_none}
use Rattle.reader.specs.Lines.{lines_of, rest_of}
use Rattle.reader.specs.Frames.{Frame, a_frame, no_frame, frame_of}
use Rattle.base.specs.Answers.{Answer, returned, refused_by}
use Rattle.frames.specs.Progress.{Progress, nothing, all_read}
use Rattle.frames.proofs.Laws.Growing.{Sequenced, Growing, growing_nothing}
use Rattle.reader.specs.States.{Parsed, table_read, State, reading, refused, checks, grown, take_frame, step, run, finish, parse}
use Rattle.reader.specs.Rules.{frames_so_far, KeepsRules}
use Rattle.reader.proofs.Laws.States.{run_refused}
use Rattle.reader.proofs.Laws.Runs.{pick_either}
use Rattle.reader.proofs.Laws.Wellformed.{kept, never_none, growing_frame, in_range, accepted_wellformed}
use Rattle.reader.proofs.Laws.Sequence.{so_far_more}
use Rattle.reader.proofs.Laws.Leads.{Leads, Taken, rules_lead}

-- The frame of a line.
abbrev pub line_frame : List ℕ → Frame
line_frame l = frame_of (bytes_of l)

abbrev pub Digits : List (List ℕ) → Type 0
Digits ls = (l : List ℕ) → Memᴰ l ls → is_line l ≡ true

-- ---- an accepted text keeps the rules

-- The lines are pairs of digits, and their frames take what is read so far from p to q.
record Told (p : Progress) (ls : List (List ℕ)) (q : Progress) : Type 0 where
  digits : Digits ls
  frames : frames_so_far p ++ map line_frame ls ≡ frames_so_far q

-- A refusal leads nowhere.
stays_refused : (k n m : ℕ) (q : Progress) (ls : List (List ℕ)) → run (refused k n) ls ≡ reading m q → ⊥
stays_refused k n m q ls e =
    let clash : refused k n ≡ reading m q = sym (run_refused k n ls) ∙ e in
    let z : ◌≡◌ {A = ℕ} 0 1 = cc in
    omega arith

-- One frame more that is not refused.
pub so_far_taken : (p : Progress) (f : Frame) → Sequenced p → refusal (checks p f) ≡ 0 → frames_so_far (grown p f) ≡ frames_so_far p ++ (f ∷ [])
unfolding grown
so_far_taken p (a_frame k v) q z = so_far_more p k v q (kept p k v z).0
so_far_taken p no_frame q z = absurd (never_none p z)

-- One line more, before the others.
told_more : (p : Progress) (l : List ℕ) (ls : List (List ℕ)) (q : Progress) → is_line l ≡ true → Growing p
    → refusal (checks p (line_frame l)) ≡ 0 → Told (grown p (line_frame l)) ls q → Told p (l ∷ ls) q
told_more p l ls q i g z told =
    record {
      digits = λ m h. elim (Memᴰ.cases_cons h) [ inl e ↦ rw e i | inr k ↦ told.digits m k ];
      frames = sym (append_snoc (frames_so_far p) (line_frame l) (map line_frame ls))
          ∙ ap (λ fs. fs ++ map line_frame ls) (sym (so_far_taken p (line_frame l) g.sequenced z)) ∙ told.frames;
    }

run_told : (ls : List (List ℕ)) (n m : ℕ) (p q : Progress) → Growing p → run (reading n p) ls ≡ reading m q → Told p ls q
unfolding run step take_frame
run_told [] n m p q g e =
    let same : p ≡ q = cc in
    record { digits = λ l h. absurd (Memᴰ.not-nil h); frames = append-nil (frames_so_far p) ∙ ap frames_so_far same }
run_told (l ∷ ls) n m p q g e =
    pick_either (λ s. run s ls ≡ reading m q → Told p (l ∷ ls) q) (is_line l) _ _
    (λ i. pick_either (λ s. run s ls ≡ reading m q → Told p (l ∷ ls) q) (eqb (refusal (checks p (line_frame l))) 0) _ _
    (λ z x.
    let kept = eqb-true (refusal (checks p (line_frame l))) 0 z in
    told_more p l ls q i g kept (run_told ls (suc n) m (grown p (line_frame l)) q (growing_frame p (line_frame l) (in_range l) g kept) x))
    (λ z x. absurd (stays_refused _ _ m q ls x)))
    (λ i x. absurd (stays_refused _ _ m q ls x))
    e

-- What a state and the text's end are, by what the text is.
abbrev Ending : State → List ℕ → Answer Parsed → Type 0
Ending s rest (returned r) = (length rest ≡ 0) × (n : ℕ) × (s ≡ reading n (all_read r.table))
Ending s rest (refused_by k n) = Unit {0}

ending : (s : State) (rest : List ℕ) → Ending s rest (finish s rest)
unfolding finish
ending (reading n p) rest =
    pick_either (Ending (reading n p) rest) (eqb (length rest) 0) _ _
    (λ e. pick_either (Ending (reading n p) rest) (eqb p.floored 1) _ _
    (λ f. (eqb-true _ _ e, n, ap (λ x. reading n (record { table = p.table; floored = x })) (eqb-true _ _ f)))
    (λ f. tt))
    (λ e. tt)
ending (refused k n) rest = tt

accepted_keeps : (text : List ℕ) (t : Table) → parse text ≡ returned (table_read t) → KeepsRules text t
unfolding parse
accepted_keeps text t e =
    let s = run (reading 0 nothing) (lines_of text) in
    let x : Ending s (rest_of text) (returned (table_read t)) = rw e at (ending s (rest_of text)) in
    let told = run_told (lines_of text) 0 _ nothing (all_read t) growing_nothing x.2 in
    record {
      says = record { ended = length_none (rest_of text) x.0; digits = told.digits; frames = told.frames };
      well = accepted_wellformed text t e;
    }

-- ---- a text that keeps the rules is accepted

-- Lines of digits whose frames lead from p to q are read so.
run_leads : (ls : List (List ℕ)) (n : ℕ) (p q : Progress) → Digits ls → Leads Taken p (map line_frame ls) q
    → (m : ℕ) × (run (reading n p) ls ≡ reading m q)
unfolding run step take_frame
run_leads [] n p q d h = (n, ap (reading n) h)
run_leads (l ∷ ls) n p q d h =
    rw (d l (Memᴰ.head refl), h.0) (run_leads ls (suc n) (grown p (line_frame l)) q (λ m k. d m (Memᴰ.tail k)) h.1)

keeps_accepted : (text : List ℕ) (t : Table) → KeepsRules text t → parse text ≡ returned (table_read t)
unfolding parse finish
keeps_accepted text t k =
    let h : Leads Taken nothing (map line_frame (lines_of text)) (all_read t) = rw k.says.frames (rules_lead t k.well) in
    rw ((run_leads (lines_of text) 0 nothing (all_read t) k.says.digits h).1, k.says.ended)

-- ---- the theorem

pub accepted_exactly : (text : List ℕ) (t : Table) → (parse text ≡ returned (table_read t)) ↔ KeepsRules text t
accepted_exactly text t = (accepted_keeps text t, keeps_accepted text t)

pub refused_otherwise : (text : List ℕ) → ((t : Table) → KeepsRules text t → ⊥)
    → (number : ℕ) × (line : ℕ) × (parse text ≡ refused_by number line)
refused_otherwise text none = go (parse text) refl
  where
    go : (x : Answer Parsed) → parse text ≡ x → (number : ℕ) × (line : ℕ) × (parse text ≡ refused_by number line)
    go (returned r) e = absurd (none r.table (accepted_keeps text r.table e))
    go (refused_by number line) e = (number, line, e)
