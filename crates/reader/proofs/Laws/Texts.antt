-- Texts and their lines:
--   Every, NotFeed, NoFeed, AllNoFeed: characters, and lines of them, with no line feed
--   lines_written, rest_written: the text of such lines has those lines, and nothing after them
--   text_cut, lines_clean: every text is the text of its lines, which are such lines, and what stands after them
--   lines_no_feed, rest_no_feed: no line feed is in a line of a text, nor in what stands after them
--   line_clean: a line of digits is such a line
--   accepted_text_other_rows, accepted_text_more_rows: other rows in place of an accepted text's own, and rows after it
--   accepted_text_extended: whatever is accepted of an accepted text and a run of row lines is its table with those rows
-- Assumes nothing.
use mathlib.Core.Path.{◌≡◌, refl, ap, sym, subst, ◌∙◌}
use mathlib.Core.Logic.{inl, inr}
use mathlib.Core.Bool.{true, false≢true, and-eq-true_iff}
use mathlib.Core.List.Memᴰ
use mathlib.Core.List.{List, [], ◌∷◌, ◌++◌, map, map-append, append-nil, append_assoc, Memᴰ}
use Prim.Native.Nat.{ℕ, ◌+◌, ◌-◌, ◌<◌, ◌≤◌}
use native.Mathlib.Decide.{ℕ_discrete}
use native.Mathlib.Omega.{arith}
use borrow.Author.Tests.{ne_eqb}
use lib.ListN.{length, get_or, take, length-append}
use lib.Seq.{append_snoc}
use Rattle.base.specs.Answers.{returned}
use Rattle.hexlines.specs.Digits.{is_digit}
use Rattle.hexlines.specs.Lines.{all_digits, is_line}
use Rattle.hexlines.proofs.Laws.Lines.{line_digits, feed_no_digit}
use Rattle.policy.specs.Limits.{most_rows}
use Rattle.policy.specs.Model.{Row, Table, with_rows, extended, no_row, parents_of}
use Rattle.policy.specs.Wellformed.{RowRule, Wellformed}
use Rattle.policy.proofs.Laws.Changed.{wellformed_rows}
use Rattle.base.proofs.Laws.Each.{each_append}
use Rattle.reader.specs.Lines.{line_feed, lines_from, rest_from, lines_of, rest_of, text_of}
use Rattle.reader.specs.States.{table_read, parse}
use Rattle.reader.specs.Frames.{Frame, a_row}
use Rattle.reader.specs.Rules.{HasFrames, RowRun, frames_of}
use Rattle.reader.proofs.Laws.Wellformed.{accepted_wellformed}
use Rattle.reader.proofs.Laws.Leads.{one_table}
use Rattle.reader.proofs.Laws.Rules.{line_frame, Digits, accepted_exactly}
use Rattle.reader.proofs.Laws.Rows.{RowLines, rows_counted, rows_said, rows_digits, rows_kept, rows_apart, accepted_rows}

-- ---- no line feed

module _ {A : Type 0} (P : A → Type 0) where
  -- P holds of every element.
  abbrev pub Every : List A → Type 0
  Every [] = Unit {0}
  Every (a ∷ l) = P a × Every l

  every_append : (a b : List A) → Every a → Every b → Every (a ++ b)
  every_append [] b h k = k
  every_append (x ∷ a) b h k = (h.0, every_append a b h.1 k)

  every_in : (l : List A) → Every l → (x : A) → Memᴰ x l → P x
  every_in [] h x m = absurd (Memᴰ.not-nil m)
  every_in (a ∷ l) h x m = elim (Memᴰ.cases_cons m) [ inl e ↦ rw e h.0 | inr k ↦ every_in l h.1 x k ]

abbrev pub NotFeed : ℕ → Type 0
NotFeed c = c ≡ line_feed → ⊥

-- No character is a line feed.
abbrev pub NoFeed : List ℕ → Type 0
NoFeed l = Every NotFeed l

-- No line has a line feed.
abbrev pub AllNoFeed : List (List ℕ) → Type 0
AllNoFeed ls = Every NoFeed ls

-- ---- the lines of a text that is written

-- The rest of a begun line, and its line feed, end that line. What follows is read as a text of its own.
line_written : (begun l text : List ℕ) → NoFeed l
    → (lines_from begun (l ++ (line_feed ∷ text)) ≡ (begun ++ l) ∷ lines_of text) × (rest_from begun (l ++ (line_feed ∷ text)) ≡ rest_of text)
unfolding lines_from rest_from
line_written begun [] text h = rw append-nil (refl, refl)
line_written begun (c ∷ l) text h =
    rw (ne_eqb c line_feed h.0, lines_from, rest_from, ← append_snoc begun c l) (line_written (begun ++ (c ∷ [])) l text h.1)

-- The text of some lines has those lines.
pub lines_written : (ls : List (List ℕ)) → AllNoFeed ls → lines_of (text_of ls) ≡ ls
unfolding lines_from
lines_written [] h = refl
lines_written (l ∷ ls) h = (line_written [] l (text_of ls) h.0).0 ∙ ap (λ a. l ∷ a) (lines_written ls h.1)

-- Nothing stands after its last line feed.
pub rest_written : (ls : List (List ℕ)) → AllNoFeed ls → rest_of (text_of ls) ≡ []
unfolding rest_from
rest_written [] h = refl
rest_written (l ∷ ls) h = (line_written [] l (text_of ls) h.0).1 ∙ rest_written ls h.1

text_append : (a b : List (List ℕ)) → text_of (a ++ b) ≡ text_of a ++ text_of b
text_append [] b = refl
text_append (l ∷ a) b = rw (text_append a b, append_assoc l (line_feed ∷ text_of a) (text_of b))

-- ---- the lines of any text

-- What holds at the end of a text, and is kept by a line feed and by every other character, holds of every begun line and text.
module _ (P : List ℕ → List ℕ → Type 0) (at_end : (line : List ℕ) → P line [])
    (at-feed : (line text : List ℕ) → P [] text → P line (line_feed ∷ text))
    (at_other : (line : List ℕ) (c : ℕ) (text : List ℕ) → NotFeed c → P (line ++ (c ∷ [])) text → P line (c ∷ text)) where
  by_characters : (line text : List ℕ) → P line text
  by_characters line [] = at_end line
  by_characters line (c ∷ text) =
      elim (ℕ_discrete c line_feed) [
        | yes e ↦ rw e (at-feed line text (by_characters [] text))
        | no n ↦ at_other line c text n (by_characters (line ++ (c ∷ [])) text)
      ]

-- A text is the text of its lines, and then what stands after its last line feed.
pub text_cut : (text : List ℕ) → text_of (lines_of text) ++ rest_of text ≡ text
unfolding lines_from rest_from
text_cut =
    by_characters (λ line text. text_of (lines_from line text) ++ rest_from line text ≡ line ++ text)
    (λ line. sym (append-nil line))
    (λ line text e. append_assoc line (line_feed ∷ text_of (lines_of text)) (rest_of text) ∙ ap (λ a. line ++ (line_feed ∷ a)) e)
    (λ line c text n e. rw (ne_eqb c line_feed n, lines_from, rest_from) (e ∙ append_snoc line c text))
    []

-- The lines of a text have no line feed.
pub lines_clean : (text : List ℕ) → AllNoFeed (lines_of text)
unfolding lines_from
lines_clean text =
    by_characters (λ line text. NoFeed line → AllNoFeed (lines_from line text))
    (λ line h. tt)
    (λ line text f h. (h, f tt))
    (λ line c text n f h. rw (ne_eqb c line_feed n, lines_from) (f (every_append NotFeed line (c ∷ []) h (n, tt))))
    [] text tt

pub lines_no_feed : (text l : List ℕ) → Memᴰ l (lines_of text) → Memᴰ line_feed l → ⊥
lines_no_feed text l m k = every_in NotFeed l (every_in NoFeed (lines_of text) (lines_clean text) l m) line_feed k refl

-- Nor has what stands after them.
rest_clean : (text : List ℕ) → NoFeed (rest_of text)
unfolding rest_from
rest_clean text =
    by_characters (λ line text. NoFeed line → NoFeed (rest_from line text))
    (λ line h. h)
    (λ line text f h. f tt)
    (λ line c text n f h. rw (ne_eqb c line_feed n, rest_from) (f (every_append NotFeed line (c ∷ []) h (n, tt))))
    [] text tt

pub rest_no_feed : (text : List ℕ) → Memᴰ line_feed (rest_of text) → ⊥
rest_no_feed text k = every_in NotFeed (rest_of text) (rest_clean text) line_feed k refl

-- ---- lines of digits

-- Digits are no line feeds.
digits_clean : (l : List ℕ) → all_digits l ≡ true → NoFeed l
digits_clean [] h = tt
digits_clean (c ∷ l) h =
    let b = (and-eq-true_iff (is_digit c) (all_digits l)).0 h in
    ((λ e. false≢true (sym feed_no_digit ∙ rw e at b.0)), digits_clean l b.1)

pub line_clean : (l : List ℕ) → is_line l ≡ true → NoFeed l
line_clean l h = digits_clean l (line_digits l h)

lines_clean_digits : (ls : List (List ℕ)) → Digits ls → AllNoFeed ls
lines_clean_digits [] d = tt
lines_clean_digits (l ∷ ls) d = (line_clean l (d l (Memᴰ.head refl)), lines_clean_digits ls (λ m k. d m (Memᴰ.tail k)))

-- ---- the frames of a text

-- The text of lines of digits has their frames.
frames_written : (ls : List (List ℕ)) → Digits ls → HasFrames (text_of ls) (map line_frame ls)
frames_written ls d =
    let clean = lines_clean_digits ls d in
    let lines = lines_written ls clean in
    record { ended = rest_written ls clean; digits = rw lines d; frames = ap (map line_frame) lines }

-- The frames of a text that follows another follow those of the other.
frames_append : (a b : List ℕ) (fs gs : List Frame) → HasFrames a fs → HasFrames b gs → HasFrames (a ++ b) (fs ++ gs)
frames_append a b fs gs h k =
    subst (λ text. HasFrames text (fs ++ gs)) (text_append (lines_of a) (lines_of b) ∙ (λ i. whole a h i ++ whole b k i))
    (subst (HasFrames (text_of (lines_of a ++ lines_of b))) (map-append line_frame (lines_of a) (lines_of b) ∙ cc (h.frames, k.frames))
    (frames_written (lines_of a ++ lines_of b) digits))
  where
    whole : (text : List ℕ) {fs : List Frame} → HasFrames text fs → text_of (lines_of text) ≡ text
    whole text h = rw (h.ended, append-nil) at (text_cut text)

    digits : Digits (lines_of a ++ lines_of b)
    digits l m = elim (Memᴰ.append_cases (lines_of a) m) [ inl x ↦ h.digits l x | inr x ↦ k.digits l x ]

-- ---- accepted texts

-- A text that says the table with some rows, and row lines after it, at most 64 in all: together they are the table with all those rows.
module _ (t : Table) (w : Wellformed t) (done : List Row) (kept : (k : ℕ) → k < length done → RowRule t (get_or done k no_row))
    (text : List ℕ) (f : HasFrames text (frames_of (with_rows done t)))
    (ls : List (List ℕ)) (rs : List Row) (b : length done + length ls ≤ most_rows) (h : RowLines t ls rs) where
  parse_rows : parse (text ++ text_of ls) ≡ returned (table_read (with_rows (done ++ rs) t))
  parse_rows =
      let run : RowRun (text_of ls) rs = subst (HasFrames (text_of ls)) (rows_said (parents_of t) ls rs h) (frames_written ls (rows_digits (parents_of t) ls rs h)) in
      let long = rows_counted (parents_of t) ls rs h in
      let few : length (done ++ rs) ≤ most_rows = rw length-append (omega arith) in
      (accepted_exactly (text ++ text_of ls) (with_rows (done ++ rs) t)).1
      (record {
        says = subst (HasFrames (text ++ text_of ls)) (sym (rows_apart t done rs)) (frames_append text (text_of ls) _ _ f run);
        well = wellformed_rows w (done ++ rs) few (each_append (RowRule t) done rs no_row kept (rows_kept t ls rs h));
      })

module _ (text : List ℕ) (t : Table) (e : parse text ≡ returned (table_read t)) where
  module _ (ls : List (List ℕ)) (rs : List Row) where
    -- An accepted text, with other row lines in place of its own, gives the same table with those rows.
    pub accepted_text_other_rows : length ls ≤ most_rows → RowLines t ls rs
        → parse (text_of (take (length (lines_of text) - length t.rows) (lines_of text) ++ ls)) ≡ returned (table_read (with_rows rs t))
    accepted_text_other_rows b h =
        let a = accepted_rows text t e in
        let others = take (length (lines_of text) - length t.rows) (lines_of text) in
        ap parse (text_append others ls)
        ∙ parse_rows t (accepted_wellformed text t e) [] (λ k l. absurd (omega arith)) (text_of others)
        (subst (HasFrames (text_of others)) a.others (frames_written others a.digits)) ls rs (omega arith) h

    -- Row lines that follow an accepted text give the rows more.
    pub accepted_text_more_rows : length t.rows + length ls ≤ most_rows → RowLines t ls rs
        → parse (text ++ text_of ls) ≡ returned (table_read (extended rs t))
    accepted_text_more_rows b h =
        let k = (accepted_exactly text t).0 e in
        parse_rows t k.well t.rows k.well.row text k.says ls rs b h

  -- What an accepted text and a run of row lines after it give, where they are accepted, is the text's table with those rows more.
  pub accepted_text_extended : (more : List ℕ) (added : List Row) (u : Table) → RowRun more added → parse (text ++ more) ≡ returned (table_read u) → u ≡ extended added t
  accepted_text_extended more added u r f =
      let both = frames_append text more (frames_of t) (map a_row added) ((accepted_exactly text t).0 e).says r in
      one_table u (extended added t)
      (sym ((accepted_exactly (text ++ more) u).0 f).says.frames ∙ both.frames ∙ sym (rows_apart t t.rows added))
