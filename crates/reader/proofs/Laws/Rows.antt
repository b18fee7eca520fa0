-- Rows are the last lines of an accepted text:
--   RowFrame, RowFrames, RowLine, RowLines: lines that are rows, good for a table
--   rows_counted, rows_said, rows_digits, rows_kept: how many and what such lines say, that they are pairs of digits, and that their rows keep the rules
--   rows_apart: the frames of a table are those before its rows, and its rows'
--   Accepted, accepted_rows, accepted_row: so are the lines of an accepted text, and which line a row's is
--   accepted_lines: how many lines it has
-- Assumes nothing.
use mathlib.Core.Path.{◌≡◌, refl, ap, sym, ◌∙◌}
use mathlib.Core.Logic.{inl, inr}
use mathlib.Core.Bool.{true}
use mathlib.Core.List.Memᴰ
use mathlib.Core.List.{List, [], ◌∷◌, ◌++◌, map, map-append, append_assoc}
use Prim.Native.Nat.{ℕ, zero, suc, ◌+◌, ◌-◌, ◌<◌}
use native.Mathlib.Omega.{arith}
use lib.ListN.{length, get_or, take, drop, length-append, length-map}
use lib.Seq.{get_or-drop}
use Rattle.base.specs.Answers.{returned}
use Rattle.base.specs.Checks.{refusal}
use Rattle.hexlines.specs.Lines.{is_line, bytes_of}
use Rattle.policy.specs.Model.{Coefficients, Row, Table, with_rows, lines_before, no_row, row_at, parents_of}
use Rattle.policy.specs.Wellformed.{RowRule}
use Rattle.frames.specs.Rows.{row_content}
use Rattle.frames.proofs.Laws.Rows.{row_kept, row_passes}
use Rattle.reader.specs.Lines.{lines_of, rest_of}
use Rattle.reader.specs.Frames.{Frame, a_row, frame_of}
use Rattle.reader.specs.States.{table_read, parse}
use Rattle.reader.specs.Rules.{cap_frames, frames_of}
use Rattle.reader.proofs.Laws.Wellformed.{in_range}
use Rattle.reader.proofs.Laws.Rules.{line_frame, Digits, accepted_exactly}

-- ---- lines that are rows

-- The line l is the row r, good for entities with these parents.
pub record RowFrame (parents : List ℕ) (l : List ℕ) (r : Row) : Type 0 where
  pub line : is_line l ≡ true
  pub frame : frame_of (bytes_of l) ≡ a_row r
  pub content : refusal (row_content parents r) ≡ 0

abbrev pub RowFrames : List ℕ → List (List ℕ) → List Row → Type 0
RowFrames parents [] [] = Unit {0}
RowFrames parents [] (r ∷ rs) = ⊥
RowFrames parents (l ∷ ls) [] = ⊥
RowFrames parents (l ∷ ls) (r ∷ rs) = RowFrame parents l r × RowFrames parents ls rs

-- The same for a table. Of its parts only the entities count, so that a table with other rows has the same row lines.
abbrev pub RowLine : Table → List ℕ → Row → Type 0
RowLine t l r = RowFrame (parents_of t) l r

abbrev pub RowLines : Table → List (List ℕ) → List Row → Type 0
RowLines t ls rs = RowFrames (parents_of t) ls rs

module _ (parents : List ℕ) where
  pub rows_counted : (ls : List (List ℕ)) (rs : List Row) → RowFrames parents ls rs → length ls ≡ length rs
  rows_counted [] [] h = refl
  rows_counted [] (r ∷ rs) h = absurd h
  rows_counted (l ∷ ls) [] h = absurd h
  rows_counted (l ∷ ls) (r ∷ rs) h = ap suc (rows_counted ls rs h.1)

  frames_at : (ls : List (List ℕ)) (rs : List Row) → RowFrames parents ls rs → (k : ℕ) → k < length rs
      → RowFrame parents (get_or ls k []) (get_or rs k no_row)
  frames_at [] [] h k b = absurd (omega arith)
  frames_at [] (r ∷ rs) h k b = absurd h
  frames_at (l ∷ ls) [] h k b = absurd h
  frames_at (l ∷ ls) (r ∷ rs) h zero b = h.0
  frames_at (l ∷ ls) (r ∷ rs) h (suc k) b = frames_at ls rs h.1 k (omega arith)

  pub rows_said : (ls : List (List ℕ)) (rs : List Row) → RowFrames parents ls rs → map line_frame ls ≡ map a_row rs
  rows_said [] [] h = refl
  rows_said [] (r ∷ rs) h = absurd h
  rows_said (l ∷ ls) [] h = absurd h
  rows_said (l ∷ ls) (r ∷ rs) h = cc (h.0.frame, rows_said ls rs h.1)

  pub rows_digits : (ls : List (List ℕ)) (rs : List Row) → RowFrames parents ls rs → Digits ls
  rows_digits [] [] h l m = absurd (Memᴰ.not-nil m)
  rows_digits [] (r ∷ rs) h l m = absurd h
  rows_digits (x ∷ ls) [] h l m = absurd h
  rows_digits (x ∷ ls) (r ∷ rs) h l m =
      elim (Memᴰ.cases_cons m) [ inl e ↦ rw e h.0.line | inr k ↦ rows_digits ls rs h.1 l k ]

pub rows_kept : (t : Table) (ls : List (List ℕ)) (rs : List Row) → RowLines t ls rs → (k : ℕ) → k < length rs → RowRule t (get_or rs k no_row)
rows_kept t ls rs h k b =
    let x = frames_at (parents_of t) ls rs h k b in
    row_kept t (get_or rs k no_row) (rw x.frame at (in_range (get_or ls k []))) x.content

-- ---- the lines before the rows, and the rows' lines

pub rows_apart : (t : Table) (done rs : List Row) → frames_of (with_rows (done ++ rs) t) ≡ frames_of (with_rows done t) ++ map a_row rs
rows_apart t done rs = simp (map-append, append_assoc)

module _ (t : Table) (rules : (k : ℕ) → k < length t.rows → RowRule t (row_at t k)) where
  row_lines : (ls : List (List ℕ)) (rs : List Row) → ((k : ℕ) → k < length rs → RowRule t (get_or rs k no_row)) → Digits ls
      → map line_frame ls ≡ map a_row rs → RowLines t ls rs
  row_lines [] [] r d e = tt
  row_lines [] (x ∷ rs) r d e = let z : ◌≡◌ {A = ℕ} 0 1 = cc in absurd (omega arith)
  row_lines (l ∷ ls) [] r d e = let z : ◌≡◌ {A = ℕ} 0 1 = cc in absurd (omega arith)
  row_lines (l ∷ ls) (x ∷ rs) r d e = (
    record { line = d l (Memᴰ.head refl); frame = cc; content = row_passes t x (r 0 (omega arith)) },
    row_lines ls rs (λ k b. r (suc k) (omega arith)) (λ m k. d m (Memᴰ.tail k)) cc,
  )

  -- Lines whose frames are some others and then the table's rows.
  split : (fs : List Frame) (ls : List (List ℕ)) → Digits ls → map line_frame ls ≡ fs ++ map a_row t.rows
      → (map line_frame (take (length fs) ls) ≡ fs) × Digits (take (length fs) ls) × RowLines t (drop (length fs) ls) t.rows
  split [] ls d e = (refl, λ l m. absurd (Memᴰ.not-nil m), row_lines ls t.rows rules d e)
  split (f ∷ fs) [] d e = let z : ◌≡◌ {A = ℕ} 0 1 = cc in absurd (omega arith)
  split (f ∷ fs) (l ∷ ls) d e =
      let x = split fs ls (λ m k. d m (Memᴰ.tail k)) cc in
      (cc x.0, λ m h. elim (Memᴰ.cases_cons h) [ inl q ↦ rw q (d l (Memᴰ.head refl)) | inr k ↦ x.1 m k ], x.2)

-- ---- accepted texts

pub caps_counted : (n : ℕ) (cs : List Coefficients) → length (cap_frames n cs) ≡ length cs
caps_counted n [] = refl
caps_counted n (c ∷ cs) = ap suc (caps_counted (suc n) cs)

frames_counted : (t : Table) → length (frames_of t) ≡ lines_before 1 t + length t.rows
frames_counted t = simp (length-append, length-map, caps_counted) (omega arith)

-- The text is ended by a line feed; its lines are some that say the table without rows, and then those of its rows.
pub record Accepted (text : List ℕ) (t : Table) : Type 0 where
  pub ended : length (rest_of text) ≡ 0
  pub others : map line_frame (take (length (lines_of text) - length t.rows) (lines_of text)) ≡ frames_of (with_rows [] t)
  pub digits : Digits (take (length (lines_of text) - length t.rows) (lines_of text))
  pub rows : RowLines t (drop (length (lines_of text) - length t.rows) (lines_of text)) t.rows

module _ (text : List ℕ) (t : Table) (e : parse text ≡ returned (table_read t)) where
  -- Each line before the rows is an entity's, a cap's, the floor's or a filter's.
  pub accepted_lines : length (lines_of text) ≡ lines_before 1 t + length t.rows
  accepted_lines =
      sym (length-map (lines_of text) line_frame) ∙ ap length ((accepted_exactly text t).0 e).says.frames ∙ frames_counted t

  pub accepted_rows : Accepted text t
  accepted_rows =
      let k = (accepted_exactly text t).0 e in
      let n : length (frames_of (with_rows [] t)) ≡ length (lines_of text) - length t.rows = omega (arith, frames_counted (with_rows [] t), accepted_lines) in
      let x = rw n at (split t k.well.row (frames_of (with_rows [] t)) (lines_of text) k.says.digits (k.says.frames ∙ rows_apart t [] t.rows)) in
      record { ended = ap length k.says.ended; others = x.0; digits = x.1; rows = x.2 }

  -- The row at k is the line at k among the last lines, as many as there are rows.
  pub accepted_row : (k : ℕ) → k < length t.rows
      → RowLine t (get_or (lines_of text) (length (lines_of text) - length t.rows + k) []) (row_at t k)
  accepted_row k h =
      rw (← get_or-drop (length (lines_of text) - length t.rows) (lines_of text) k [])
      (frames_at (parents_of t) (drop (length (lines_of text) - length t.rows) (lines_of text)) t.rows accepted_rows.rows k h)
