-- The line that is written of a row:
--   row_written, row_capitals, row_size: of a row that keeps the table's rules it says the row, in capitals, and how long it is
--   row_own: it is the row's own line, where that is in capitals
-- Assumes nothing.
use mathlib.Core.Path.{◌≡◌, refl, sym, ap, ◌∙◌}
use mathlib.Core.Bool.{true}
use mathlib.Core.List.{List, ◌∷◌}
use Prim.Native.Nat.{ℕ, zero, suc, ◌+◌, ◌*◌, ◌<◌}
use native.Mathlib.Omega.{arith}
use lib.ListN.{length, get_or, drop}
use Rattle.hexlines.specs.Lines.{is_line, bytes_of, line_of}
use Rattle.hexlines.specs.Letters.{InCapitals}
use Rattle.hexlines.proofs.Laws.Digits.{length_line_of, bytes_of_line_of, is_line_line_of, line_of_capitals, line_of_bytes_of}
use Rattle.hexlines.proofs.Laws.Lines.{bytes_of_below, line_even, bytes_of_line}
use Rattle.policy.specs.Model.{Row, Table}
use Rattle.policy.specs.Wellformed.{RowRule, Wellformed}
use Rattle.policy.proofs.Laws.Words.{five_ranges}
use Rattle.frames.specs.Parts.{box_widths}
use Rattle.frames.specs.Kinds.{of_row, describe}
use Rattle.frames.specs.Rows.{bytes_of_row, line_of_row}
use Rattle.frames.proofs.Laws.Rows.{row_passes}
use Rattle.frames.proofs.Laws.Writing.{length_bytes_of_row, bytes_of_row_says, says_bytes_of_row, bytes_of_row_below}
use Rattle.reader.specs.Frames.{a_row, frame_of}
use Rattle.reader.proofs.Laws.Forms.{frame_said}
use Rattle.reader.proofs.Laws.Rows.{RowLine}

abbrev kind : ℕ
kind = (describe of_row).byte

module _ (t : Table) (w : Wellformed t) (r : Row) (h : RowRule t r) where
  bytes : (i : ℕ) → get_or (kind ∷ bytes_of_row box_widths r) i 0 < 256
  bytes zero = omega arith
  bytes (suc i) = bytes_of_row_below t r w.counts.few_entities h i

  pub row_written : RowLine t (line_of_row kind box_widths r) r
  row_written =
      record {
        line = is_line_line_of (kind ∷ bytes_of_row box_widths r) (omega arith) bytes;
        frame =
            ap frame_of (bytes_of_line_of (kind ∷ bytes_of_row box_widths r) bytes)
            ∙ (frame_said (kind ∷ bytes_of_row box_widths r) (a_row r)).1 (refl, bytes_of_row_says t r h);
        content = row_passes t r h;
      }

  pub row_capitals : InCapitals (line_of_row kind box_widths r)
  row_capitals = line_of_capitals (kind ∷ bytes_of_row box_widths r) bytes

  -- "35 + n bytes", two characters each
  pub row_size : length (line_of_row kind box_widths r) ≡ 2 * (35 + length r.gateways)
  row_size =
      length_line_of (kind ∷ bytes_of_row box_widths r)
      ∙ omega (arith, length_bytes_of_row box_widths r h.coefficients.three (five_ranges h.selector))

pub row_own : (l : List ℕ) (r : Row) → is_line l ≡ true → frame_of (bytes_of l) ≡ a_row r → InCapitals l → line_of_row kind box_widths r ≡ l
row_own l r h e c =
    let says = (frame_said (get_or (bytes_of l) 0 0 ∷ bytes_of (drop 2 l)) (a_row r)).0 (ap frame_of (sym (bytes_of_line l h)) ∙ e) in
    let rest = says_bytes_of_row box_widths (bytes_of (drop 2 l)) r (bytes_of_below (drop 2 l)) says.1 in
    ap line_of (sym (bytes_of_line l h ∙ (λ i. says.0 i ∷ rest i))) ∙ line_of_bytes_of l (line_even l h) c
