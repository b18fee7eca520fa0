-- Laws of the lines of entries: those of bytes that are entries', how long they are, and one line more, as a loop goes through the bytes.
-- Assumes nothing.
use Prim.Native.Nat.{ℕ, ◌+◌, ◌-◌, ◌*◌, ◌/◌, ◌≤◌, ◌<◌}
use mathlib.Core.Path.{◌≡◌, refl, ap, ◌∙◌}
use mathlib.Core.List.{List, [], ◌∷◌, ◌++◌}
use native.Mathlib.Omega.{arith}
use lib.ListN.{length, take, drop, length-drop}
use lib.Seq.{drop-drop}
use Rattle.hexlines.specs.Lines.{line_of}
use Rattle.reader.specs.Lines.{line_feed}
use Rattle.kinds.specs.Entries.{Entry}
use Rattle.listing.specs.Bytes.{bytes, entry_bytes}
use Rattle.listing.proofs.Laws.Puts.{bytes_none, bytes_more}
use Rattle.printing.specs.Limits.{line_bytes}
use Rattle.printing.specs.Printed.{entry_line, entry_lines, hex_lines}

pub lines_bytes : (es : List Entry) → hex_lines (bytes es) ≡ entry_lines es
unfolding hex_lines entry_lines
lines_bytes [] = ap hex_lines bytes_none
lines_bytes (e ∷ es) = ap hex_lines (bytes_more e es) ∙ ap (λ (l : List ℕ). entry_line e.first e.kind e.second ++ l) (lines_bytes es)

-- ---- how long they are

pub length_lines : (es : List Entry) → length (entry_lines es) ≡ line_bytes * length es
unfolding entry_lines
length_lines [] = refl
length_lines (e ∷ es) = let h = length_lines es in omega arith

pub length_hex : (l : List ℕ) → length (hex_lines l) ≡ line_bytes * (length l / entry_bytes)
unfolding hex_lines
length_hex [] = refl
length_hex (a ∷ []) = refl
length_hex (a ∷ b ∷ []) = refl
length_hex (a ∷ b ∷ c ∷ l) = let h = length_hex l in omega arith

-- ---- one line more

-- The line of the first three bytes, and the other lines.
first_line : (m : List ℕ) → entry_bytes ≤ length m → hex_lines m ≡ line_of (take entry_bytes m) ++ (line_feed ∷ hex_lines (drop entry_bytes m))
unfolding hex_lines
first_line [] h = absurd (omega arith)
first_line (a ∷ []) h = absurd (omega arith)
first_line (a ∷ b ∷ []) h = absurd (omega arith)
first_line (a ∷ b ∷ c ∷ m) h = refl

module _ (l : List ℕ) (i : ℕ) where
  -- The bytes of entry i, as a part: from its first byte up to the next entry's.
  abbrev pub entry_at : List ℕ
  entry_at = take (entry_bytes * i + entry_bytes - entry_bytes * i) (drop (entry_bytes * i) l)

  pub line_next : i < length l / entry_bytes → hex_lines (drop (entry_bytes * i) l) ≡ line_of entry_at ++ (line_feed ∷ hex_lines (drop (entry_bytes * (i + 1)) l))
  line_next h =
      let j = entry_bytes * i in
      let part : j + entry_bytes - j ≡ entry_bytes = omega arith in
      let next : entry_bytes * (i + 1) ≡ j + entry_bytes = omega arith in
      rw (part, next, ← drop-drop entry_bytes j l) (first_line (drop j l) (omega (arith, length-drop j l)))

  pub line_end : length l / entry_bytes ≤ i → hex_lines (drop (entry_bytes * i) l) ≡ []
  unfolding hex_lines
  line_end h = none (drop (entry_bytes * i) l) (omega (arith, length-drop (entry_bytes * i) l))
    where
      none : (m : List ℕ) → length m < entry_bytes → hex_lines m ≡ []
      none [] b = refl
      none (a ∷ []) b = refl
      none (a ∷ b ∷ []) h = refl
      none (a ∷ b ∷ c ∷ m) h = absurd (omega arith)
