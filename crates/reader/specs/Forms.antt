-- Document 01, "The table text", and document 02, [7], on filters: the form of a frame, and what the bytes of a line say. That `frame_of` reads just this is a law.
-- Assumes nothing.
use Rattle.std.specs.Prelude.{ℕ, ◌+◌, ◌≤◌, ◌≡◌, List, [], ◌∷◌, length, get_or}
use Rattle.frames.specs.Kinds.{describe}
use Rattle.reader.specs.Frames.{Frame, a_frame, no_frame}

-- The bytes have the kind and the length of a frame.
pub data HasForm (bs : List ℕ) : Type 0 where
  -- "01 entity, 4 bytes"
  entity_form : get_or bs 0 0 ≡ 1 → length bs ≡ 4 → HasForm bs
  -- "02 cap, 5 bytes"
  cap_form : get_or bs 0 0 ≡ 2 → length bs ≡ 5 → HasForm bs
  -- "03 floor, 4 bytes"
  floor_form : get_or bs 0 0 ≡ 3 → length bs ≡ 4 → HasForm bs
  -- "04 filter, 28 bytes"
  filter_form : get_or bs 0 0 ≡ 4 → length bs ≡ 28 → HasForm bs
  -- "A filter frame may have a 29th byte", and "an action above 1 is refused as 2"
  action_form : get_or bs 0 0 ≡ 4 → length bs ≡ 29 → get_or bs 28 0 ≤ 1 → HasForm bs
  -- "05 row, 35 + n bytes", "n (0 to 8)"
  row_form : (n : ℕ) → get_or bs 0 0 ≡ 5 → get_or bs 34 0 ≡ n → n ≤ 8 → length bs ≡ 35 + n → HasForm bs

-- The bytes say the frame: "The first byte is the frame's kind", and the others say what it says. Bytes without the form of a frame say none.
abbrev pub SaysFrame : List ℕ → Frame → Type 0
SaysFrame [] (a_frame k v) = ⊥
SaysFrame (b ∷ bs) (a_frame k v) = (b ≡ (describe k).byte) × (describe k).says bs v
SaysFrame [] no_frame = HasForm [] → ⊥
SaysFrame (b ∷ bs) no_frame = HasForm (b ∷ bs) → ⊥
