-- The bytes that are written of a box and of a row:
--   length_bytes_of_range, length_bytes_of_box, length_bytes_of_row: how many
--   bytes_of_box_below, bytes_of_row_below: that they are bytes
--   bytes_of_box_says, says_bytes_of_box, bytes_of_row_says, says_bytes_of_row: they say the box and the row, and no others do
-- Assumes nothing.
use Prim.Native.Nat.{ℕ, zero, suc, ◌+◌, ◌*◌, ◌<◌, ◌≤◌}
use mathlib.Core.Path.{◌≡◌, refl, sym, ap, ◌∙◌}
use mathlib.Core.List.{List, [], ◌∷◌, ◌++◌, append_assoc}
use native.Mathlib.Omega.{arith}
use lib.Dec.{lit<}
use lib.ListN.{length, get_or, length-append}
use Rattle.hexlines.specs.Numbers.{number_bytes}
use Rattle.hexlines.proofs.Laws.Numbers.{bytes_append, bytes_first, bytes_rest, length_number_bytes, number_bytes_below, number_of_number_bytes, number_bytes_number_of}
use Rattle.policy.specs.Limits.{most_entities, coefficient_count}
use Rattle.policy.specs.Model.{Range, Selector, Row, Table}
use Rattle.policy.specs.Wellformed.{Below, Ordered, Fits, RowRule}
use Rattle.frames.specs.Parts.{SaysNumber, SaysBox, bytes_of_range, bytes_of_box, box_bytes, box_widths}
use Rattle.frames.specs.Rows.{count_place, SaysRow, bytes_of_row}

-- ---- a box

pub length_bytes_of_range : (w : ℕ) (r : Range) → length (bytes_of_range w r) ≡ 2 * w
length_bytes_of_range w r = simp (length-append, length_number_bytes) (omega arith)

pub length_bytes_of_box : (ws : List ℕ) (s : Selector) → length s ≡ length ws → length (bytes_of_box ws s) ≡ box_bytes ws
length_bytes_of_box [] s h = refl
length_bytes_of_box (w ∷ ws) [] h = absurd (omega arith)
length_bytes_of_box (w ∷ ws) (r ∷ s) h =
    length-append (bytes_of_range w r) (bytes_of_box ws s) ∙ omega (arith, length_bytes_of_range w r, length_bytes_of_box ws s (omega arith))

-- They say the box, where no bound is too large for its width.
pub bytes_of_box_says : (ws : List ℕ) (s : Selector) → Ordered s → Fits ws s → SaysBox ws (bytes_of_box ws s) s
bytes_of_box_says [] [] o f = refl
bytes_of_box_says [] (r ∷ s) o f = absurd f
bytes_of_box_says (w ∷ ws) [] o f = absurd f
bytes_of_box_says (w ∷ ws) (r ∷ s) o f =
    let a = o.0 in
    let b = f.0 in (
      number_bytes w r.low,
      number_bytes w r.high,
      bytes_of_box ws s,
      append_assoc (number_bytes w r.low) (number_bytes w r.high) (bytes_of_box ws s),
      (length_number_bytes w r.low, number_of_number_bytes w r.low (omega arith)),
      (length_number_bytes w r.high, number_of_number_bytes w r.high b),
      bytes_of_box_says ws s o.1 f.1,
    )

-- Bytes that say a number are its bytes.
says_number_bytes : (w n : ℕ) (bs : List ℕ) → ((i : ℕ) → get_or bs i 0 < 256) → SaysNumber w bs n → bs ≡ number_bytes w n
says_number_bytes w n bs b h = sym (number_bytes_number_of bs b) ∙ (λ i. number_bytes (h.0 i) (h.1 i))

-- Bytes that say a box are its bytes.
pub says_bytes_of_box : (ws box : List ℕ) (s : Selector) → ((i : ℕ) → get_or box i 0 < 256) → SaysBox ws box s → box ≡ bytes_of_box ws s
says_bytes_of_box [] box [] b h = h
says_bytes_of_box [] box (r ∷ s) b h = absurd h
says_bytes_of_box (w ∷ ws) box [] b h = absurd h
says_bytes_of_box (w ∷ ws) box (r ∷ s) b h =
    let low = h.0 in
    let high = h.1 in
    let rest = h.2 in
    let all = rw h.3 at b in
    let after = bytes_rest low (high ++ rest) all in
    let x = says_number_bytes w r.low low (bytes_first low (high ++ rest) all) h.4 in
    let y = says_number_bytes w r.high high (bytes_first high rest after) h.5 in
    let z = says_bytes_of_box ws rest s (bytes_rest high rest after) h.6 in
    h.3 ∙ (λ i. x i ++ (y i ++ z i)) ∙ sym (append_assoc (number_bytes w r.low) (number_bytes w r.high) (bytes_of_box ws s))

pub bytes_of_box_below : (ws : List ℕ) (s : Selector) (i : ℕ) → get_or (bytes_of_box ws s) i 0 < 256
bytes_of_box_below [] s i = lit< tt
bytes_of_box_below (w ∷ ws) [] i = lit< tt
bytes_of_box_below (w ∷ ws) (r ∷ s) i =
    bytes_append (bytes_of_range w r) (bytes_of_box ws s)
    (bytes_append (number_bytes w r.low) (number_bytes w r.high) (number_bytes_below w r.low) (number_bytes_below w r.high))
    (bytes_of_box_below ws s) i

-- ---- a row

pub length_bytes_of_row : (ws : List ℕ) (r : Row) → length r.coefficients ≡ coefficient_count → length r.selector ≡ length ws
    → length (bytes_of_row ws r) ≡ count_place ws + 1 + length r.gateways
length_bytes_of_row ws r c s =
    let a = length-append r.coefficients (bytes_of_box ws r.selector ++ (length r.gateways ∷ r.gateways)) in
    let b = length-append (bytes_of_box ws r.selector) (length r.gateways ∷ r.gateways) in
    omega (arith, length_bytes_of_box ws r.selector s)

-- They say the row, where it keeps its rules.
pub bytes_of_row_says : (t : Table) (r : Row) → RowRule t r → SaysRow box_widths (bytes_of_row box_widths r) r
bytes_of_row_says t r h =
    record {
      box = bytes_of_box box_widths r.selector;
      selector = bytes_of_box_says box_widths r.selector h.selector.ordered h.selector.fits;
      coefficients = h.coefficients.three;
      few = h.few_gateways;
      bytes = refl;
    }

-- No others do, for any widths.
pub says_bytes_of_row : (ws bs : List ℕ) (r : Row) → ((i : ℕ) → get_or bs i 0 < 256) → SaysRow ws bs r → bs ≡ bytes_of_row ws r
says_bytes_of_row ws bs r b s =
    let all = rw s.bytes at b in
    let rest = bytes_rest r.coefficients (s.box ++ (length r.gateways ∷ r.gateways)) (λ i. all (suc (suc (suc (suc i))))) in
    s.bytes
    ∙ ap (λ (box : List ℕ). r.holder ∷ r.source ∷ r.destination ∷ r.technology ∷ (r.coefficients ++ (box ++ (length r.gateways ∷ r.gateways))))
    (says_bytes_of_box ws s.box r.selector (bytes_first s.box (length r.gateways ∷ r.gateways) rest) s.selector)

-- What is below a bound at each place of a list is so at every place, with 0 past its end.
below_all : (l : List ℕ) → Below 256 l → (i : ℕ) → get_or l i 0 < 256
below_all [] h i = lit< tt
below_all (x ∷ l) h zero = h 0 (omega arith)
below_all (x ∷ l) h (suc i) = below_all l (λ k b. h (suc k) (omega arith)) i

pub bytes_of_row_below : (t : Table) (r : Row) → length t.entities ≤ most_entities → RowRule t r → (i : ℕ) → get_or (bytes_of_row box_widths r) i 0 < 256
bytes_of_row_below t r few h zero = let a = h.holder.entity in omega arith
bytes_of_row_below t r few h (suc zero) = let a = h.source in omega arith
bytes_of_row_below t r few h (suc (suc zero)) = let a = h.destination in omega arith
bytes_of_row_below t r few h (suc (suc (suc zero))) = let a = h.technology in omega arith
bytes_of_row_below t r few h (suc (suc (suc (suc i)))) =
    bytes_append r.coefficients (bytes_of_box box_widths r.selector ++ (length r.gateways ∷ r.gateways)) (below_all r.coefficients h.coefficients.bytes)
    (bytes_append (bytes_of_box box_widths r.selector) (length r.gateways ∷ r.gateways) (bytes_of_box_below box_widths r.selector)
    (below_all (length r.gateways ∷ r.gateways) last))
    i
  where
    last : (k : ℕ) → k < suc (length r.gateways) → get_or (length r.gateways ∷ r.gateways) k 0 < 256
    last zero b = let a = h.few_gateways in omega arith
    last (suc k) b = let a = (h.gateways k (omega arith)).entity in omega arith
