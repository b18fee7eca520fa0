-- Laws of what the bytes of a frame say:
--   bytes_there: a part of n bytes has their characters
--   coefficients_rule, selector_fits: the coefficients and the box of a line are in range
--   box_said, box_length, box_read: what a part of the bytes says as a box, its length, and that what says a box is read so
--   three_first, three_bytes: three bytes, read one by one
--   misfit_none: a frame that is no misfit has its length and its place
-- Assumes nothing.
use Prim.Native.Nat.{ℕ, zero, suc, ◌+◌, ◌*◌, ◌<◌, ◌≤◌}
use mathlib.Core.Path.{◌≡◌, refl, sym, ap, ◌∙◌}
use mathlib.Core.Bool.{Bool, true, false}
use mathlib.Core.List.{List, [], ◌∷◌, ◌++◌, append_assoc, append-nil}
use native.Mathlib.Omega.{arith}
use borrow.Author.Tests.{eqb-true}
use lib.Dec.{eqb}
use lib.ListN.{length, get_or, take, drop, length-take, length-drop, length-append}
use lib.Seq.{take-add, drop-drop, drop-append_seam, take-append_seam}
use Rattle.hexlines.specs.Lines.{bytes_of}
use Rattle.hexlines.proofs.Laws.Lines.{bytes_of_below, length_bytes_of}
use Rattle.hexlines.proofs.Laws.Numbers.{line_field_below}
use Rattle.hexlines.specs.Numbers.{field}
use Rattle.policy.specs.Limits.{coefficient_count}
use Rattle.policy.specs.Model.{Selector}
use Rattle.policy.specs.Wellformed.{CoefficientsRule, Fits}
use Rattle.frames.specs.Progress.{misfit_of}
use Rattle.frames.specs.Parts.{coefficients_from, range_from, selector_from, SaysNumber, SaysBox, box_bytes}

pub bytes_there : (l : List ℕ) (n : ℕ) → eqb (length (bytes_of l)) n ≡ true → 2 * n ≤ length l
bytes_there l n h = let e : length (bytes_of l) ≡ n = eqb-true (length (bytes_of l)) n h in let k = length_bytes_of l in omega arith

pub coefficients_rule : (at : ℕ) (l : List ℕ) → CoefficientsRule (coefficients_from at (bytes_of l))
coefficients_rule at l = record { three = refl; bytes = byte }
  where
    byte : (k : ℕ) → k < coefficient_count → get_or (coefficients_from at (bytes_of l)) k 0 < 256
    byte zero h = bytes_of_below l at
    byte (suc zero) h = bytes_of_below l (at + 1)
    byte (suc (suc zero)) h = bytes_of_below l (at + 2)
    byte (suc (suc (suc k))) h = absurd (omega arith)

-- A box of any widths fits them.
pub selector_fits : (at : ℕ) (ws l : List ℕ) → Fits ws (selector_from at ws (bytes_of l))
unfolding range_from
selector_fits at [] l = tt
selector_fits at (w ∷ ws) l = (line_field_below l (at + w) w, selector_fits (at + 2 * w) ws l)

-- ---- what it is to say a box

pub box_said_lem : (at : ℕ) (ws bs : List ℕ) → at + box_bytes ws ≤ length bs → SaysBox ws (take (box_bytes ws) (drop at bs)) (selector_from at ws bs)
unfolding range_from
box_said_lem at [] bs h = refl
box_said_lem at (w ∷ ws) bs h = (
  take w (drop at bs),
  take w (drop (at + w) bs),
  take (box_bytes ws) (drop (at + 2 * w) bs),
  ap (λ n. take n (drop at bs)) two
      ∙ take-add w (w + box_bytes ws) (drop at bs)
      ∙ ap (λ l. take w (drop at bs) ++ l)
      (ap (take (w + box_bytes ws)) (drop-drop w at bs)
      ∙ take-add w (box_bytes ws) (drop (at + w) bs)
      ∙ ap (λ l. take w (drop (at + w) bs) ++ take (box_bytes ws) l) (drop-drop w (at + w) bs ∙ ap (λ n. drop n bs) next)),
  (simp (length-take, length-drop) (omega arith), refl),
  (simp (length-take, length-drop) (omega arith), refl),
  box_said_lem (at + 2 * w) ws bs (omega arith),
)
  where
    two : 2 * w + box_bytes ws ≡ w + (w + box_bytes ws)
    two = omega arith

    next : at + w + w ≡ at + 2 * w
    next = omega arith

pub box_length : (ws box : List ℕ) (s : Selector) → SaysBox ws box s → length box ≡ box_bytes ws
box_length [] box [] h = ap length h
box_length [] box (r ∷ s) h = absurd h
box_length (w ∷ ws) box [] h = absurd h
box_length (w ∷ ws) box (r ∷ s) h =
    let e = box_length ws h.2 s h.6 in
    ap length h.3 ∙ simp length-append (omega (arith, h.4.0, h.5.0))

-- A part of the bytes that says a number is read so.
field_part : (pre part post : List ℕ) (at w n : ℕ) → at ≡ length pre → SaysNumber w part n → field at w (pre ++ (part ++ post)) ≡ n
field_part pre part post at w n e h = rw (e, ← h.0, drop-append_seam pre (part ++ post), take-append_seam part post) h.1

pub box_read : (ws box : List ℕ) (s : Selector) (pre post : List ℕ) (at : ℕ) → at ≡ length pre → SaysBox ws box s
    → selector_from at ws (pre ++ (box ++ post)) ≡ s
unfolding range_from
box_read [] box [] pre post at e h = refl
box_read [] box (r ∷ s) pre post at e h = absurd h
box_read (w ∷ ws) box [] pre post at e h = absurd h
box_read (w ∷ ws) box (r ∷ s) pre post at e h =
    let low = h.0 in
    let high = h.1 in
    let rest = h.2 in
    let first : pre ++ (box ++ post) ≡ pre ++ (low ++ (high ++ (rest ++ post))) = rw h.3 (simp append_assoc) in
    let second : pre ++ (box ++ post) ≡ (pre ++ low) ++ (high ++ (rest ++ post)) = rw h.3 (simp append_assoc) in
    let third : pre ++ (box ++ post) ≡ ((pre ++ low) ++ high) ++ (rest ++ post) = rw h.3 (simp append_assoc) in
    let at_high : at + w ≡ length (pre ++ low) = simp length-append (omega (arith, h.4.0)) in
    let at_rest : at + 2 * w ≡ length ((pre ++ low) ++ high) = simp length-append (omega (arith, h.4.0, h.5.0)) in
    let lower : field at w (pre ++ (box ++ post)) ≡ r.low = rw first (field_part pre low (high ++ (rest ++ post)) at w r.low e h.4) in
    let upper : field (at + w) w (pre ++ (box ++ post)) ≡ r.high =
    rw second (field_part (pre ++ low) high (rest ++ post) (at + w) w r.high at_high h.5) in
    let others : selector_from (at + 2 * w) ws (pre ++ (box ++ post)) ≡ s =
    rw third (box_read ws rest s ((pre ++ low) ++ high) post (at + 2 * w) at_rest h.6) in
    λ i. record { low = lower i; high = upper i } ∷ others i

-- ---- three bytes

-- The first three of some bytes.
pub three_first : (c rest : List ℕ) → length c ≡ 3 → coefficients_from 0 (c ++ rest) ≡ c
three_first [] rest h = absurd (omega arith)
three_first (x ∷ []) rest h = absurd (omega arith)
three_first (x ∷ y ∷ []) rest h = absurd (omega arith)
three_first (x ∷ y ∷ z ∷ []) rest h = refl
three_first (x ∷ y ∷ z ∷ v ∷ c) rest h = absurd (omega arith)

pub three_bytes : (c : List ℕ) → length c ≡ 3 → coefficients_from 0 c ≡ c
three_bytes c h = ap (coefficients_from 0) (sym (append-nil c)) ∙ three_first c [] h

pub misfit_none : (long placed : Bool) → misfit_of long placed ≡ 0 → (long ≡ true) × (placed ≡ true)
misfit_none true true h = (refl, refl)
misfit_none true false h = absurd (omega arith)
misfit_none false placed h = absurd (omega arith)
