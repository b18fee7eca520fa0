-- Laws of the lines of a text:
--   length_first: the first line is as long as there are characters before the first line feed
--   length_within: no line is longer than the text
--   lines_ended, rest_ended: the first line, where a line feed ends it, and what follows it
--   lines_unended, rest_alone: where none ends it, there is no line, and the text is what stands after the last line feed
--   rest_all: what follows a place
--   start_next, start_none: where the line at a place starts
--   start_within, lines_from, line_at: it starts in the text, at the lines from that place on
-- Assumes nothing.
use mathlib.Core.Path.{◌≡◌, refl, ap, sym, ◌∙◌}
use mathlib.Core.Bool.{true, false}
use mathlib.Core.List.{List, [], ◌∷◌, ◌++◌, append-nil}
use Prim.Native.Nat.{ℕ, zero, suc, ◌+◌, ◌-◌, ◌≤◌, ◌<◌}
use native.Mathlib.Decide.{dec_lt}
use native.Mathlib.Omega.{arith}
use native.Mathlib.Numerals.{add-one}
use borrow.Author.Tests.{eq-eqb, ne_eqb}
use lib.Dec.{eqb}
use Rattle.std.specs.List.{AllWithin, HoldsAt}
use Rattle.std.specs.Option.{MatchOption, unwrap_or}
use Rattle.std.proofs.Common.{Option}
use Rattle.std.proofs.lemmas.Iterator.{index_from_first}
use lib.ListN.{length, get_or, take, drop, length-drop}
use lib.Seq.{drop-drop, drop-length, get_or-drop, take_all, append_snoc}
use Rattle.base.specs.Truths.{pick}
use Rattle.reader.specs.Lines.{line_feed, lines_from, rest_from, lines_of, rest_of, line_length, line_start}

-- ---- the first line of a text

pub length_first : (text : List ℕ) (r : Option ℕ)
    → MatchOption r (AllWithin (λ c. c ≡ line_feed → ⊥) text 0 (length text))
    (λ i. (i < length text) × HoldsAt (λ c. c ≡ line_feed) text i × AllWithin (λ c. c ≡ line_feed → ⊥) text 0 i)
    → line_length text ≡ unwrap_or r (length text)
length_first text r h =
    index_from_first line_length (λ c. c ≡ line_feed) (λ c. c ≡ line_feed → ⊥) refl (λ c l e. rw (eq-eqb c line_feed e))
    (λ c l n. rw (ne_eqb c line_feed n) (omega arith)) text r h

pub length_within : (text : List ℕ) → line_length text ≤ length text
length_within [] = omega arith
length_within (c ∷ text) =
    let h = length_within text in
    elim (eqb c line_feed) as (λ b. pick b 0 (suc (line_length text)) ≤ suc (length text)) [ true ↦ omega arith | false ↦ omega arith ]

-- With what of it has begun.
ended_from : (line text : List ℕ) → line_length text < length text
    → (lines_from line text ≡ (line ++ take (line_length text) text) ∷ lines_of (drop (suc (line_length text)) text))
    × (rest_from line text ≡ rest_of (drop (suc (line_length text)) text))
unfolding lines_from rest_from
ended_from line [] h = absurd (omega arith)
ended_from line (c ∷ text) h =
    (elim (eqb c line_feed) as (λ b. pick b 0 (suc (line_length text)) < suc (length text)
    → (elim b [ true ↦ line ∷ lines_from [] text | false ↦ lines_from (line ++ (c ∷ [])) text ]
    ≡ (line ++ take (pick b 0 (suc (line_length text))) (c ∷ text)) ∷ lines_of (drop (suc (pick b 0 (suc (line_length text)))) (c ∷ text)))
    × (elim b [ true ↦ rest_from [] text | false ↦ rest_from (line ++ (c ∷ [])) text ]
    ≡ rest_of (drop (suc (pick b 0 (suc (line_length text)))) (c ∷ text)))) [
      | true ↦ λ k. (rw (append-nil line) refl, refl)
      | false ↦ λ k.
          let x = ended_from (line ++ (c ∷ [])) text (omega arith) in
          (x.0 ∙ rw (append_snoc line c (take (line_length text) text)) refl, x.1)
    ]) h

unended_from : (line text : List ℕ) → length text ≤ line_length text → (◌≡◌ {A = List (List ℕ)} (lines_from line text) []) × (rest_from line text ≡ line ++ text)
unfolding lines_from rest_from
unended_from line [] h = (refl, sym (append-nil line))
unended_from line (c ∷ text) h =
    (elim (eqb c line_feed) as (λ b. suc (length text) ≤ pick b 0 (suc (line_length text))
    → (◌≡◌ {A = List (List ℕ)} (elim b [ true ↦ line ∷ lines_from [] text | false ↦ lines_from (line ++ (c ∷ [])) text ]) [])
    × (elim b [ true ↦ rest_from [] text | false ↦ rest_from (line ++ (c ∷ [])) text ] ≡ line ++ (c ∷ text))) [
      | true ↦ λ k. absurd (omega arith)
      | false ↦ λ k.
          let x = unended_from (line ++ (c ∷ [])) text (omega arith) in
          (x.0, x.1 ∙ append_snoc line c text)
    ]) h

-- Where its line ends, in a line feed or at the text's end.
module _ (text : List ℕ) (end : ℕ) (e : end ≡ line_length text) where
  module _ (h : end < length text) where
    pub lines_ended : lines_of text ≡ take end text ∷ lines_of (drop (end + 1) text)
    lines_ended = rw (add-one, e) (ended_from [] text (omega arith)).0

    pub rest_ended : rest_of text ≡ rest_of (drop (end + 1) text)
    rest_ended = rw (add-one, e) (ended_from [] text (omega arith)).1

  pub lines_unended : length text ≤ end → lines_of text ≡ []
  lines_unended h = (unended_from [] text (omega arith)).0

-- A text with no line is what stands after the last line feed.
pub rest_alone : (text : List ℕ) → lines_of text ≡ [] → rest_of text ≡ text
rest_alone text h = elim (dec_lt (line_length text) (length text)) [
  | yes k ↦ let x = (ended_from [] text k).0 in absurd (cc)
  | no k ↦ (unended_from [] text (omega arith)).1
]

-- ---- what follows a place

-- What the code takes for it.
pub rest_all : (text : List ℕ) (n : ℕ) → take (length text - n) (drop n text) ≡ drop n text
rest_all text n = take_all (length text - n) (drop n text) (omega (arith, length-drop n text))

-- ---- the line at a place

start_ended : (text : List ℕ) (n : ℕ) → line_length text < length text
    → line_start text (suc n) ≡ suc (line_length text) + line_start (drop (suc (line_length text)) text) n
start_ended [] n h = absurd (omega arith)
start_ended (c ∷ text) n h =
    (elim (eqb c line_feed) as (λ b. pick b 0 (suc (line_length text)) < suc (length text)
    → suc (pick b (line_start text n) (line_start text (suc n)))
    ≡ suc (pick b 0 (suc (line_length text))) + line_start (drop (suc (pick b 0 (suc (line_length text)))) (c ∷ text)) n) [
      | true ↦ λ k. omega arith
      | false ↦ λ k. omega (arith, start_ended text n (omega arith))
    ]) h

start_unended : (text : List ℕ) (n : ℕ) → length text ≤ line_length text → line_start text (suc n) ≡ length text
start_unended [] n h = refl
start_unended (c ∷ text) n h =
    (elim (eqb c line_feed) as (λ b. suc (length text) ≤ pick b 0 (suc (line_length text))
    → suc (pick b (line_start text n) (line_start text (suc n))) ≡ suc (length text)) [
      | true ↦ λ k. absurd (omega arith)
      | false ↦ λ k. ap suc (start_unended text n (omega arith))
    ]) h

-- One line further on, from a place of the text whose line ends at end.
module _ (text : List ℕ) (start end : ℕ) (e : end ≡ start + line_length (drop start text)) (n m : ℕ) (some : n ≡ m + 1) where
  more : line_start (drop start text) n ≡ line_start (drop start text) (suc m)
  more = ap (λ k. line_start (drop start text) k) (some ∙ add-one m)

  further : drop (suc (line_length (drop start text))) (drop start text) ≡ drop (end + 1) text
  further =
      let q : start + suc (line_length (drop start text)) ≡ end + 1 = omega arith in
      drop-drop (suc (line_length (drop start text))) start text ∙ ap (λ k. drop k text) q

  pub start_next : end < length text → start + line_start (drop start text) n ≡ end + 1 + line_start (drop (end + 1) text) m
  start_next h =
      let x = start_ended (drop start text) m (omega (arith, length-drop start text)) in
      let y = ap (λ l. line_start l m) further in
      omega (arith, more)

  pub start_none : start ≤ length text → length text ≤ end → start + line_start (drop start text) n ≡ length text
  start_none k h =
      let x = start_unended (drop start text) m (omega (arith, length-drop start text)) in
      omega (arith, more, length-drop start text)

pub start_within : (text : List ℕ) (n : ℕ) → line_start text n ≤ length text
start_within text zero = omega arith
start_within text (suc n) = elim (dec_lt (line_length text) (length text)) [
  | yes h ↦
      omega (arith, start_ended text n h, start_within (drop (suc (line_length text)) text) n, length-drop (suc (line_length text)) text)
  | no h ↦ omega (arith, start_unended text n (omega arith))
]

pub lines_from_lem : (text : List ℕ) (n : ℕ) → lines_of (drop (line_start text n) text) ≡ drop n (lines_of text)
lines_from_lem text zero = refl
lines_from_lem text (suc n) = elim (dec_lt (line_length text) (length text)) [
  | yes h ↦
      let rest = drop (suc (line_length text)) text in
      ap (λ k. lines_of (drop k text)) (start_ended text n h)
      ∙ ap (λ l. lines_of l) (sym (drop-drop (line_start rest n) (suc (line_length text)) text))
      ∙ lines_from_lem rest n
      ∙ ap (λ ls. drop (suc n) ls) (sym (ended_from [] text h).0)
  | no h ↦
      let none = (unended_from [] text (omega arith)).0 in
      ap (λ k. lines_of (drop k text)) (start_unended text n (omega arith))
      ∙ ap (λ l. lines_of l) (drop-length text)
      ∙ no_lines
      ∙ ap (λ ls. drop (suc n) ls) (sym none)
]
  where
    no_lines : ◌≡◌ {A = List (List ℕ)} (lines_of []) []
    no_lines = (unended_from [] [] (omega arith)).0

pub line_at : (text : List ℕ) (n : ℕ) → get_or (lines_of text) n [] ≡ get_or (lines_of (drop (line_start text n) text)) 0 []
line_at text n =
    let e : n + 0 ≡ n = omega arith in
    ap (λ k. get_or (lines_of text) k []) (sym e)
    ∙ sym (get_or-drop n (lines_of text) 0 [])
    ∙ ap (λ ls. get_or ls 0 []) (sym (lines_from_lem text n))
