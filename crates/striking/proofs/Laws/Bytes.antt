-- Laws of the struck text line by line and byte by byte. For an accepted text, whose rows are its last lines, the lines that are kept are those of the
-- struck text, and the bytes that are kept are the struck text, which is so no longer than the text.
-- Assumes nothing.
use Prim.Native.Nat.{ℕ, zero, suc, ◌+◌, ◌-◌, ◌≤◌, ◌<◌}
use mathlib.Core.Path.{◌≡◌, refl, sym, ap, ◌∙◌}
use mathlib.Core.Bool.{Bool, true, false, not, ◌||◌}
use mathlib.Core.List.{List, [], ◌∷◌, ◌++◌, map, append-nil}
use native.Mathlib.Nat.{add-zero}
use native.Mathlib.Omega.{arith}
use borrow.Author.Tests.{ne_eqb, lt-ltb, le-ltb, lt-leb}
use lib.Dec.{ltb}
use lib.ListN.{length, get_or, set, take, drop, drop_of_length-le, take-append-drop, length-append}
use Rattle.std.specs.List.{sum_by}
use Rattle.std.proofs.lemmas.List.Recursion.{is_sum_by}
use lib.Seq.{sets, lt-length-sets, drop-cons, length-take-le}
use Rattle.base.proofs.Laws.Lists.{sets_append, length_none}
use Rattle.base.specs.Truths.{pick}
use Rattle.policy.specs.Limits.{most_rows}
use Rattle.policy.specs.Model.{Table, lines_before}
use Rattle.reader.specs.Lines.{line_feed, lines_of, rest_of, text_of}
use Rattle.base.specs.Answers.{returned}
use Rattle.reader.specs.States.{table_read, parse}
use Rattle.reader.proofs.Laws.Rows.{accepted_rows, accepted_lines}
use Rattle.reader.proofs.Laws.Texts.{NotFeed, NoFeed, AllNoFeed, text_cut, lines_clean}
use Rattle.reader.proofs.Laws.Wellformed.{accepted_wellformed}
use Rattle.verdicts.specs.Verdicts.{dead}
use Rattle.base.specs.Lists.{numbers_from}
use Rattle.striking.specs.Striking.{kept}
use Rattle.striking.specs.Texts.{struck_text}
use Rattle.striking.specs.Lines.{DeadRows, keeps, lines_kept}
use Rattle.striking.specs.Bytes.{next_place, kept_bytes}
use Rattle.base.proofs.Laws.Numbers.{number_next, numbers_end}

-- ---- how long lines are

-- Each has its line feed besides.
pub text_long : (ls : List (List ℕ)) → length (text_of ls) ≡ sum_by (λ l. length l + 1) ls
text_long = is_sum_by (λ ls. length (text_of ls)) (λ l. length l + 1) refl (λ l ls. let e = length-append l (line_feed ∷ text_of ls) in omega arith)

few_lines : (ls : List (List ℕ)) → length ls ≤ length (text_of ls)
few_lines [] = omega arith
few_lines (l ∷ ls) = let h = few_lines ls in omega (arith, length-append l (line_feed ∷ text_of ls))

-- A text has its lines, and so no more lines than bytes.
lines_within : (text : List ℕ) → length (text_of (lines_of text)) ≤ length text
lines_within text = let e = ap length (text_cut text) in omega (arith, length-append (text_of (lines_of text)) (rest_of text))

pub lines_counted : (text : List ℕ) → length (lines_of text) ≤ length text
lines_counted text = let e = few_lines (lines_of text) in let h = lines_within text in omega arith

-- A line that is copied to an output: there is room for its line feed after it, and both stand there as if they were stored.
module _ (out next line : List ℕ) (n : ℕ) (e : next ≡ sets out n line) (h : n + length line + 1 ≤ length out) where
  pub feed_within : n + length line < length next
  feed_within = rw e (lt-length-sets out n line (omega arith))

  pub line_stored : set next (n + length line) line_feed ≡ sets out n (line ++ (line_feed ∷ []))
  line_stored = ap (λ l. set l (n + length line) line_feed) e ∙ sym (sets_append out n line (line_feed ∷ []))

module _ (keep : ℕ → Bool) where
  -- ---- bytes that are kept, and lines

  -- A byte is kept, or it goes, as its line does.
  byte : (n c : ℕ) (text : List ℕ)
      → kept_bytes keep n (c ∷ text) ≡ pick (keep n) (c ∷ kept_bytes keep (next_place n c) text) (kept_bytes keep (next_place n c) text)
  unfolding kept_bytes
  byte n c text = go (keep n) refl
    where
      go : (b : Bool) → keep n ≡ b
          → kept_bytes keep n (c ∷ text) ≡ pick b (c ∷ kept_bytes keep (next_place n c) text) (kept_bytes keep (next_place n c) text)
      go true e = rw (e, kept_bytes)
      go false e = rw (e, kept_bytes)

  bytes_end : (n : ℕ) → kept_bytes keep n [] ≡ []
  unfolding kept_bytes
  bytes_end n = refl

  same_place : (n c : ℕ) → NotFeed c → next_place n c ≡ n
  same_place n c h = rw (ne_eqb c line_feed h) refl

  whole_line : (n : ℕ) (l text : List ℕ) → NoFeed l
      → kept_bytes keep n (l ++ (line_feed ∷ text)) ≡ pick (keep n) (l ++ (line_feed ∷ kept_bytes keep (suc n) text)) (kept_bytes keep (suc n) text)
  whole_line n [] text h = byte n line_feed text
  whole_line n (c ∷ l) text h =
      byte n c (l ++ (line_feed ∷ text))
      ∙ rw (same_place n c h.0, whole_line n l text h.1) (again (keep n) (l ++ (line_feed ∷ kept_bytes keep (suc n) text)) (kept_bytes keep (suc n) text))
    where
      again : (b : Bool) (x y : List ℕ) → pick b (c ∷ pick b x y) (pick b x y) ≡ pick b (c ∷ x) y
      again true x y = refl
      again false x y = refl

  text_kept : (n : ℕ) (ls : List (List ℕ)) → AllNoFeed ls → kept_bytes keep n (text_of ls) ≡ text_of (lines_kept keep n ls)
  text_kept n [] f = bytes_end n
  text_kept n (l ∷ ls) f = whole_line n l (text_of ls) f.0 ∙ rw (text_kept (suc n) ls f.1) (told (keep n) (lines_kept keep (suc n) ls))
    where
      told : (b : Bool) (r : List (List ℕ)) → pick b (l ++ (line_feed ∷ text_of r)) (text_of r) ≡ text_of (pick b (l ∷ r) r)
      told true r = refl
      told false r = refl

  -- No more lines are kept than there are.
  kept_shorter : (n : ℕ) (ls : List (List ℕ)) → length (text_of (lines_kept keep n ls)) ≤ length (text_of ls)
  kept_shorter n [] = omega arith
  kept_shorter n (l ∷ ls) =
      let h = kept_shorter (suc n) ls in
      elim (keep n) as (λ b. length (text_of (pick b (l ∷ lines_kept keep (suc n) ls) (lines_kept keep (suc n) ls))) ≤ length (text_of (l ∷ ls))) [
        | true ↦ omega (arith, length-append l (line_feed ∷ text_of (lines_kept keep (suc n) ls)), length-append l (line_feed ∷ text_of ls))
        | false ↦ omega (arith, length-append l (line_feed ∷ text_of ls))
      ]

  -- Lines that are all kept, and others after them.
  all_kept : (n : ℕ) (a b : List (List ℕ)) → ((k : ℕ) → k < length a → keep (n + k) ≡ true)
      → lines_kept keep n (a ++ b) ≡ a ++ lines_kept keep (n + length a) b
  all_kept n [] b h = ap (λ (m : ℕ). lines_kept keep m b) (sym (add-zero n))
  all_kept n (l ∷ a) b h =
      let z : n + 0 ≡ n = omega arith in
      let s : suc n + length a ≡ n + suc (length a) = omega arith in
      rw (ap keep (sym z) ∙ h 0 (omega arith))
      (ap (λ (r : List (List ℕ)). l ∷ r)
      (all_kept (suc n) a b (λ k c. let e : suc n + k ≡ n + suc k = omega arith in ap keep e ∙ h (suc k) (omega arith))
      ∙ ap (λ (m : ℕ). a ++ lines_kept keep m b) s))

  -- The last lines, of which m rows' from row k on; those of rows that pass are kept.
  module _ (alive : ℕ → Bool) (rows : ℕ) (ls : List (List ℕ)) (others : ℕ) (h : (i : ℕ) → i < rows → keep (others + i) ≡ alive i) where
    abbrev line_at : ℕ → List ℕ
    line_at i = get_or ls (others + i) []

    rows_kept : (m k : ℕ) → k + m ≡ rows → others + (k + m) ≡ length ls
        → lines_kept keep (others + k) (drop (others + k) ls) ≡ map line_at (numbers_from alive m k)
    rows_kept zero k r e = rw (drop_of_length-le ls {i = others + k} (omega arith), numbers_end alive k)
    rows_kept (suc m) k r e =
        let s : suc (others + k) ≡ others + suc k = omega arith in
        let further = ap (λ (j : ℕ). lines_kept keep j (drop j ls)) s ∙ rows_kept m (suc k) (omega arith) (omega arith) in
        rw (drop-cons ls (others + k) [] (omega arith))
        (rw (h k (omega arith), further, number_next alive m k) (told (alive k) (numbers_from alive m (suc k))))
      where
        told : (b : Bool) (r : List ℕ) → pick b (line_at k ∷ map line_at r) (map line_at r) ≡ map line_at (pick b (k ∷ r) r)
        told true r = refl
        told false r = refl

-- ---- the struck text

module _ (text : List ℕ) (t : Table) (e : parse text ≡ returned (table_read t)) where
  abbrev ls : List (List ℕ)
  ls = lines_of text

  abbrev others : ℕ
  others = lines_before 1 t

  long : others + length t.rows ≡ length ls
  long = let n = accepted_lines text t e in omega arith

  -- by any test that keeps the other lines and those of rows that are not dead
  module _ (keep : ℕ → Bool) (early : (n : ℕ) → n < others → keep n ≡ true)
      (late : (i : ℕ) → i < length t.rows → keep (others + i) ≡ not (dead t i)) where
    struck_kept : text_of (lines_kept keep 0 ls) ≡ struck_text text t
    unfolding struck_text
    struck_kept =
        let a = length-take-le others ls (let l = long in omega arith) in
        ap text_of
        (ap (lines_kept keep 0) (sym (take-append-drop others ls))
        ∙ all_kept keep 0 (take others ls) (drop others ls) (λ k h. early (0 + k) (omega arith))
        ∙ ap (λ (q : List (List ℕ)). take others ls ++ q) (last a))
      where
        last : length (take others ls) ≡ others
            → lines_kept keep (0 + length (take others ls)) (drop others ls) ≡ map (λ i. get_or ls (others + i) []) (kept t)
        last a =
            let m : 0 + length (take others ls) ≡ others + 0 = omega arith in
            let n : others ≡ others + 0 = omega arith in
            ap (λ (j : ℕ). lines_kept keep j (drop others ls)) m
            ∙ ap (λ (j : ℕ). lines_kept keep (others + 0) (drop j ls)) n
            ∙ rows_kept keep (λ i. not (dead t i)) (length t.rows) ls others late (length t.rows) 0 (omega arith) (let l = long in omega arith)

  -- by the flags of the dead rows: line by line, as the code goes through the text,
  pub struck_of_lines : (flags : List Bool) → DeadRows t flags → text_of (lines_kept (keeps flags others) 0 ls) ≡ struck_text text t
  struck_of_lines flags d = struck_kept (keeps flags others) (λ n h. rw (lt-ltb n others h)) flagged
    where
      flagged : (i : ℕ) → i < length t.rows → keeps flags others (others + i) ≡ not (dead t i)
      flagged i h =
          let w = (accepted_wellformed text t e).counts.few_rows in
          let s : others + i - others ≡ i = omega arith in
          rw (le-ltb (others + i) others (omega arith), s, lt-leb most_rows i (omega arith), d.at i h)

  -- and byte by byte
  pub struck_bytes : (flags : List Bool) → DeadRows t flags → kept_bytes (keeps flags others) 0 text ≡ struck_text text t
  struck_bytes flags d =
      let r : rest_of text ≡ [] = length_none (rest_of text) (accepted_rows text t e).ended in
      let cut = sym (text_cut text) ∙ ap (λ (q : List ℕ). text_of ls ++ q) r ∙ append-nil (text_of ls) in
      ap (kept_bytes (keeps flags others) 0) cut ∙ text_kept (keeps flags others) 0 ls (lines_clean text) ∙ struck_of_lines flags d

  -- by the test itself, which needs no flags
  abbrev spares : ℕ → Bool
  spares n = ltb n others || not (dead t (n - others))

  pub struck_shorter : length (struck_text text t) ≤ length text
  struck_shorter =
      let h = lines_within text in
      rw (sym (struck_kept spares (λ n h. rw (lt-ltb n others h)) late)) (let k = kept_shorter spares 0 ls in omega arith)
    where
      late : (i : ℕ) → i < length t.rows → spares (others + i) ≡ not (dead t i)
      late i h =
          let s : others + i - others ≡ i = omega arith in
          rw (le-ltb (others + i) others (omega arith), s)
