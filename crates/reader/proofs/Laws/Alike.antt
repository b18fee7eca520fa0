-- Texts whose lines have the same bytes are read alike:
--   SameBytes: two such lines
--   parse_alike: two texts of such lines are the same table, or the same refusal
-- Assumes nothing.
use mathlib.Core.Path.{◌≡◌, refl}
use mathlib.Core.List.{List, [], ◌∷◌}
use Prim.Native.Nat.{ℕ}
use lib.Dec.{eqb}
use lib.ListN.{length}
use Rattle.base.specs.Pairs.{Pairwise}
use Rattle.hexlines.specs.Lines.{is_line, bytes_of}
use Rattle.frames.specs.Progress.{nothing}
use Rattle.reader.specs.Lines.{lines_of, rest_of}
use Rattle.reader.specs.States.{State, reading, refused, step, run, finish, parse}

-- Both are pairs of digits, or neither is, and they stand for the same bytes.
abbrev pub SameBytes : List ℕ → List ℕ → Type 0
SameBytes l m = (is_line l ≡ is_line m) × (bytes_of l ≡ bytes_of m)

step_alike : (s : State) (l m : List ℕ) → SameBytes l m → step s l ≡ step s m
unfolding step
step_alike (reading n p) l m h = rw (h.0, h.1)
step_alike (refused k n) l m h = refl

run_alike : (s : State) (ls ms : List (List ℕ)) → Pairwise SameBytes ls ms → run s ls ≡ run s ms
unfolding run
run_alike s [] [] h = refl
run_alike s [] (m ∷ ms) h = absurd h
run_alike s (l ∷ ls) [] h = absurd h
run_alike s (l ∷ ls) (m ∷ ms) h = rw (step_alike s l m h.0) (run_alike (step s m) ls ms h.1)

-- What stands after the last line feed counts only by whether there is any.
finish_alike : (s : State) (x y : List ℕ) → eqb (length x) 0 ≡ eqb (length y) 0 → finish s x ≡ finish s y
unfolding finish
finish_alike (reading n p) x y e = rw e
finish_alike (refused k n) x y e = refl

pub parse_alike : (a b : List ℕ) → Pairwise SameBytes (lines_of a) (lines_of b) → eqb (length (rest_of a)) 0 ≡ eqb (length (rest_of b)) 0
    → parse a ≡ parse b
unfolding parse
parse_alike a b h e =
    rw (run_alike (reading 0 nothing) (lines_of a) (lines_of b) h)
    (finish_alike (run (reading 0 nothing) (lines_of b)) (rest_of a) (rest_of b) e)
