-- Of tests as a number as many bits are 1 as tests hold.
-- Assumes nothing.
use Prim.Native.Nat.{ℕ, suc, ◌+◌, ◌≤◌}
use mathlib.Core.Path.{◌≡◌, sym, ap, ◌∙◌}
use mathlib.Core.Bool.{Bool, false}
use mathlib.Core.List.{List, [], ◌∷◌}
use native.Mathlib.Nat.{zero-add, add-zero}
use native.Mathlib.Numerals.{add-one}
use native.Mathlib.Omega.{arith}
use lib.Count.{ones}
use lib.ListN.{length, get_or, take, drop, length-drop}
use lib.Seq.{length-take-le, get_or-take, get_or-drop}
use Rattle.std.specs.List.{sum_by}
use Rattle.std.proofs.lemmas.List.Recursion.{is_sum_by}
use Rattle.base.specs.Truths.{bit}
use Rattle.base.specs.Bits.{bits_of, marked}
use Rattle.base.proofs.Laws.Bits.{marked_bits, ones_none, ones_more}
use Rattle.base.proofs.Laws.Passing.{bit_le}
use Rattle.kinds.specs.Entries.{sum}
use Rattle.kinds.proofs.Laws.Sums.{total, total_none, total_more, sum_same, sum_list}

ones_bits : (bs : List Bool) → ones (bits_of bs) ≡ total bit bs
ones_bits [] = ones_none ∙ sym (total_none bit)
ones_bits (b ∷ bs) = ones_more b bs ∙ ap (λ (n : ℕ). bit b + n) (ones_bits bs) ∙ sym (total_more bit b bs)

-- And no more than there are.
pub ones_few : (bs : List Bool) → ones (bits_of bs) ≤ length bs
ones_few bs = let e = ones_bits bs in let h = few bs in omega arith
  where
    few : (cs : List Bool) → total bit cs ≤ length cs
    few [] = let e = total_none bit in omega arith
    few (c ∷ cs) = let e = total_more bit c cs in let h = few cs in omega (arith, bit_le c)

-- Where the first does not hold: those from 1 on.
pub ones_kinds : (bs : List Bool) (m : ℕ) (f : ℕ → Bool) → m ≡ bits_of (false ∷ bs) → ((k : ℕ) → marked m k ≡ f k) → ones m ≡ sum (length bs) 1 (λ k. bit (f k))
ones_kinds bs m f e h = ap ones e ∙ ones_bits (false ∷ bs) ∙ total_more bit false bs ∙ zero-add (total bit bs) ∙ sym (sum_list bit false bs 1 (λ k. bit (f k)) (λ k. ap bit (holds k)))
  where
    holds : (k : ℕ) → f (k + 1) ≡ get_or bs k false
    holds k = rw (add-one k) (sym (h (suc k)) ∙ ap (λ (n : ℕ). marked n (suc k)) e ∙ marked_bits (false ∷ bs) (suc k))

-- Of the numbers of a part of a list: those at its places, one after another.
pub part_ones : (l : List ℕ) (at n : ℕ) → at + n ≤ length l → sum_by ones (take n (drop at l)) ≡ sum n 0 (λ j. ones (get_or l (at + j) 0))
part_ones l at n h =
    let part = take n (drop at l) in
    let long : length part ≡ n = length-take-le n (drop at l) (omega (arith, length-drop at l)) in
    sym (is_sum_by (total ones) ones (total_none ones) (total_more ones) part)
    ∙ sym (sum_list ones 0 part 0 (λ j. ones (get_or part j 0)) (λ m. ap (λ (k : ℕ). ones (get_or part k 0)) (add-zero m)))
    ∙ ap (λ (m : ℕ). sum m 0 (λ j. ones (get_or part j 0))) long
    ∙ sum_same (λ j. ones (get_or part j 0)) (λ j. ones (get_or l (at + j) 0)) n 0
    (λ j a b. ap ones (get_or-take n (drop at l) j 0 (omega arith) ∙ get_or-drop at l j 0))
