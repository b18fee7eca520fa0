-- Laws of runs of numbers, things of n numbers one after another: what was written is read at its place (`..-there`), and what
-- stands at another stays (`..-elsewhere`). Of a thing with any number of numbers, and of a selector, whose words give it back. Those of a table's
-- entities, filters and rows are in Lists.antt.
-- Assumes nothing.
use mathlib.Core.Path.{◌≡◌, refl, sym, ap, ◌∙◌}
use mathlib.Core.List.{List, [], ◌∷◌}
use Prim.Native.Nat.{ℕ, zero, suc, ◌+◌, ◌*◌, ◌≤◌, ◌<◌}
use native.Mathlib.Nat.{add-zero, add_assoc, mul-suc, mul-le-mul_left}
use native.Mathlib.Decide.{dec_lt}
use native.Mathlib.Omega.{arith}
use lib.ListN.{length, get_or}
use lib.Seq.{sets, sets-eq, take-length}
use borrow.Rule.Slice.PartMut.{put_mid}
use Rattle.std.proofs.lemmas.Slice.{put_mid-paste}
use lib.Arith.{digits_div, digits_mod}
use lib.Pow.{split}
use Rattle.base.proofs.Laws.Lists.{tabulate_same, tabulate_counted, get_d_sets_inside, get_d_sets_outside}
use Rattle.policy.specs.Limits.{field_count, word_count}
use Rattle.policy.specs.Model.{Selector, no_range}
use Rattle.policy.specs.Wellformed.{SelectorRule}
use Rattle.policy.specs.Words.{of_words, packed_range, port_size, protocol_size, words_of, selector_of_words}
use Rattle.policy.specs.Views.{numbers_at, range_in, selector_in}
use Rattle.policy.specs.Writes.{put_selector}
use Rattle.policy.proofs.Laws.Words.{five_ranges, unpacked_packed, packed_small}

-- ---- things of n numbers each

-- The numbers of an earlier thing come before those of a later one.
before : (n j k x y : ℕ) → j < k → x < n → n * j + x ≡ n * k + y → ⊥
before n j k x y h b e =
    let m : n * suc j ≤ n * k = mul-le-mul_left n (omega arith) in
    omega (arith, mul-suc n j)

-- Those of two things are apart.
pub apart : (n j k x y : ℕ) → (j ≡ k → ⊥) → x < n → y < n → n * j + x ≡ n * k + y → ⊥
apart n j k x y h a b e =
    elim (dec_lt j k) [
      | yes l ↦ before n j k x y l a e
      | no l ↦ elim (dec_lt k j) [ yes m ↦ before n k j y x m b (omega arith) | no m ↦ h (omega arith) ]
    ]

module _ (n : ℕ) (run : List ℕ) (i : ℕ) (vs : List ℕ) (all : length vs ≡ n) where
  pub numbers_there : n * i + n ≤ length run → numbers_at n (sets run (n * i) vs) i ≡ vs
  unfolding numbers_at
  numbers_there h =
      tabulate_counted (λ c. get_or (sets run (n * i) vs) (n * i + c) 0) n vs 0 all
      (λ c b. get_d_sets_inside run (n * i) vs c 0 (omega arith) (omega arith))

  pub numbers_elsewhere : (j : ℕ) → (j ≡ i → ⊥) → numbers_at n (sets run (n * i) vs) j ≡ numbers_at n run j
  unfolding numbers_at
  numbers_elsewhere j h =
      tabulate_same (λ c. get_or (sets run (n * i) vs) (n * j + c) 0) (λ c. get_or run (n * j + c) 0) n
      (λ c b. get_d_sets_outside run (n * i) vs (n * j + c) 0 (λ d a e. apart n j i c d h b (omega arith) e))

-- ---- a part that is copied to

-- What a part of a run holds after a copy stands there as if it were stored.
pub part_stored : (at k : ℕ) (run part vs : List ℕ) → part ≡ vs → k ≡ length vs → at + length vs ≤ length run → put_mid at k run part ≡ sets run at vs
part_stored at k run part vs e f h =
    rw (sets-eq vs run at h) (rw take-length at (put_mid-paste at k run part vs (length vs) e (sym f) refl))

-- ---- a selector

-- Its words give it back: the ports' bounds have room in one word, and the protocol's in another.
pub words_back : (s : Selector) → SelectorRule s → selector_of_words (words_of s) ≡ s
words_back (from ∷ to ∷ sport ∷ dport ∷ protocol ∷ []) rule =
    let o = rule.ordered in
    let f = rule.fits in
    let small = packed_small port_size dport (omega (arith, o.1.1.1.0, f.1.1.1.0)) f.1.1.1.0 in
    rw (
      split from.low 64,
      split from.high 64,
      split to.low 64,
      split to.high 64,
      digits_div (packed_range port_size sport) small,
      digits_mod (packed_range port_size sport) small,
      unpacked_packed port_size sport f.1.1.0,
      unpacked_packed port_size dport f.1.1.1.0,
      unpacked_packed protocol_size protocol (omega (arith, f.1.1.1.1.0)),
    )
words_back [] rule = absurd rule.fits
words_back (a ∷ []) rule = absurd rule.fits.1
words_back (a ∷ b ∷ []) rule = absurd rule.fits.1.1
words_back (a ∷ b ∷ c ∷ []) rule = absurd rule.fits.1.1.1
words_back (a ∷ b ∷ c ∷ d ∷ []) rule = absurd rule.fits.1.1.1.1
words_back (a ∷ b ∷ c ∷ d ∷ e ∷ x ∷ s) rule = absurd rule.fits.1.1.1.1.1

module _ (bounds : List ℕ) (k : ℕ) (s : Selector) (rule : SelectorRule s) where
  pub selector_there : word_count * k + word_count ≤ length bounds → selector_in (put_selector bounds k s) k ≡ s
  unfolding range_in
  selector_there h =
      tabulate_counted (λ f. get_or (selector_of_words (numbers_at word_count (put_selector bounds k s) k)) f no_range) field_count s no_range (five_ranges rule)
      (λ f b. ap (λ ws. get_or (selector_of_words ws) f no_range) (numbers_there word_count bounds k (words_of s) refl h) ∙ ap (λ (q : Selector). get_or q f no_range) (words_back s rule))

  pub selector_elsewhere : (j : ℕ) → (j ≡ k → ⊥) → selector_in (put_selector bounds k s) j ≡ selector_in bounds j
  unfolding range_in
  selector_elsewhere j h = rw (numbers_elsewhere word_count bounds k (words_of s) refl j h)

-- ---- a range

-- That of an address, from its four words.
pub address_range : (bounds : List ℕ) (k f : ℕ) → f < 2 →
    record {
      low = of_words (get_or bounds (word_count * k + 4 * f) 0) (get_or bounds (word_count * k + 4 * f + 1) 0);
      high = of_words (get_or bounds (word_count * k + 4 * f + 2) 0) (get_or bounds (word_count * k + 4 * f + 3) 0);
    }
    ≡ range_in bounds k f
unfolding range_in numbers_at
address_range bounds k zero h = rw (add-zero (word_count * k))
address_range bounds k (suc zero) h = rw (add_assoc (word_count * k) 4 1, add_assoc (word_count * k) 4 2, add_assoc (word_count * k) 4 3)
address_range bounds k (suc (suc f)) h = absurd (omega arith)
