-- What `any` answers on the numbers below a bound.
-- Assumes nothing.
use Prim.Native.Nat.{ℕ, zero, suc, ◌+◌}
use mathlib.Core.Path.{◌≡◌, refl, sym, ap, ◌∙◌}
use mathlib.Core.Bool.{Bool, ◌||◌, or-false, or_assoc}
use native.Mathlib.Omega.{arith}
use native.Mathlib.Nat.{add-zero}
use denote.Param.Members.{Mut}
use Rattle.std.specs.declared.ops.Range.{Range}
use Rattle.std.specs.Fn.{Called}
use Rattle.std.specs.Iterator.{ChecksAny}
use Rattle.std.specs.List.{list_any, range_with_len}
use Rattle.std.proofs.iter.Yields.{nat_range_steps}
use Rattle.std.proofs.lemmas.Iterator.{YieldsList-from_range}
use Rattle.std.proofs.lemmas.Iterator.Search.{any_from_yields_List}
use Rattle.base.specs.Lists.{some}

any_last : (f : ℕ → Bool) (a n : ℕ) → list_any f (range_with_len a (suc n)) ≡ (list_any f (range_with_len a n) || f (a + n))
any_last f a zero = rw (add-zero, or-false (f a))
any_last f a (suc n) =
    let e : a + 1 + n ≡ a + suc n = omega arith in
    ap (λ t. f a || t) (any_last f (a + 1) n ∙ ap (λ k. list_any f (range_with_len (a + 1) n) || f k) e)
    ∙ sym (or_assoc (f a) (list_any f (range_with_len (a + 1) n)) (f (a + suc n)))

some_any : (f : ℕ → Bool) (n : ℕ) → list_any f (range_with_len 0 n) ≡ some n f
unfolding some
some_any f zero = refl
some_any f (suc n) =
    let e : 0 + n ≡ n = omega arith in
    any_last f 0 n ∙ ap (λ k. list_any f (range_with_len 0 n) || f k) e ∙ ap (λ t. t || f n) (some_any f n)

pub some_from_any : {F : Type 0} {g : Mut F (ℕ × Unit {0}) Bool} (test : ℕ → Bool) (n : ℕ) (u : Range ℕ) (f : F) (r : Bool)
    → ChecksAny nat_range_steps g (record { start = 0; end = n }) f r u
    → ((x : ℕ) (b : Bool) (q : F) → Called g f (x, tt) b q → (q ≡ f) × (b ≡ test x)) → r ≡ some n test
some_from_any test n u f r ran calls =
    any_from_yields_List test u f r ran (YieldsList-from_range 0 n n refl (omega arith)) calls ∙ some_any test n
