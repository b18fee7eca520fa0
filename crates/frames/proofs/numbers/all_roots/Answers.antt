-- The answer of `all` on the gateways is the rule's: each is a root's, or some is not.
use Prim.Native.Nat.{ℕ, ◌<◌}
use mathlib.Core.Path.{◌≡◌, sym, ◌∙◌}
use mathlib.Core.Bool.{Bool, true, false, true≢false}
use mathlib.Core.List.{List}
use native.Mathlib.Omega.{arith}
use borrow.Author.Rules.{rules}
use lib.ListN.{length}
use Rattle.std.specs.Bool.{MatchBool}
use Rattle.std.specs.List.{AllWithin, HoldsAt}
use Rattle.std.proofs.lemmas.Iterator.{cases_from_all, YieldsList-from_slice}
use Rattle.base.specs.Lists.{all_pass}
use Rattle.base.proofs.Laws.Decides.{decides_itself, decides_holds, decides_fails}
use Rattle.base.proofs.Laws.Each.{all_pass_decides}
use Rattle.frames.specs.Numbers.{is_root, all_roots}
use Rattle.frames.proofs.numbers.all_roots.Goals as goal

-- Either each number passes, or one doesn't.
passed : (f : ℕ → Bool) (xs : List ℕ) (r : Bool)
    → MatchBool r (AllWithin (λ x. f x ≡ true) xs 0 (length xs)) ((k : ℕ) × (k < length xs) × HoldsAt (λ x. f x ≡ false) xs k)
    → r ≡ all_pass f xs
passed f xs true h = sym (decides_holds (all_pass f xs) (all_pass_decides f (λ x. decides_itself (f x)) xs) (λ k b. h k 0 (omega arith) b))
passed f xs false h =
    sym
    (decides_fails (all_pass f xs) (all_pass_decides f (λ x. decides_itself (f x)) xs)
    (λ all. true≢false (sym (all h.0 h.1) ∙ h.2 0)))

pub returns : goal.returns
unfolding all_roots
returns c =
    let root = is_root c.args.parents.now in
    passed root c.args.gateways.now _
    (cases_from_all _ _ _ (λ x. root x ≡ true) (λ x. root x ≡ false) c.all.ensures.ran (YieldsList-from_slice c.args.gateways.now cc)
    (λ x q k. search rules) (λ x q k. search rules))
