-- `has_more` meets its contract: the highest is not at most the lowest. Assumes nothing.
use borrow.Author.Tests.{lt-ltb, le-ltb, le-leb, lt-leb}
use native.Mathlib.Decide.{dec_lt}
use native.Mathlib.Omega.{arith}
use Prim.Native.Nat.{ℕ}
use mathlib.Core.Path.{◌≡◌, ap, ◌∙◌}
use mathlib.Core.Bool.{not}
use lib.Dec.{ltb, leb}
use Rattle.policy.specs.Views.{value}
use Rattle.prefixes.proofs.has_more.Goals as goal

not_at_most : (a b : ℕ) → not (leb b a) ≡ ltb a b
not_at_most a b = elim (dec_lt a b) [
  | yes l ↦ rw (lt-leb b a l, lt-ltb a b l)
  | no l ↦ rw (le-leb b a (omega arith), le-ltb a b (omega arith))
]

pub returns : goal.returns
returns c = let r = c.args.r in ap not c.at_most.ensures ∙ not_at_most (value r.low) (value r.high)
