-- x is not at the places that were passed.
use Rattle.std.proofs.Common.{◌≡◌, drop}
use Rattle.base.specs.Lists.{among}
use Rattle.kinds.proofs.roots.among.Given as goal

abbrev pub invariant-loop-root : goal.invariant-loop-root
invariant-loop-root l = among l.x l.at ≡ among l.x (drop l.root-index l.at)
