-- Those counted and those of what is left are all, and for each bit taken away at most two were counted. The measure is how many bits are left.
use Prim.Native.Nat.{◌+◌, ◌*◌, ◌≤◌}
use mathlib.Core.Path.{◌≡◌}
use lib.ListN.{length}
use Rattle.prefixes.specs.Bytes.{prefixes_in, Held}
use Rattle.prefixes.proofs.count.Given as goal

abbrev pub invariant-loop-n : goal.invariant-loop-n
invariant-loop-n l =
    record {
      held : Held l.rest;
      all : l.n + length (prefixes_in l.rest) ≡ length (prefixes_in l.fn.a);
      few : l.n + 2 * l.rest.bits ≤ 2 * l.fn.a.bits;
    }

abbrev pub decreases-loop-n : goal.decreases-loop-n
decreases-loop-n l = l.rest.bits
