-- The first k are the bytes from place `at` on.
use mathlib.Core.Path.{◌≡◌}
use lib.ListN.{length, take, drop}
use Rattle.hexlines.specs.Lines.{bytes_of}
use Rattle.policy.specs.Limits.{most_gateways}
use Rattle.frames.proofs.row.gateways.Given as goal

abbrev pub invariant-loop-k : goal.invariant-loop-k
invariant-loop-k l = (length l.g ≡ most_gateways) × (take l.k l.g ≡ take l.k (drop l.at (bytes_of l.part)))
