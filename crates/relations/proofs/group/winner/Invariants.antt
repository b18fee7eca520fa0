-- No row before i is of the group and matches.
use Rattle.std.proofs.Common.{ℕ, Bool, List}
use lib.ListN.{get_or}
use Rattle.policy.specs.Model.{Row, no_row}
use Rattle.policy.specs.Views.{parent_in, rows_in, packet_of}
use Rattle.base.proofs.Laws.Firsts.{NoneBelow}
use Rattle.relations.specs.declared.group.Probe.{Probe}
use Rattle.relations.proofs.Laws.Groups.{candidate_at}
use Rattle.relations.proofs.group.winner.Given as goal

-- whether row i is of g's group and matches the probe
abbrev pub claims : List ℕ → List Row → ℕ → Probe → ℕ → Bool
claims parents rows g p = candidate_at (parent_in parents) (get_or rows g no_row) p.source p.destination (packet_of p.packet) rows

abbrev pub invariant-loop-i : goal.invariant-loop-i
invariant-loop-i l = NoneBelow (claims l.t.parents (rows_in l.t.heads l.t.bounds l.t.rows) l.g l.p) l.i
