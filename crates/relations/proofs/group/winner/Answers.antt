-- `winner` meets its contract: the test that is made at i is that of row i. Assumes nothing.
use native.Mathlib.Omega.{arith}
use Rattle.std.proofs.Common.{ℕ, ◌≡◌, ◌<◌, Bool, false, ◌&&◌, List}
use mathlib.Core.Path.{sym, ◌∙◌}
use Rattle.policy.specs.Model.{Row}
use Rattle.policy.specs.Views.{parent_in, row_in, rows_in, packet_of}
use Rattle.policy.proofs.Laws.Lists.{length_rows, row_of_rows}
use Rattle.base.proofs.Laws.Firsts.{below_more}
use Rattle.relations.specs.declared.group.Probe.{Probe}
use Rattle.relations.specs.Groups.{winner_in, same_group, matches}
use Rattle.relations.proofs.Laws.Groups.{candidate_tested, winner_first, winner_absent}
use Rattle.relations.proofs.group.winner.Invariants.{claims}
use Rattle.relations.proofs.group.winner.Goals as goal

module _ (parents heads bounds : List ℕ) (n g : ℕ) (p : Probe) where
  -- the tests of rows q and r, as they were taken out at g and i
  tested : (i : ℕ) → g < n → i < n → {q r : Row} → q ≡ row_in heads bounds g → r ≡ row_in heads bounds i → {group match : Bool}
      → group ≡ same_group r q → match ≡ matches (parent_in parents) r p.source p.destination (packet_of p.packet)
      → claims parents (rows_in heads bounds n) g p i ≡ (group && match)
  tested i h k named row =
      candidate_tested _ _ _ _ (row_of_rows heads bounds n i k ∙ sym row) (row_of_rows heads bounds n g h ∙ sym named)

pub returns-then-same_group-matches : goal.returns-then-same_group-matches
unfolding winner_in
returns-then-same_group-matches c =
    let t = c.args.t.now in
    let n = length_rows t.heads t.bounds t.rows in
    let h = c.loop-i-test.true in
    sym
    (winner_first _ _ _ _ _ (rows_in t.heads t.bounds t.rows) c.loop-i.i
    (record {
      inside = omega arith;
      passes =
          tested t.parents t.heads t.bounds t.rows c.args.g c.args.p c.loop-i.i c.requires.1 h c.row-named.ensures c.row-r.ensures c.same_group.ensures
          c.matches.ensures ∙ c.if-same_group-matches.true;
      first = c.loop-i.invariant;
    }))

pub loop-i-preserved : goal.loop-i-preserved
loop-i-preserved c =
    let t = c.args.t.now in
    below_more (λ j. claims t.parents (rows_in t.heads t.bounds t.rows) c.args.g c.args.p j ≡ false) c.loop-i.i c.loop-i.invariant
    (tested t.parents t.heads t.bounds t.rows c.args.g c.args.p c.loop-i.i c.requires.1 c.loop-i-test.true c.row-named.ensures c.row-r.ensures
    c.same_group.ensures c.matches.ensures ∙ c.if-same_group-matches.false)

pub returns : goal.returns
unfolding winner_in
returns c =
    let t = c.args.t.now in
    let n = length_rows t.heads t.bounds t.rows in
    let h = c.loop-i-test.false in
    sym (winner_absent _ _ _ _ _ (rows_in t.heads t.bounds t.rows) (λ j b. c.loop-i.invariant j (omega arith)))
