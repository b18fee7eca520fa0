-- `count_row` meets its contract: the sum is that of the row's places. Assumes nothing.
use native.Mathlib.Omega.{arith}
use Rattle.std.proofs.Common.{ℕ, rules, ◌≡◌, ◌*◌, ◌+◌, ◌-◌, List, get_or, take, drop, ap, ◌∙◌}
use Rattle.std.proofs.lemmas.Iterator.{YieldsList-from_slice, YieldsList-from_map}
use Rattle.std.proofs.lemmas.Iterator.Consumers.{sum_by_from_yields_List, fits_by_from_yields_list}
use lib.Count.{ones}
use Rattle.policy.specs.Limits.{most_rows}
use Rattle.kinds.specs.Entries.{sum}
use Rattle.listing.specs.Marks.{mark_at}
use Rattle.listing.specs.declared.marks.Marks.{Marks}
use Rattle.listing.proofs.Laws.Ones.{part_ones}
use Rattle.listing.proofs.marks.Marks.count_row.Goals as goal
use Rattle.listing.proofs.marks.Marks.count_row.Goals.{After-map, After-sum-paired}

-- the numbers of row i's places
abbrev places : Marks → ℕ → ℕ → List ℕ
places m rows i = take rows (drop (most_rows * i) m.pairs)

lent : (c : After-map) → c.map.result.iter.rest.now ≡ places c.args.self.now c.args.rows c.args.i
lent c =
    let a = c.args in
    let e : most_rows * a.i + a.rows - most_rows * a.i ≡ a.rows = omega arith in
    ap (λ i. i.rest.now) c.map.ensures.source ∙ c.iter.ensures.rest ∙ ap (λ (n : ℕ). take n (drop (most_rows * a.i) a.self.now.pairs)) e

pub sum-paired-requires-clause-fits : goal.sum-paired-requires-clause-fits
sum-paired-requires-clause-fits c =
    let a = c.args in
    let row = places a.self.now a.rows a.i in
    let e = part_ones a.self.now.pairs (most_rows * a.i) a.rows (omega arith) in
    fits_by_from_yields_list ones row _ _
    (YieldsList-from_map _ ones (YieldsList-from_slice row (lent c)) c.map.ensures.closure (λ x r q k. search rules)) (omega arith)

paired : (c : After-sum-paired) → c.sum-paired.result ≡ sum c.args.rows 0 (λ j. ones (mark_at c.args.self.now.pairs c.args.i j))
paired c =
    let a = c.args in
    let row = places a.self.now a.rows a.i in
    sum_by_from_yields_List ones row _ _ c.sum-paired.ensures.ran
    (YieldsList-from_map _ ones (YieldsList-from_slice row (lent (goal.at.After-sum-paired c).After-map)) c.map.ensures.closure
    (λ x r q k. search rules))
    ∙ part_ones a.self.now.pairs (most_rows * a.i) a.rows (omega arith)

pub overflow_add-result : goal.overflow_add-result
overflow_add-result c = let e = paired (goal.at.overflow_add-result c).After-sum-paired in omega arith

pub returns : goal.returns
returns c = ap (λ (n : ℕ). ones (get_or c.args.self.now.own c.args.i 0) + n) (paired (goal.at.returns c).After-sum-paired)
