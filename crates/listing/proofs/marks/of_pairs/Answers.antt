-- `of_pairs` meets its contract: the kinds that are stored at j are those of rows i and j. Assumes nothing.
use native.Mathlib.Omega.{arith}
use Rattle.std.proofs.Common.{◌≡◌, ◌+◌, ◌*◌, [], ◌∷◌, set, refl, sym, ap, ◌∙◌}
use lib.Seq.{sets}
use Rattle.base.specs.Lists.{tabulate}
use Rattle.base.specs.Bits.{bits_of}
use Rattle.base.proofs.Laws.Lists.{length_tabulate, tabulate_grown, sets_after}
use Rattle.policy.specs.Limits.{most_rows}
use Rattle.policy.specs.Views.{parent_in}
use Rattle.kinds.specs.Tests.{pair_of}
use Rattle.kinds.specs.Kinds.{pair_tests}
use Rattle.listing.specs.Marks.{pair_marks}
use Rattle.listing.proofs.marks.of_pairs.Goals as goal

pub loop-j-preserved : goal.loop-j-preserved
loop-j-preserved c =
    let t = c.args.t.now in
    let f = pair_marks t.parents t.heads t.bounds c.args.roots.now c.args.i in
    let n = length_tabulate f c.loop-j.j in
    let e : c.of_pair.result ≡ f c.loop-j.j =
    c.of_pair.ensures
    ∙ (λ w. bits_of (pair_tests (pair_of (parent_in t.parents) c.args.i c.loop-j.j (c.placed_at-p.ensures w) (c.placed_at.ensures w)))) in
    record {
      stored =
          sets_after c.args.pairs.now (most_rows * c.args.i) (tabulate f c.loop-j.j) (f c.loop-j.j ∷ []) c.loop-j.invariant.stored
          (ap (set c.loop-j.pairs (most_rows * c.args.i + c.loop-j.j)) e) (omega arith)
          ∙ ap (sets c.args.pairs.now (most_rows * c.args.i)) (sym (tabulate_grown f f c.loop-j.j (f c.loop-j.j) (λ k b. refl) refl));
    }
