-- `strike` meets its contract: the lines that are kept are the struck text's. Assumes nothing.
use borrow.Author.Rules.{rules}
use native.Mathlib.Omega.{arith}
use Rattle.std.proofs.Common.{ℕ, ◌≡◌, ◌+◌, ◌≤◌, List, [], ◌∷◌, length, length-append, append_assoc, ◌++◌, refl, ap, subst, sym, ◌∙◌}
use Rattle.std.proofs.lemmas.Iterator.{YieldsList-from_map}
use Rattle.std.proofs.lemmas.Iterator.Consumers.{YieldsList-from_first, YieldsList-at, sum_by_from_yields_List, fits_by_from_yields_list}
use Rattle.base.proofs.Laws.Outputs.{writes_not, writes_stored}
use Rattle.base.proofs.Laws.Copying.{Copying, copying_start, copying_more, copying_end}
use Rattle.policy.specs.Model.{lines_before}
use Rattle.policy.specs.Views.{table_of}
use Rattle.reader.specs.Lines.{line_feed, lines_of, text_of}
use Rattle.reader.proofs.Laws.Wellformed.{accepted_wellformed}
use Rattle.striking.specs.Texts.{struck_text}
use Rattle.striking.specs.Lines.{keeps, lines_kept}
use Rattle.striking.specs.declared.kept.KeptLines.{KeptLines}
use Rattle.verdicts.proofs.Laws.Lent.{counted_lent}
use Rattle.striking.proofs.Laws.Bytes.{text_long, feed_within, line_stored, struck_of_lines, struck_shorter}
use Rattle.striking.proofs.strike.Goals as goal
use Rattle.striking.proofs.strike.Goals.{After-map, After-sum-n, In-Some}

abbrev left : KeptLines → List (List ℕ)
left k = lines_kept (keeps k.dead.now k.others) k.place (lines_of k.left.unread.now)

pub dead_rows-dead-requires : goal.dead_rows-dead-requires
dead_rows-dead-requires c = (c.requires.0, accepted_wellformed _ _ c.requires.1)

module _ (c : After-map) where
  abbrev whole : List ℕ
  whole = struck_text c.args.text.now (table_of c.args.t.now)

  before : c.lines_before-others.result ≡ lines_before 1 (table_of c.args.t.now)
  before =
      let n = counted_lent c.args.t.now c.requires.0 (accepted_wellformed _ _ c.requires.1) in
      omega (arith, c.lines_before-others.ensures, n.entities, n.caps, n.filters)

  struck : text_of (lines_kept (keeps c.dead_rows-dead.result c.lines_before-others.result) 0 (lines_of c.args.text.now)) ≡ whole
  struck =
      ap (λ (n : ℕ). text_of (lines_kept (keeps c.dead_rows-dead.result n) 0 (lines_of c.args.text.now))) before
      ∙ struck_of_lines c.args.text.now (table_of c.args.t.now) c.requires.1 c.dead_rows-dead.result c.dead_rows-dead.ensures

-- how long the lines are, with their line feeds
abbrev bytes : List ℕ → ℕ
bytes l = length l + 1

pub sum-n-requires-clause-fits : goal.sum-n-requires-clause-fits
sum-n-requires-clause-fits c =
    let s = ap length (ap text_of c.of.ensures ∙ struck c) in
    let n = text_long (left c.of.result) in
    let m = struck_shorter c.args.text.now (table_of c.args.t.now) c.requires.1 in
    fits_by_from_yields_list bytes (left c.of.result) _ _
    (YieldsList-from_map _ bytes (YieldsList-at c.map.ensures.source (YieldsList-from_first (λ x. x.now) left _ refl)) c.map.ensures.closure
    (λ x r q k. search rules))
    (omega arith)

long : (c : After-sum-n) → c.sum-n.result ≡ length (whole (goal.at.After-sum-n c).After-map)
long c =
    let m = (goal.at.After-sum-n c).After-map in
    sum_by_from_yields_List bytes (left c.of.result) _ _ c.sum-n.ensures.ran
    (YieldsList-from_map _ bytes (YieldsList-at c.map.ensures.source (YieldsList-from_first (λ x. x.now) left _ refl)) c.map.ensures.closure
    (λ x r q k. search rules))
    ∙ sym (text_long (left c.of.result))
    ∙ ap length (ap text_of c.of.ensures ∙ struck m)

pub returns-then-out-n : goal.returns-then-out-n
returns-then-out-n c =
    let n = long (goal.at.returns-then-out-n c).After-sum-n in
    let h = c.if-out-n.true in
    writes_not _ c.args.out.now (omega arith)

pub loop-line-init : goal.loop-line-init
loop-line-init c =
    let m = (goal.at.loop-line-init c).After-map in
    let e = ap left c.into_iter-line-iterator.ensures.into_iter_gives ∙ c.of-line-items.ensures in
    subst (Copying c.args.out.now c.args.out.now 0 (whole m)) (sym (ap text_of e ∙ struck m)) (copying_start c.args.out.now (whole m))

-- the line that comes next is still to be written, and there is room for it
module _ (c : In-Some) where
  abbrev line : List ℕ
  line = c.in-Some.line.now

  abbrev result : List ℕ
  result = struck_text c.args.text.now (table_of c.args.t.now)

  next : Copying c.args.out.now c.loop-line.out c.loop-line.start result ((line ++ (line_feed ∷ [])) ++ text_of (left c.next.new.self))
  next =
      subst (Copying c.args.out.now c.loop-line.out c.loop-line.start result)
      (ap text_of c.in-Some.ensures.steps ∙ sym (append_assoc line (line_feed ∷ []) (text_of (left c.next.new.self)))) c.loop-line.invariant

  room : c.loop-line.start + length line + 1 ≤ length c.loop-line.out
  room =
      let n = long (goal.at.In-Some c).After-sum-n in
      let h = c.if-out-n.false in
      let k = next.count in
      let e = ap length next.rest in
      omega (
        arith,
        length-append next.done ((line ++ (line_feed ∷ [])) ++ text_of (left c.next.new.self)),
        length-append (line ++ (line_feed ∷ [])) (text_of (left c.next.new.self)),
        length-append line (line_feed ∷ []),
      )

pub overflow_add-end : goal.overflow_add-end
overflow_add-end c = let r = room (goal.at.overflow_add-end c).In-Some in omega arith

pub put_bytes-requires : goal.put_bytes-requires
put_bytes-requires c = let r = room (goal.at.put_bytes-requires c).In-Some in omega arith

pub bounds-out-end : goal.bounds-out-end
bounds-out-end c =
    let s = (goal.at.bounds-out-end c).In-Some in
    let r = room s in
    feed_within c.loop-line.out c.put_bytes.new.bytes (line s) c.loop-line.start c.put_bytes.ensures r

pub overflow_add-start : goal.overflow_add-start
overflow_add-start c = let r = room (goal.at.overflow_add-start c).In-Some in omega arith

pub loop-line-preserved : goal.loop-line-preserved
loop-line-preserved c =
    let s = (goal.at.loop-line-preserved c).In-Some in
    let r = room s in
    copying_more (line s ++ (line_feed ∷ [])) (next s)
    (line_stored c.loop-line.out c.put_bytes.new.bytes (line s) c.loop-line.start c.put_bytes.ensures r)
    (omega (arith, length-append (line s) (line_feed ∷ [])))

pub returns : goal.returns
returns c =
    let m = (goal.at.returns c).After-map in
    let n = long (goal.at.returns c).After-sum-n in
    let h = c.if-out-n.false in
    writes_stored _ c.args.out.now (omega arith) _ n
    (copying_end
    (subst (Copying c.args.out.now c.loop-line.out c.loop-line.start (whole m)) (ap text_of c.in-None.ensures.steps.0) c.loop-line.invariant))
