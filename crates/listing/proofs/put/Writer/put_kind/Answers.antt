-- `put_kind` meets its contract: what is left of the entries with each thing begins with that of thing j. Assumes nothing.
use native.Mathlib.Nat.{sub-zero}
use Rattle.std.proofs.Common.{ℕ, length, List, subst, get_or, sym, ◌∙◌}
use Rattle.base.specs.Bits.{marked}
use Rattle.kinds.specs.Entries.{Entry}
use Rattle.kinds.specs.Kinds.{no_second}
use Rattle.listing.specs.Bytes.{Appends}
use Rattle.listing.specs.Marks.{pairs_marked, listed_if}
use Rattle.listing.proofs.Laws.Puts.{room_first, appends_then, appends_listed, appends_unlisted, appends_room, going_start, from_room, from_next, from_end}
use Rattle.listing.specs.declared.marks.Marks.{Marks}
use Rattle.listing.proofs.put.Writer.put_kind.Invariants.{at}
use Rattle.listing.proofs.put.Writer.put_kind.Goals as goal
use Rattle.listing.proofs.put.Writer.put_kind.Goals.{After-has_alone, then-has_pair, else-has_pair}

pub loop-j-init : goal.loop-j-init
loop-j-init c = rw (sub-zero c.args.things) (going_start _ _)

-- the entries with each thing, and then the thing's own
abbrev each : Marks → ℕ → ℕ → ℕ → List Entry
each m things i kind = pairs_marked m.pairs things i kind

abbrev alone : Marks → ℕ → ℕ → List Entry
alone m i kind = listed_if (marked (get_or m.own i 0) kind) i kind no_second

pub put-requires : goal.put-requires
put-requires c =
    let a = c.args in
    let m = a.marks.now in
    let r = room_first (length a.self.now.out.now) a.self.now.n (each m a.things a.i a.kind) (alone m a.i a.kind) c.requires.0 in
    let s = from_room (at m.pairs a.i a.kind) a.things c.loop-j.j c.loop-j-test.true c.loop-j.invariant r in
    rw (sym c.has_pair.ensures ∙ c.if-has_pair.true) at s

pub loop-j-preserved : goal.loop-j-preserved
loop-j-preserved c =
    let a = c.args in
    from_next (at a.marks.now.pairs a.i a.kind) a.things c.loop-j.j c.loop-j-test.true c.loop-j.invariant
    (elim c.if-has_pair.branch [
      | then-has_pair w ↦
          subst (λ v. Appends c.loop-j.self v (at a.marks.now.pairs a.i a.kind c.loop-j.j)) (sym w.self-is)
          (appends_listed (sym c.has_pair.ensures ∙ w.if-has_pair.true) w.put.ensures)
      | else-has_pair w ↦
          subst (λ v. Appends c.loop-j.self v (at a.marks.now.pairs a.i a.kind c.loop-j.j)) (sym w.self-is)
          (appends_unlisted c.loop-j.self _ _ _ (sym c.has_pair.ensures ∙ w.if-has_pair.false))
    ])

-- those with each thing are written
module _ (c : After-has_alone) where
  written : Appends c.args.self.now c.loop-j.self (each c.args.marks.now c.args.things c.args.i c.args.kind)
  written = let a = c.args in from_end (at a.marks.now.pairs a.i a.kind) a.things c.loop-j.j c.loop-j-test.false c.loop-j.invariant

pub put-requires-then-has_alone : goal.put-requires-then-has_alone
put-requires-then-has_alone c =
    let a = c.args in
    let w = written (goal.at.put-requires-then-has_alone c).After-has_alone in
    rw (sym c.has_alone.ensures ∙ c.if-has_alone.true) at (appends_room w (alone a.marks.now a.i a.kind) c.requires.0)

pub returns-then-has_alone : goal.returns-then-has_alone
returns-then-has_alone c =
    appends_then (written (goal.at.returns-then-has_alone c).After-has_alone)
    (appends_listed (sym c.has_alone.ensures ∙ c.if-has_alone.true) c.put-then-has_alone.ensures)

pub returns-else-has_alone : goal.returns-else-has_alone
returns-else-has_alone c =
    appends_then (written (goal.at.returns-else-has_alone c).After-has_alone)
    (appends_unlisted c.loop-j.self _ _ _ (sym c.has_alone.ensures ∙ c.if-has_alone.false))
