-- `put_block` meets its contract: what is left of the entries begins with those of thing i, and of those with those of the kind. Assumes nothing.
use native.Mathlib.Omega.{arith}
use native.Mathlib.Nat.{sub-zero}
use Rattle.std.proofs.Common.{◌≡◌, ◌+◌, ◌-◌, get_or}
use Rattle.listing.specs.Marks.{kind_marked, block_of}
use Rattle.listing.proofs.Laws.Puts.{going_start, from_room, from_next, from_end}
use Rattle.listing.proofs.put.Writer.put_block.Invariants.{of}
use Rattle.listing.proofs.put.Writer.put_block.Goals as goal

pub loop-i-init : goal.loop-i-init
loop-i-init c = rw (sub-zero c.args.b.things) (going_start _ _)

pub loop-kind-init : goal.loop-kind-init
loop-kind-init c =
    let b = c.args.b in
    let e : b.kind + b.kinds - b.kind ≡ b.kinds = omega arith in
    rw e (going_start _ _)

pub put_kind-requires : goal.put_kind-requires
put_kind-requires c =
    let a = c.args in
    let m = a.marks.now in
    let each = kind_marked (get_or m.own c.loop-i.i 0) m.pairs a.b.things c.loop-i.i in
    let r = from_room (of m.own m.pairs (block_of a.b)) a.b.things c.loop-i.i c.loop-i-test.true c.loop-i.invariant c.requires.0 in (
      from_room each (a.b.kind + a.b.kinds) c.loop-kind.kind c.loop-kind-test.true c.loop-kind.invariant r,
      c.loop-i-test.true,
      c.requires.1.few,
      omega (arith, c.requires.1.among),
    )

pub loop-kind-preserved : goal.loop-kind-preserved
loop-kind-preserved c =
    let a = c.args in
    let m = a.marks.now in
    let each = kind_marked (get_or m.own c.loop-i.i 0) m.pairs a.b.things c.loop-i.i in
    from_next each (a.b.kind + a.b.kinds) c.loop-kind.kind c.loop-kind-test.true c.loop-kind.invariant c.put_kind.ensures

pub loop-i-preserved : goal.loop-i-preserved
loop-i-preserved c =
    let a = c.args in
    let m = a.marks.now in
    let each = kind_marked (get_or m.own c.loop-i.i 0) m.pairs a.b.things c.loop-i.i in
    from_next (of m.own m.pairs (block_of a.b)) a.b.things c.loop-i.i c.loop-i-test.true c.loop-i.invariant
    (from_end each (a.b.kind + a.b.kinds) c.loop-kind.kind c.loop-kind-test.false c.loop-kind.invariant)

pub returns : goal.returns
returns c =
    let a = c.args in
    let m = a.marks.now in
    from_end (of m.own m.pairs (block_of a.b)) a.b.things c.loop-i.i c.loop-i-test.false c.loop-i.invariant
