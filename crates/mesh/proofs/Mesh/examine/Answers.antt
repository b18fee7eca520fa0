-- `examine` meets its contract: all fields have their sets, and the first free cell of all, if there is one, tells the answer.
use Rattle.std.proofs.Common.{sym, ap, ◌∙◌, arith, length-set}
use Rattle.covers.specs.Least.{found}
use Rattle.mesh.proofs.Laws.Filled.{cuts_fit}
use Rattle.mesh.proofs.Laws.Meshed.{asked_field, ready_next, ready_all, all_lowest, all_cells, answer_none, answer_found}
use Rattle.mesh.proofs.Mesh.examine.Goals as goal

pub overflow_cast-hi : goal.overflow_cast-hi
overflow_cast-hi c =
    let n = c.fill.ensures.counted in
    omega (arith, cuts_fit _ _ (asked_field _ _ c.requires c.loop-f-test.true))

pub loop-f-preserved : goal.loop-f-preserved
loop-f-preserved c =
    let l = c.loop-f in record {
      rows = length-set _ _ _ ∙ l.invariant.rows;
      fields = length-set _ _ _ ∙ l.invariant.fields;
      ready = ready_next c.args.self.now l.sets l.hi _ _ l.f c.fill.result (omega arith) (omega arith) l.invariant.ready c.fill.ensures;
    }

pub invariant_of-all : goal.invariant_of-all
invariant_of-all c =
    let l = c.loop-f in
    record { ordered = all_cells c.args.self.now c.requires l.sets l.hi (ready_all _ _ _ l.f l.auto.f-end c.loop-f-test.false l.invariant.ready) }

pub returns-in_err-c : goal.returns-in_err-c
returns-in_err-c c =
    let l = c.loop-f in
    rw c.from_residual.ensures
    (sym
    (answer_none c.args.self.now c.requires l.sets l.hi (ready_all _ _ _ l.f l.auto.f-end c.loop-f-test.false l.invariant.ready)
    _ all_lowest c.least.result c.least.ensures c.in_err-c.was))

pub returns : goal.returns
returns c =
    let l = c.loop-f in
    ap found c.packet.ensures
    ∙ sym
    (answer_found c.args.self.now c.requires l.sets l.hi (ready_all _ _ _ l.f l.auto.f-end c.loop-f-test.false l.invariant.ready)
    _ all_lowest c.least.result c.least.ensures c.in_ok-c.c c.in_ok-c.was)
