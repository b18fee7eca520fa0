-- A line is judged as what it is: none, a frame of the kind that its first byte names, or a frame of no kind. Assumes nothing.
use mathlib.Core.Path.{◌≡◌, refl}
use native.Mathlib.Omega.{arith}
use Prim.Native.Nat.{◌-◌}
use lib.ListN.{length, take, drop}
use Rattle.std.specs.Prelude.{Result}
use Rattle.hexlines.specs.Lines.{bytes_of}
use Rattle.hexlines.proofs.Laws.Lines.{line_length_lem}
use Rattle.frames.specs.Kinds.{FrameName, of_entity, of_cap, of_floor, of_filter, of_row, describe}
use Rattle.frames.specs.declared.refusals.Reason.{Reason}
use Rattle.reader.specs.Views.{Takes, TakesLine}
use Rattle.reader.specs.declared.state.State.{State}
use Rattle.reader.proofs.Laws.Takings.{line_kept, takes_no_line, takes_kind, takes_no_kind}
use Rattle.reader.proofs.state.State.take.Goals as goal
use Rattle.reader.proofs.state.State.take.Goals.{After-u8_at}

pub returns-in_err-keep : goal.returns-in_err-keep
returns-in_err-keep c =
    takes_no_line c.args.self.now c.args.line.now c.is_line.result c.in_err-keep.field-0.0 c.is_line.ensures c.in_err-keep.ensures
    c.from_residual.result c.from_residual.ensures.1

pub slice_bounds-rest-count : goal.slice_bounds-rest-count
slice_bounds-rest-count c = line_length_lem _ (line_kept c.args.line.now c.is_line.result c.is_line.ensures c.in_ok-keep.ensures)

pub slice_bounds-rest-start : goal.slice_bounds-rest-start
slice_bounds-rest-start c = line_length_lem _ (line_kept c.args.line.now c.is_line.result c.is_line.ensures c.in_ok-keep.ensures)

pub u8_at-requires : goal.u8_at-requires
u8_at-requires c = omega (arith, line_length_lem _ (line_kept c.args.line.now c.is_line.result c.is_line.ensures c.in_ok-keep.ensures))

-- of this kind
own : (c : After-u8_at) (k : FrameName) → c.u8_at.result ≡ (describe k).byte → (result : Result Unit Reason) (q : State)
    → Takes c.args.self.now k (bytes_of (take (length c.args.line.now - 2) (drop 2 c.args.line.now))) result q
    → TakesLine c.args.self.now c.args.line.now result q
own c =
    takes_kind c.args.self.now c.args.line.now (line_kept c.args.line.now c.is_line.result c.is_line.ensures c.in_ok-keep.ensures)
    c.u8_at.result c.u8_at.ensures

pub returns-in-1 : goal.returns-in-1
returns-in-1 c = own (goal.at.returns-in-1 c).After-u8_at of_entity c.in-1.is c.take_entity.result c.take_entity.new.self c.take_entity.ensures

pub returns-in-2 : goal.returns-in-2
returns-in-2 c = own (goal.at.returns-in-2 c).After-u8_at of_cap c.in-2.is c.take_cap.result c.take_cap.new.self c.take_cap.ensures

pub returns-in-3 : goal.returns-in-3
returns-in-3 c = own (goal.at.returns-in-3 c).After-u8_at of_floor c.in-3.is c.take_floor.result c.take_floor.new.self c.take_floor.ensures

pub returns-in-4 : goal.returns-in-4
returns-in-4 c = own (goal.at.returns-in-4 c).After-u8_at of_filter c.in-4.is c.take_filter.result c.take_filter.new.self c.take_filter.ensures

pub returns-in-5 : goal.returns-in-5
returns-in-5 c = own (goal.at.returns-in-5 c).After-u8_at of_row c.in-5.is c.take_row.result c.take_row.new.self c.take_row.ensures

pub returns-in_default : goal.returns-in_default
returns-in_default c =
    let line = line_kept c.args.line.now c.is_line.result c.is_line.ensures c.in_ok-keep.ensures in
    (refl, λ p h. takes_no_kind c.args.self.now c.args.line.now line c.u8_at.result c.u8_at.ensures other p)
  where
    other : (k : FrameName) → c.u8_at.result ≡ (describe k).byte → ⊥
    other of_entity e = let h : c.u8_at.result ≡ 1 = e in omega arith
    other of_cap e = let h : c.u8_at.result ≡ 2 = e in omega arith
    other of_floor e = let h : c.u8_at.result ≡ 3 = e in omega arith
    other of_filter e = let h : c.u8_at.result ≡ 4 = e in omega arith
    other of_row e = let h : c.u8_at.result ≡ 5 = e in omega arith
