-- Each range is stored after those before it.
use mathlib.Core.Path.{◌≡◌, ap, ◌∙◌}
use mathlib.Core.List.{◌++◌, append_assoc, append-nil}
use native.Mathlib.Omega.{arith}
use lib.ListN.{length-append}
use lib.Seq.{sets}
use Rattle.policy.specs.Views.{range_of, selector_of}
use Rattle.base.proofs.Laws.Lists.{sets_after}
use Rattle.frames.specs.Parts.{bytes_of_range, bytes_of_box, box_of}
use Rattle.frames.proofs.Laws.Writing.{length_bytes_of_range}
use Rattle.frames.proofs.parts.put_selector.Goals as goal

pub returns : goal.returns
returns c =
    let a = c.args in
    let from = bytes_of_range a.address (range_of a.s.source_address) in
    let to = bytes_of_range a.address (range_of a.s.destination_address) in
    let from_port = bytes_of_range 2 (range_of a.s.source_port) in
    let to_port = bytes_of_range 2 (range_of a.s.destination_port) in
    let protocol = bytes_of_range 1 (range_of a.s.protocol) in
    let p = length_bytes_of_range a.address (range_of a.s.source_address) in
    let q = length_bytes_of_range a.address (range_of a.s.destination_address) in
    let lead = length-append from to in
    let ports = length-append (from ++ to) from_port in
    let last = length-append ((from ++ to) ++ from_port) to_port in
    let two = sets_after a.bytes.now a.at from to c.put_range.ensures c.put_range-2.ensures (omega arith) in
    let three = sets_after a.bytes.now a.at (from ++ to) from_port two c.put_range-3.ensures (omega arith) in
    let four = sets_after a.bytes.now a.at ((from ++ to) ++ from_port) to_port three c.put_range-4.ensures (omega arith) in
    let five = sets_after a.bytes.now a.at (((from ++ to) ++ from_port) ++ to_port) protocol four c.put_range-5.ensures (omega arith) in
    let whole : (((from ++ to) ++ from_port) ++ to_port) ++ protocol ≡ bytes_of_box (box_of a.address) (selector_of a.s) =
    simp (append_assoc, append-nil) in
    five ∙ ap (sets a.bytes.now a.at) whole
