-- Kind, numbers and coefficients are stored, after them the box, the number of gateways and the gateways.
use Prim.Native.Nat.{ℕ, ◌+◌, ◌≤◌}
use mathlib.Core.Path.{◌≡◌, refl, ap, ◌∙◌}
use mathlib.Core.List.{List, [], ◌∷◌, ◌++◌, append_assoc}
use native.Mathlib.Omega.{arith}
use lib.ListN.{length, take, drop, length-append}
use lib.Seq.{sets, sets-eq, take-append_seam}
use Rattle.policy.specs.Views.{row_of}
use Rattle.base.proofs.Laws.Lists.{sets_after}
use Rattle.base.proofs.Laws.Members.{take_own}
use Rattle.frames.specs.Parts.{bytes_of_box, box_of}
use Rattle.frames.specs.Rows.{bytes_of_row}
use Rattle.frames.proofs.Laws.Writing.{length_bytes_of_box, length_bytes_of_row}
use Rattle.frames.proofs.row.write.Goals as goal

-- The first of what was stored.
first_stored : (l vs : List ℕ) → length vs ≤ length l → take (length vs) (sets l 0 vs) ≡ vs
first_stored l vs h = ap (take (length vs)) (sets-eq vs l 0 (omega arith)) ∙ take-append_seam vs (drop (0 + length vs) l)

pub returns : goal.returns
returns c =
    let a = c.args in
    let r = row_of a.r in
    let ws = box_of a.address in
    let head = a.kind ∷ r.holder ∷ r.source ∷ r.destination ∷ r.technology ∷ r.coefficients in
    let box = bytes_of_box ws r.selector in
    let all = a.kind ∷ bytes_of_row ws r in
    let n = c.gateway_count-n.result in
    let gateways = take n a.r.gateways in
    let own : gateways ≡ r.gateways = ap (λ (k : ℕ). take k a.r.gateways) c.gateway_count-n.ensures.0 ∙ take_own a.r.count a.r.gateways in
    let long = length_bytes_of_box ws r.selector refl in
    let lead = length-append head box in
    let count = length-append (head ++ box) (n ∷ []) in
    let place = c.count_place-at.ensures in
    let two = sets_after a.bytes.now 0 head box c.put_bytes.ensures c.put_selector.ensures refl in
    let three = sets_after a.bytes.now 0 (head ++ box) (n ∷ []) {k = 1 + c.count_place-at.result} two refl (omega arith) in
    let four = sets_after a.bytes.now 0 ((head ++ box) ++ (n ∷ [])) gateways three c.put_bytes-2.ensures (omega arith) in
    let whole : ((head ++ box) ++ (n ∷ [])) ++ gateways ≡ all =
    append_assoc (head ++ box) (n ∷ []) gateways
    ∙ append_assoc head box (n ∷ gateways)
    ∙ (λ i. head ++ (box ++ (c.gateway_count-n.ensures.0 i ∷ own i))) in
    let size : 1 + c.count_place-at.result + 1 + n ≡ length all =
    omega (arith, length_bytes_of_row ws r refl refl, c.count_place-at.ensures, c.gateway_count-n.ensures.0) in
    rw (four, whole, size) (first_stored a.bytes.now all (omega (arith, c.requires.1, c.gateway_count-n.ensures.1)))
