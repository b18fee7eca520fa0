-- `put_if` meets its contract: the address's bytes are stored, and the length after them. Assumes nothing.
use Prim.Native.Nat.{ℕ, ◌+◌, ◌*◌, ◌-◌, ◌/◌, ◌^◌}
use mathlib.Core.Path.{◌≡◌, refl, sym, ap, ◌∙◌}
use mathlib.Core.Bool.{Bool}
use mathlib.Core.List.{List, [], ◌∷◌, map}
use lib.Seq.{sets}
use Rattle.base.proofs.Laws.Lists.{sets_after}
use Rattle.hexlines.specs.Numbers.{number_bytes}
use Rattle.hexlines.proofs.Laws.Numbers.{length_number_bytes}
use Rattle.policy.specs.Views.{value}
use Rattle.prefixes.specs.Prefixes.{alone_if, raised}
use Rattle.prefixes.specs.Bytes.{prefix_bytes}
use Rattle.prefixes.proofs.put_if.Goals as goal

pub returns-then-there : goal.returns-then-there
returns-then-there c =
    let x = c.args in
    let out : List ℕ = x.out.now in
    let bytes : ℕ = x.whole.bits / 8 in
    let place : ℕ = (bytes + 1) * x.at in
    let address : ℕ = value x.n * 2 ^ (x.whole.bits - x.bits) in
    let first : c.put.new.bytes ≡ sets out place (number_bytes bytes address) =
    c.put.ensures ∙ ap (λ (n : ℕ). sets out place (number_bytes bytes n)) c.raised-address.ensures in
    sets_after out place (number_bytes bytes address) (x.bits ∷ []) first refl (ap (λ (n : ℕ). place + n) (sym (length_number_bytes bytes address)))
    ∙ ap (λ (there : Bool). sets out place (prefix_bytes bytes (map (raised (x.whole.bits - x.bits)) (alone_if there x.bits (value x.n)))))
    (sym c.if-there.true)
