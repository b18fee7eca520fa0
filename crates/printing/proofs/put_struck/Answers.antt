-- `put_struck` meets its contract: Strike writes the text, or, where it is refused, the refusal is put. Assumes nothing.
use mathlib.Core.Path.{refl}
use Rattle.std.specs.Prelude.{Ok, Err}
use Rattle.printing.proofs.Laws.Answers.{strike_whole, strike_short, strike_refusal}
use Rattle.printing.proofs.put_struck.Goals as goal

pub returns-in-Ok : goal.returns-in-Ok
returns-in-Ok c = strike_whole _ _ _ (Ok c.in-Ok.n) c.in-Ok.ensures.answers c.in-Ok.ensures.writes _ refl

pub returns-then-r-number : goal.returns-then-r-number
returns-then-r-number c =
    strike_short _ _ _ (Err c.in-Err.r) c.in-Err.ensures.answers c.in-Err.ensures.writes c.in-Err.r refl (rw c.number.ensures at c.if-r-number.true)

pub returns-else-r-number : goal.returns-else-r-number
returns-else-r-number c =
    strike_refusal _ _ _ (Err c.in-Err.r) c.in-Err.ensures.answers c.in-Err.ensures.writes c.in-Err.r refl (rw c.number.ensures at c.if-r-number.false)
    c.put_refusal.ensures
