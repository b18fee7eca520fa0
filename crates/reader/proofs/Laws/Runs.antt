-- Laws of what stays along a run of lines:
--   pick_either: what holds of both sides of a choice holds of the choice
--   run_keeps: what every line keeps of a state, a run keeps
-- Assumes nothing.
use mathlib.Core.Path.{◌≡◌, refl}
use mathlib.Core.Bool.{Bool, true, false}
use mathlib.Core.List.{List, [], ◌∷◌}
use Prim.Native.Nat.{ℕ}
use Rattle.base.specs.Truths.{pick}
use Rattle.reader.specs.States.{State, step, run}

pub pick_either : {A : Type 0} (P : A → Type 0) (b : Bool) (x y : A) → (b ≡ true → P x) → (b ≡ false → P y) → P (pick b x y)
pick_either P true x y f g = f refl
pick_either P false x y f g = g refl

module _ (P : State → Type 0) (each : (s : State) (line : List ℕ) → P s → P (step s line)) where
  pub run_keeps : (s : State) (lines : List (List ℕ)) → P s → P (run s lines)
  unfolding run
  run_keeps s [] h = h
  run_keeps s (line ∷ lines) h = run_keeps (step s line) lines (each s line h)
