-- Laws of the caller's output: too short, and with room; a result that is stored from the start; what is answered then.
-- Assumes nothing.
use Prim.Native.Nat.{ℕ, ◌+◌, ◌≤◌, ◌<◌}
use mathlib.Core.Path.{◌≡◌, refl, ap, ◌∙◌}
use mathlib.Core.Bool.{true, false}
use mathlib.Core.List.{List, ◌++◌}
use native.Mathlib.Omega.{arith}
use borrow.Author.Tests.{le-leb, lt-leb}
use lib.ListN.{length, drop, take}
use lib.Seq.{sets, sets-eq, take-length}
use Rattle.std.specs.Prelude.{Ok, Err}
use Rattle.base.specs.Outputs.{fits, written, short, WritesCounted}

module _ (result out : List ℕ) where
  -- ---- too short

  pub fits_not : length out < length result → fits result out ≡ false
  fits_not h = lt-leb (length result) (length out) h

  pub written_not : length out < length result → out ≡ written result out
  written_not h = rw (fits_not h)

  pub writes_not : {n : ℕ} → length out < length result → WritesCounted n result out out (Err short)
  writes_not h = record { output = written_not h; answer = rw (fits_not h) refl }

  -- ---- room for the result

  module _ (h : length result ≤ length out) where
    pub fits_all : fits result out ≡ true
    fits_all = le-leb (length result) (length out) h

    pub written_all : result ++ drop (length result) out ≡ written result out
    written_all = rw fits_all

    pub written_stored : sets out 0 result ≡ written result out
    written_stored =
        let e : 0 + length result ≡ length result = omega arith in
        sets-eq result out 0 (omega arith) ∙ ap (λ (k : ℕ). result ++ drop k out) e ∙ written_all

    -- copied from a list of its bytes
    pub written_copied : (from : List ℕ) → from ≡ result → take (length from) from ++ drop (length from) out ≡ written result out
    written_copied from e =
        ap (λ (l : List ℕ). take (length l) l ++ drop (length l) out) e
        ∙ ap (λ (l : List ℕ). l ++ drop (length result) out) (take-length result)
        ∙ written_all

    pub writes_stored : {after : List ℕ} {m : ℕ} (n : ℕ) → n ≡ m → after ≡ sets out 0 result → WritesCounted m result out after (Ok n)
    writes_stored n e f = record { output = f ∙ written_stored; answer = rw fits_all (ap Ok e) }
