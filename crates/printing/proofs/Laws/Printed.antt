-- Laws of what is printed: with and without room for it; of an input that is too long, and that is a text.
-- Assumes nothing.
use Prim.Native.Nat.{ℕ, ◌≤◌, ◌<◌}
use mathlib.Core.Path.{◌≡◌, refl, sym, ap, subst, ◌∙◌}
use mathlib.Core.List.{List}
use native.Mathlib.Omega.{arith}
use borrow.Author.Tests.{le-leb, lt-leb}
use lib.ListN.{length, length-append}
use lib.Seq.{length-take-le}
use Rattle.std.specs.Prelude.{Result, Ok, Err}
use Rattle.base.specs.Outputs.{written, short}
use Rattle.base.specs.declared.Short.{Short}
use Rattle.base.proofs.Laws.Outputs.{fits_not, written_not, fits_all, written_all}
use Rattle.reader.specs.States.{parse}
use Rattle.printing.specs.Limits.{most_input}
use Rattle.printing.specs.Printed.{too_long, printed, list_printed, struck_printed, rowlist_prints, strike_prints, Prints}

-- ---- an output

module _ (result out : List ℕ) where
  pub prints_not : length out < length result → Prints result out out (Err short)
  prints_not h = record { output = written_not result out h; answer = rw (fits_not result out h) refl; within = tt; part = tt }

  pub prints_all : (after : List ℕ) (n : ℕ) → length result ≤ length out → after ≡ written result out → n ≡ length result → Prints result out after (Ok n)
  prints_all after n h a e =
      let l : n ≤ length after = omega (arith, simp length-append at (ap length (a ∙ sym (written_all result out h)))) in
      record { output = a; answer = rw (fits_all result out h) (ap Ok e); within = l; part = sym (length-take-le n after l) }

pub prints_other : {result other before after : List ℕ} {r : Result ℕ Short} → result ≡ other → Prints result before after r → Prints other before after r
prints_other {result} {other} {before} {after} {r} e p = subst (λ (l : List ℕ). Prints l before after r) e p

-- ---- an input

module _ (as_text input : List ℕ) where
  pub printed_long : most_input < length input → printed as_text input ≡ too_long
  printed_long h = rw (lt-leb (length input) most_input h) refl

  pub printed_text : length input ≤ most_input → printed as_text input ≡ as_text
  printed_text h = rw (le-leb (length input) most_input h) refl

module _ (input : List ℕ) where
  pub rowlist_long : most_input < length input → too_long ≡ rowlist_prints input
  unfolding rowlist_prints
  rowlist_long h = sym (printed_long (list_printed (parse input)) input h)

  pub rowlist_text : length input ≤ most_input → list_printed (parse input) ≡ rowlist_prints input
  unfolding rowlist_prints
  rowlist_text h = sym (printed_text (list_printed (parse input)) input h)

  pub strike_long : most_input < length input → too_long ≡ strike_prints input
  unfolding strike_prints
  strike_long h = sym (printed_long (struck_printed input (parse input)) input h)

  pub strike_text : length input ≤ most_input → struck_printed input (parse input) ≡ strike_prints input
  unfolding strike_prints
  strike_text h = sym (printed_text (struck_printed input (parse input)) input h)
