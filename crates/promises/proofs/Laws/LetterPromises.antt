-- Document 02, [1], holds of the calls and the programs, for every two texts that differ only in the case of letters.
-- Assumes nothing.
use Prim.Native.Nat.{ℕ}
use native.Mathlib.Omega.{arith}
use mathlib.Core.Path.{◌≡◌}
use mathlib.Core.List.{List}
use Rattle.base.specs.Answers.{returned}
use Rattle.hexlines.specs.Letters.{SameButCase, capital_first, small_first}
use Rattle.hexlines.proofs.Laws.Letters.{letter_itself}
use Rattle.policy.specs.Model.{Table}
use Rattle.reader.specs.States.{table_read, parse}
use Rattle.reader.proofs.Laws.Letters.{parse_case}
use Rattle.striking.proofs.Laws.Texts.{struck_written}
use Rattle.striking.proofs.Laws.Letters.{struck_case}
use Rattle.analyser.specs.Views.{count_answer}
use Rattle.analyser.proofs.Laws.Calls.{line_written, line_row}
use Rattle.analyser.proofs.Laws.Letters.{line_case, strike_case}
use Rattle.printing.proofs.Laws.Letters.{rowlist_case, strike_case as strike_prints_case}
use Rattle.promises.specs.LetterPromises.{AsWritten, CaseLetters, CasePromise}
use Rattle.promises.proofs.Laws.AnswerPromises.{same_answers}

pub as_written : (text : List ℕ) (t : Table) → parse text ≡ returned (table_read t) → AsWritten text t
as_written text t e = record { line = line_written text t e; says = λ k h. (line_row text t e k h).frame; struck_lines = struck_written text t e }

pub case_letters : CaseLetters
case_letters = record {
  same = letter_itself;
  small = λ v h. capital_first (omega arith, omega arith) (omega arith);
  capital = λ v h. small_first (omega arith, omega arith) (omega arith);
  none = tt;
  more = λ c d a b l h. (l, h);
}

pub case_promise : (a b : List ℕ) → SameButCase a b → CasePromise a b
case_promise a b h =
    record {
      read = parse_case a b h;
      line = line_case a b h;
      strike = λ out. let s = strike_case a b h out in (same_answers count_answer s.0, s.1);
      struck_texts = struck_case a b h;
      rowlist_prints_lem = rowlist_case a b h;
      strike_prints_lem = strike_prints_case a b h;
    }
