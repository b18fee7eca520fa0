-- What is printed, from the answers of List and Strike.
-- Assumes nothing.
use Prim.Native.Nat.{ℕ, ◌*◌, ◌<◌}
use mathlib.Core.Path.{◌≡◌, sym, ap, subst, ◌∙◌}
use mathlib.Core.Logic.{◌⊎◌, inl, inr}
use mathlib.Core.List.{List}
use native.Mathlib.Omega.{arith}
use lib.ListN.{length, take, drop}
use lib.Seq.{take_at}
use Rattle.base.specs.Answers.{returned, refused_by}
use Rattle.base.proofs.Laws.Outputs.{written_all}
use Rattle.policy.specs.Model.{Table}
use Rattle.frames.specs.Refusals.{short_output}
use Rattle.reader.specs.States.{table_read, parse}
use Rattle.reader.proofs.Laws.Wellformed.{accepted_wellformed, refused_line}
use Rattle.kinds.specs.Entries.{entries, most_entries}
use Rattle.kinds.proofs.Laws.Few.{entries_few}
use Rattle.listing.specs.Bytes.{bytes, entry_bytes}
use Rattle.listing.proofs.Laws.Puts.{length_bytes}
use Rattle.striking.specs.Texts.{struck_text}
use Rattle.analyser.specs.Calls.{list_of, list_written, strike_of, strike_written}
use Rattle.analyser.specs.Views.{count_answer}
use Rattle.std.specs.Prelude.{Result, Ok, Err}
use Rattle.base.specs.Outputs.{short}
use Rattle.base.specs.declared.Short.{Short}
use Rattle.frames.specs.declared.refusals.Refusal.{Refusal}
use Rattle.analyser.proofs.Laws.Outputs.{room, no_room, list_told, list_refused, list_wrote, strike_told, strike_refused, strike_wrote, strike_left}
use Rattle.printing.specs.Printed.{refusal_line, hex_lines, list_printed, struck_printed, Prints}
use Rattle.printing.proofs.Laws.Lines.{lines_bytes}
use Rattle.printing.proofs.Laws.Printed.{prints_not, prints_all, prints_other}

-- ---- what List answers with room for all entries

module _ (input out after : List ℕ) (r : Result ℕ Refusal) (long : length out ≡ entry_bytes * most_entries) (a : count_answer r ≡ list_of (parse input) out) where
  pub rowlist_counted : (n : ℕ) → r ≡ Ok n → after ≡ list_written (parse input) out → hex_lines (take (entry_bytes * n) after) ≡ list_printed (parse input)
  unfolding list_printed
  rowlist_counted n e o =
      let w = list_told (parse input) out n (sym a ∙ ap count_answer e) in
      let es = entries w.of.table in
      let b = length_bytes es in
      let m = w.tells in
      ap (λ (l : List ℕ). hex_lines (take (entry_bytes * n) l)) (o ∙ list_wrote (parse input) out w)
      ∙ ap hex_lines (take_at (bytes es) (drop (length (bytes es)) out) (entry_bytes * n) (omega arith))
      ∙ lines_bytes es
      ∙ sym (ap list_printed w.read)

  pub rowlist_refused : (q : Refusal) → r ≡ Err q → refusal_line q.number q.line ≡ list_printed (parse input)
  unfolding list_printed
  rowlist_refused q e = elim (list_refused (parse input) out q.number q.line (sym a ∙ ap count_answer e)) [
    | inl p ↦ sym (ap list_printed p)
    | inr w ↦ let few = entries_few w.0.table (accepted_wellformed input w.0.table w.1) in
        let b = length_bytes (entries w.0.table) in
        absurd (omega (arith, no_room (bytes (entries w.0.table)) out q.number w.2))
  ]

-- ---- what Strike answers

module _ (input out after : List ℕ) (r : Result ℕ Refusal) (a : count_answer r ≡ strike_of input (parse input) out) (o : after ≡ strike_written input (parse input) out) where
  pub strike_whole : (n : ℕ) → r ≡ Ok n → Prints (struck_printed input (parse input)) out after (Ok n)
  unfolding struck_printed
  strike_whole n e =
      let w = strike_told input (parse input) out n (sym a ∙ ap count_answer e) in
      let result = struck_text input w.of.table in
      let l = room result out w.keeps in
      prints_other (sym (ap (struck_printed input) w.read))
      (prints_all result out after n l
      (o ∙ strike_wrote input (parse input) out w ∙ written_all result out l)
      w.tells)

  module _ (q : Refusal) (e : r ≡ Err q) where
    abbrev number : ℕ
    number = q.number

    abbrev line : ℕ
    line = q.line

    why : (parse input ≡ refused_by number line) ⊎ ((t : Table) × (parse input ≡ returned (table_read t)) × (number ≡ short_output) × (length out < length (struck_text input t)))
    why = elim (strike_refused input (parse input) out number line (sym a ∙ ap count_answer e)) [
      | inl p ↦ inl p
      | inr w ↦ let n = no_room (struck_text input w.0.table) out number w.2 in inr (w.0.table, w.1, n.0, n.1)
    ]

    -- A refusal writes nothing.
    unchanged : after ≡ out
    unchanged = o ∙ strike_left input (parse input) out number line (sym a ∙ ap count_answer e)

    -- A text's own refusals have smaller numbers.
    pub strike_short : number ≡ short_output → Prints (struck_printed input (parse input)) out after (Err short)
    unfolding struck_printed
    strike_short s = elim why [
      | inl p ↦ absurd (omega (arith, (refused_line input number line p).1.1))
      | inr w ↦ prints_other (sym (ap (struck_printed input) w.1)) (rw unchanged (prints_not (struck_text input w.0) out w.3))
    ]

    -- The line of any other refusal is put into the output as it was.
    pub strike_refusal : {end : List ℕ} {n : Result ℕ Short} → (number ≡ short_output → ⊥) → Prints (refusal_line number line) after end n → Prints (struck_printed input (parse input)) out end n
    unfolding struck_printed
    strike_refusal {end} {n} other put = elim why [
      | inl p ↦ prints_other (sym (ap (struck_printed input) p)) (subst (λ (l : List ℕ). Prints (refusal_line number line) l end n) unchanged put)
      | inr w ↦ absurd (other w.2)
    ]
