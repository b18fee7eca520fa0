-- Every item of document 01 that is marked ◆ holds: the answers on texts by computing them, the relations by their tests.
-- Assumes nothing.
use Prim.Native.Nat.{ℕ}
use mathlib.Core.Path.{◌≡◌, refl, ap, ◌∙◌}
use mathlib.Core.List.{List, ◌++◌}
use native.Mathlib.Omega.{arith}
use lib.ListN.{length, drop, drop_of_length-le}
use Rattle.hexlines.specs.Digits.{digit_value, digit_of}
use Rattle.hexlines.specs.Lines.{is_line}
use Rattle.base.specs.Lists.{among, same}
use Rattle.relations.specs.Entities.{upward, ancestors, at_or_above}
use Rattle.relations.specs.Relations.{AllOf}
use Rattle.relations.specs.Groups.{same_group}
use Rattle.relations.specs.Selectors.{inhabited}
use Rattle.relations.proofs.Laws.Examples.{edges_hold}
use Rattle.base.specs.Checks.{refusal}
use Rattle.frames.specs.Parts.{range_from}
use Rattle.frames.specs.Numbers.{is_entity, is_root, all_roots}
use Rattle.frames.specs.Entities.{entity_rule}
use Rattle.frames.specs.Rows.{all_zero, row_numbers, null_rule}
use Rattle.reader.specs.Lines.{lines_from, rest_from}
use Rattle.reader.specs.Frames.{frame_of_kind, frame_of}
use Rattle.base.specs.Answers.{returned, refused_by}
use Rattle.reader.specs.States.{table_read, checks, grown, take_frame, step, run, finish, parse}
use Rattle.search.specs.Search.{tries, from, search}
use Rattle.verdicts.specs.Verdicts.{verdict_after}
use Rattle.covers.specs.Covers.{covers, cover_of}
use Rattle.kinds.specs.Entries.{entries}
use Rattle.kinds.specs.Examples.{table_t}
use Rattle.kinds.proofs.Laws.Examples.{printed}
use Rattle.listing.specs.Bytes.{bytes}
use Rattle.analyser.specs.Calls.{check_of, witness_of, list_of, list_written}
use Rattle.promises.specs.Examples.{T, list_of_t, items}
use Rattle.analyser.proofs.Laws.Outputs.{list_short, list_whole}

-- ---- List in 18 and in 17 bytes

T_parsed : parse T ≡ returned (table_read table_t)
unfolding range_from parse finish run step take_frame checks grown frame_of frame_of_kind lines_from rest_from refusal entity_rule is_entity is_root all_roots all_zero row_numbers null_rule among inhabited is_line digit_value digit_of
T_parsed = refl

-- T's entries as bytes
T_bytes : bytes (entries table_t) ≡ list_of_t
unfolding bytes
T_bytes = ap bytes printed

fits_18 : (out : List ℕ) → length out ≡ 18 → (list_of (parse T) out ≡ returned 6) × (list_written (parse T) out ≡ list_of_t)
fits_18 out h =
    let e = ap length T_bytes in
    let w = list_whole (parse T) out table_t T_parsed (omega arith) in (
      w.0 ∙ ap (λ es. returned (length es)) printed,
      w.1
          ∙ ap (λ (b : List ℕ). b ++ drop (length b) out) T_bytes
          ∙ ap (λ (r : List ℕ). list_of_t ++ r) (drop_of_length-le out {i = 18} (omega arith)),
    )

short_17 : (out : List ℕ) → length out ≡ 17 → (list_of (parse T) out ≡ refused_by 8 0) × (list_written (parse T) out ≡ out)
short_17 out h = let e = ap length T_bytes in list_short (parse T) out table_t T_parsed (omega arith)

-- ---- all of them

pub items_hold : AllOf items
unfolding witness_of verdict_after cover_of covers search from tries same_group same at_or_above ancestors upward range_from check_of parse finish run step take_frame checks grown frame_of frame_of_kind lines_from rest_from refusal entity_rule is_entity is_root all_roots all_zero row_numbers null_rule among inhabited is_line digit_value digit_of
items_hold = (refl, (refl, (refl, (fits_18, (short_17, (refl, (refl, (refl, (refl, (refl, (refl, edges_hold)))))))))))
