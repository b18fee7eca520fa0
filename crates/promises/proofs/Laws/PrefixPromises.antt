-- Document 02, [5], holds of the call Prefixes, for every text.
-- Assumes nothing.
use Prim.Native.Nat.{ℕ, ◌≤◌, ◌<◌}
use native.Mathlib.Omega.{arith}
use mathlib.Core.Path.{◌≡◌, refl, ap, ◌∙◌}
use mathlib.Core.List.{List, ◌++◌}
use lib.ListN.{length, drop}
use Rattle.base.specs.Answers.{returned}
use Rattle.hexlines.specs.Numbers.{number_bytes}
use Rattle.hexlines.proofs.Laws.Numbers.{length_number_bytes, number_bytes_below, number_of_number_bytes}
use Rattle.policy.specs.Model.{Table, row_at}
use Rattle.prefixes.specs.Prefixes.{prefixes}
use Rattle.prefixes.specs.Bytes.{prefix_bytes}
use Rattle.prefixes.specs.Sides.{side_of}
use Rattle.prefixes.proofs.Laws.Order.{prefixes_few}
use Rattle.prefixes.proofs.Laws.Puts.{length_prefix_bytes}
use Rattle.prefixes.proofs.Laws.Prefixes.{prefix_block, prefixes_of_lem, full_range, one_address}
use Rattle.reader.specs.States.{table_read, parse}
use Rattle.reader.proofs.Laws.Wellformed.{accepted_wellformed}
use Rattle.analyser.specs.Calls.{row_prefixes}
use Rattle.promises.specs.PrefixPromises.{RangePrefixes, PrefixForms, SidePrefixes, PrefixPromise}
use Rattle.promises.proofs.Laws.AnswerPromises.{told_count, refused_count}
use Rattle.analyser.proofs.Laws.Prefixes.{side_fits, prefixes_no_row, prefixes_no_side, prefixes_short, prefixes_whole}

pub range_prefixes : RangePrefixes
range_prefixes =
    record {
      block = prefix_block;
      right = λ width r l h. prefixes_of_lem width r h;
      full = full_range;
      single = one_address;
      few = λ width r l h w. prefixes_few width r h w;
    }

pub prefix_forms : PrefixForms
prefix_forms =
    record {
      source = λ a b c d e. refl;
      destination = λ a b c d e. refl;
      none = refl;
      more = λ p ps i. record {
        bytes = number_bytes 4 p.address;
        four = length_number_bytes 4 p.address;
        each = λ k b. number_bytes_below 4 p.address k;
        address = number_of_number_bytes 4 p.address i.address;
        all = refl;
      };
    }

module _ (text : List ℕ) (t : Table) (e : parse text ≡ returned (table_read t)) where
  side_prefixes : (k side : ℕ) → k < length t.rows → side ≤ 1 → SidePrefixes text t k side
  side_prefixes k side h s =
      let r = side_of side (row_at t k).selector in
      let fits = side_fits (row_at t k).selector side s ((accepted_wellformed text t e).row k h).selector in
      let long = length_prefix_bytes 4 (row_prefixes k side t) in
      record {
        right = prefixes_of_lem 32 r fits;
        few = prefixes_few 32 r fits (omega arith);
        full = λ q. ap (prefixes 32) q ∙ full_range 32;
        single = λ a q. ap (prefixes 32) q ∙ one_address 32 a;
        written = λ out l.
            let w = prefixes_whole (parse text) t e k side out h s (omega arith) in
            told_count (w.0, w.1 ∙ ap (λ (n : ℕ). prefix_bytes 4 (row_prefixes k side t) ++ drop n out) long);
        short = λ out l. refused_count (prefixes_short (parse text) t e k side out h s (omega arith));
      }

  pub prefix_promise : PrefixPromise text t
  prefix_promise =
      record {
        no_row = λ k side out h. refused_count (prefixes_no_row (parse text) t e k side out h);
        no_side = λ k side out h n. refused_count (prefixes_no_side (parse text) t e k side out h n);
        sides = side_prefixes;
      }
