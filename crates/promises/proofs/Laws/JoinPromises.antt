-- Document 02, [2], holds of the call Join, for every text.
-- Assumes nothing.
use Prim.Native.Nat.{ℕ, ◌<◌}
use native.Mathlib.Omega.{arith}
use mathlib.Core.Path.{◌≡◌, refl, sym, ap, ◌∙◌}
use mathlib.Core.Logic.{◌↔◌, inl, inr}
use mathlib.Core.List.{List, [], ◌∷◌}
use lib.ListN.{length}
use Rattle.base.specs.Answers.{Answer, returned, refused_by, told, given, wrote}
use Rattle.base.proofs.Laws.Decides.{decided, decides_and, decides_ltb}
use Rattle.hexlines.specs.Letters.{InCapitals}
use Rattle.policy.specs.Model.{Table, row_at, parent_of}
use Rattle.policy.specs.Wellformed.{RowRule, Wellformed}
use Rattle.policy.proofs.Laws.Words.{five_ranges}
use Rattle.relations.specs.Entities.{Tree, AtOrAbove}
use Rattle.relations.proofs.Laws.Tables.{table_tree}
use Rattle.relations.proofs.Laws.Groups.{group_self}
use Rattle.relations.proofs.Laws.Bounds.{lowest_least, larger_least, hull_least}
use Rattle.joining.specs.Joining.{Joinable}
use Rattle.joining.proofs.Laws.Joining.{joinable_decides, joinable_swap, joined_least, joined_swap, joined_itself, joined_kept}
use Rattle.frames.specs.Parts.{box_widths}
use Rattle.frames.specs.Kinds.{of_row, describe}
use Rattle.frames.specs.Rows.{line_of_row}
use Rattle.reader.specs.States.{Parsed, table_read, parse}
use Rattle.reader.proofs.Laws.Wellformed.{accepted_wellformed}
use Rattle.reader.proofs.Laws.Rows.{RowLine}
use Rattle.reader.proofs.Laws.Texts.{accepted_text_more_rows}
use Rattle.reader.proofs.Laws.Written.{row_written, row_capitals, row_size, row_own}
use Rattle.analyser.specs.Calls.{has_room, line_part, joined_row, joined_line, join_of, join_written}
use Rattle.analyser.specs.Views.{count_answer}
use Rattle.promises.specs.JoinPromises.{UpperBounds, JoinedRows, JoinPromise, Commutes}
use Rattle.promises.proofs.Laws.Devices.{one_device}
use Rattle.promises.proofs.Laws.AnswerPromises.{told_count, refused_count, same_answers}
use Rattle.analyser.proofs.Laws.Calls.{line_row}
use Rattle.analyser.proofs.Laws.Refused.{join_refused_text}
use Rattle.analyser.proofs.Laws.Joins.{Does, join_no_row, join_differ, join_asked, join_short, join_whole}

pub upper_bounds : UpperBounds
upper_bounds = record { lowest = λ up tree e f. lowest_least up tree f e; coefficients = larger_least; box = hull_least }

module _ (text : List ℕ) (t : Table) (e : parse text ≡ returned (table_read t)) where
  well : Wellformed t
  well = accepted_wellformed text t e

  tree : Tree (parent_of t)
  tree = table_tree t well

  -- two rows that can be joined
  module _ (i j : ℕ) (h : i < length t.rows) (k : j < length t.rows) (c : Joinable (parent_of t) (row_at t i) (row_at t j)) where
    rule : RowRule t (joined_row i j t)
    rule = joined_kept t well (row_at t i) (row_at t j) (well.row i h) (well.row j k) c

    joined_rows : JoinedRows text t i j
    joined_rows =
        let a = well.row i h in
        let b = well.row j k in
        let three : length (row_at t i).coefficients ≡ length (row_at t j).coefficients = a.coefficients.three ∙ sym b.coefficients.three in
        let five : length (row_at t i).selector ≡ length (row_at t j).selector = five_ranges a.selector ∙ sym (five_ranges b.selector) in
        let line : RowLine t (joined_line i j t) (joined_row i j t) = row_written t well (joined_row i j t) rule in
        record {
          written = λ out l.
              told_count (join_whole (parse text) t e i j out h k c l);
          short = λ out l.
              refused_count (join_short (parse text) t e i j out h k c l);
          line = line.line;
          says = line.frame;
          capitals = row_capitals t well (joined_row i j t) rule;
          size = row_size t well (joined_row i j t) rule;
          common = (
            record { holder = refl; technology = refl; gateways = refl },
            record { holder = c.group.holder; technology = c.group.technology; gateways = c.group.gateways },
          );
          source = lowest_least (parent_of t) tree (row_at t j).source (row_at t i).source c.source;
          destination = lowest_least (parent_of t) tree (row_at t j).destination (row_at t i).destination c.destination;
          coefficients = larger_least (row_at t i).coefficients (row_at t j).coefficients three;
          box = hull_least (row_at t i).selector (row_at t j).selector five a.selector.ordered b.selector.ordered;
          least =
              joined_least (parent_of t) tree (row_at t i) (row_at t j) c three five a.selector.ordered b.selector.ordered;
          added = λ few. accepted_text_more_rows text t e (joined_line i j t ∷ []) (joined_row i j t ∷ []) (omega arith) (line, tt);
        }

  row_itself : (i : ℕ) → Joinable (parent_of t) (row_at t i) (row_at t i)
  row_itself i = record { group = group_self (row_at t i); source = refl; destination = refl }

  own_line : (i : ℕ) → i < length t.rows → InCapitals (line_part text (parse text) i) → joined_line i i t ≡ line_part text (parse text) i
  own_line i h c =
      let line = line_row text t e i h in
      ap (line_of_row (describe of_row).byte box_widths) (joined_itself (parent_of t) tree (row_at t i))
      ∙ row_own (line_part text (parse text) i) (row_at t i) line.line line.frame c

  -- What can be joined, by devices.
  can_join_lem : (i j : ℕ)
      → Joinable (parent_of t) (row_at t i) (row_at t j)
      ↔ (((row_at t i).holder ≡ (row_at t j).holder) × ((row_at t i).technology ≡ (row_at t j).technology) × ((row_at t i).gateways ≡ (row_at t j).gateways)
      × ((e : ℕ) × AtOrAbove (parent_of t) e (row_at t i).source × AtOrAbove (parent_of t) e (row_at t j).source)
      × ((e : ℕ) × AtOrAbove (parent_of t) e (row_at t i).destination × AtOrAbove (parent_of t) e (row_at t j).destination))
  can_join_lem i j =
      let s = one_device t well (row_at t i).source (row_at t j).source in
      let d = one_device t well (row_at t i).destination (row_at t j).destination in (
        λ c. (c.group.holder, c.group.technology, c.group.gateways, s.0 c.source, d.0 c.destination),
        λ h. record {
          group = record { holder = h.0; technology = h.1; gateways = h.2 };
          source = s.1 h.3;
          destination = d.1 h.4;
        },
      )

  pub join_promise : JoinPromise text t
  join_promise =
      record {
        no_row = λ i j out n. refused_count (join_no_row (parse text) t e i j out n);
        differ = λ i j out h k n. refused_count (join_differ (parse text) t e i j out h k n);
        joinable = can_join_lem;
        rows = joined_rows;
        itself = λ i h. (row_itself i, joined_itself (parent_of t) tree (row_at t i));
        own_line = own_line;
      }

  -- Either way round.
  module _ (i j : ℕ) (out : List ℕ) where
    both : {answer : Answer ℕ} {after : List ℕ} → Does (parse text) i j out answer after → Does (parse text) j i out answer after
        → Does (parse text) i j out (join_of (parse text) j i out) (join_written (parse text) j i out)
    both a b = (a.0 ∙ sym b.0, a.1 ∙ sym b.1)

    -- What is answered of a line.
    abbrev asked : List ℕ → Answer (List ℕ)
    asked l = given (has_room l out ∷ []) l

    join_swap : Does (parse text) i j out (join_of (parse text) j i out) (join_written (parse text) j i out)
    join_swap =
        elim (decided _ (decides_and _ _ (decides_ltb i (length t.rows)) (decides_ltb j (length t.rows)))) [
          | inl x ↦ elim (decided _ (joinable_decides (parent_of t) (row_at t i) (row_at t j))) [
            | inl c ↦ let a = join_asked (parse text) t e i j out x.0 x.1 c in
                let b = join_asked (parse text) t e j i out x.1 x.0 (joinable_swap (parent_of t) (row_at t i) (row_at t j) c) in
                let line : joined_line i j t ≡ joined_line j i t =
                ap (line_of_row (describe of_row).byte box_widths) (joined_swap (parent_of t) tree (row_at t i) (row_at t j) c) in
                (a.0 ∙ ap (λ l. told length (asked l)) line ∙ sym b.0, a.1 ∙ ap (λ l. wrote (λ m. m) (asked l) out) line ∙ sym b.1)
            | inr n ↦ both (join_differ (parse text) t e i j out x.0 x.1 n)
                (join_differ (parse text) t e j i out x.1 x.0 (λ c. n (joinable_swap (parent_of t) (row_at t j) (row_at t i) c)))
          ]
          | inr n ↦ both (join_no_row (parse text) t e i j out n) (join_no_row (parse text) t e j i out (λ x. n (x.1, x.0)))
        ]

pub commutes : (text : List ℕ) (i j : ℕ) (out : List ℕ) → Commutes text i j out
commutes text i j out = let c = go (parse text) refl in (same_answers count_answer c.0, c.1)
  where
    go : (x : Answer Parsed) → parse text ≡ x → Does (parse text) i j out (join_of (parse text) j i out) (join_written (parse text) j i out)
    go (returned r) e = join_swap text r.table e i j out
    go (refused_by number line) e =
        let a = join_refused_text number line i j out in
        let b = join_refused_text number line j i out in
        rw e (a.0 ∙ sym b.0, a.1 ∙ sym b.1)
