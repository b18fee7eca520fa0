-- Laws of rows' frames:
--   row_counted: a row has as many gateways as it counts, at most eight; for any widths
--   row_kept: a row that is not refused keeps its rules
--   row_lawful: what is read with a row that is not refused keeps its rules
--   row_passes: a row that keeps its rules is not refused
-- Assumes nothing.
use Prim.Native.Nat.{ℕ, zero, suc, ◌+◌, ◌<◌, ◌≤◌}
use mathlib.Core.Path.{◌≡◌, refl, sym, ap, ◌∙◌}
use mathlib.Core.Bool.{true, false, not}
use mathlib.Core.List.{List, [], ◌∷◌, ◌++◌, append_assoc, map, Memᴰ}
use native.Mathlib.Omega.{arith}
use borrow.Author.Tests.{leb-true, ltb-true, eqb-true, ne_eqb, eq-eqb, lt-ltb, le-leb}
use lib.Dec.{eqb, leb, ltb}
use native.Mathlib.Numerals.{add-one}
use lib.ListN.{length, get_or, take, drop, length-take, length-drop, length-append, take-append-drop}
use lib.Seq.{take_all, take-length, drop-cons, drop-drop, drop-append-add, get_or-append_seam}
use Rattle.base.specs.Checks.{or_else, refusal}
use Rattle.base.proofs.Laws.Checks.{both, refusal_none, none_broken, one_kept}
use Rattle.base.specs.Truths.{Decides}
use Rattle.base.proofs.Laws.Decides.{decides_true, decides_false, decides_as, decides_leb, decides_eqb, decides_not, decides_and, decides_holds, not_holds}
use Rattle.hexlines.specs.Lines.{bytes_of}
use Rattle.policy.specs.Limits.{most_gateways, most_rows, technologies}
use Rattle.policy.specs.Model.{Coefficients, Row, Table, no_row, parents_of}
use Rattle.policy.specs.Views.{with_row}
use Rattle.policy.specs.Wellformed.{IsEntity, IsRoot, Below, CoefficientsRule, Fits, RowRule}
use Rattle.relations.specs.Selectors.{inhabited}
use Rattle.relations.proofs.Laws.Selectors.{inhabited_ordered}
use Rattle.frames.specs.Refusals.{bad_number, empty_range, protected_null}
use Rattle.frames.specs.Faults.{a_root, an_end, a_technology, a_protection, Broken, null_above_0}
use Rattle.frames.specs.Parts.{coefficients_from, selector_from, box_bytes, box_widths}
use Rattle.frames.specs.Progress.{Progress}
use Rattle.frames.specs.Numbers.{is_root, all_roots}
use Rattle.frames.specs.Rows.{box_place, count_place, row_length, row_frame, SaysRow, all_zero, row_numbers, row_place, null_rule, row_content, row_kind}
use Rattle.frames.proofs.Laws.Parts.{coefficients_rule, selector_fits, box_said_lem, box_length, box_read, three_first}
use Rattle.base.proofs.Laws.Each.{all_pass_decides, each_more, one_fails}
use Rattle.frames.proofs.Laws.Numbers.{is_entity_decides, is_root_decides}
use Rattle.policy.proofs.Laws.Changed.{entity_changed, filter_changed, row_changed, counts_rows}
use Rattle.frames.proofs.Laws.Claims.{Tests, tests_and, tests_one, judges_one, judges_more}
use Rattle.frames.proofs.Laws.Claims.{tests_root, tests_roots, tests_end, tests_technology, tests_ranges}
use Rattle.frames.proofs.Laws.Growing.{Sequenced, after_floor, Growing, whole, Lawful}
use Rattle.frames.proofs.Laws.Filters.{ordered_inhabits}

-- A row of the right length counts at most eight gateways, and ends with them.
pub row_counted : (ws bs : List ℕ) → row_length ws bs ≡ true
    → (get_or bs (count_place ws) 0 ≤ most_gateways) × (length bs ≡ count_place ws + 1 + get_or bs (count_place ws) 0)
row_counted ws bs h =
    let long = both (ltb (count_place ws) (length bs)) _ h in
    let count = both (leb (get_or bs (count_place ws) 0) most_gateways) _ long.1 in
    (leb-true _ _ count.0, eqb-true _ _ count.1)

few_gateways : (ws bs : List ℕ) → row_length ws bs ≡ true → length (row_frame ws bs).gateways ≤ most_gateways
few_gateways ws bs h =
    let few = (row_counted ws bs h).0 in
    simp length-take (omega arith)

-- ---- what its bytes say, for any widths

-- The first seven bytes, and the rest.
seven_first : (bs : List ℕ) → 7 ≤ length bs
    → bs ≡ get_or bs 0 0 ∷ get_or bs 1 0 ∷ get_or bs 2 0 ∷ get_or bs 3 0 ∷ get_or bs 4 0 ∷ get_or bs 5 0 ∷ get_or bs 6 0 ∷ drop 7 bs
seven_first [] h = absurd (omega arith)
seven_first (a ∷ []) h = absurd (omega arith)
seven_first (a ∷ b ∷ []) h = absurd (omega arith)
seven_first (a ∷ b ∷ c ∷ []) h = absurd (omega arith)
seven_first (a ∷ b ∷ c ∷ d ∷ []) h = absurd (omega arith)
seven_first (a ∷ b ∷ c ∷ d ∷ e ∷ []) h = absurd (omega arith)
seven_first (a ∷ b ∷ c ∷ d ∷ e ∷ f ∷ []) h = absurd (omega arith)
seven_first (a ∷ b ∷ c ∷ d ∷ e ∷ f ∷ g ∷ bs) h = refl

row_said : (ws bs : List ℕ) → row_length ws bs ≡ true → SaysRow ws bs (row_frame ws bs)
row_said ws bs h =
    let n = get_or bs (count_place ws) 0 in
    let long = (row_counted ws bs h).1 in
    let gs = take n (drop (count_place ws + 1) bs) in
    let all : gs ≡ drop (count_place ws + 1) bs = take_all n (drop (count_place ws + 1) bs) (omega (arith, length-drop (count_place ws + 1) bs)) in
    let count : length gs ≡ n = ap length all ∙ simp length-drop (omega arith) in
    let after : drop (box_bytes ws) (drop 7 bs) ≡ length gs ∷ gs =
    drop-drop (box_bytes ws) 7 bs
    ∙ drop-cons bs (count_place ws) 0 (omega arith)
    ∙ ap (λ m. n ∷ drop m bs) (sym (add-one (count_place ws)))
    ∙ (λ i. sym count i ∷ sym all i) in
    record {
      box = take (box_bytes ws) (drop 7 bs);
      selector = box_said_lem box_place ws bs (omega arith);
      coefficients = refl;
      few = few_gateways ws bs h;
      bytes =
          seven_first bs (omega arith)
          ∙ ap (λ (l : List ℕ). get_or bs 0 0 ∷ get_or bs 1 0 ∷ get_or bs 2 0 ∷ get_or bs 3 0 ∷ (coefficients_from 4 bs ++ l))
          (sym (take-append-drop (box_bytes ws) (drop 7 bs)) ∙ ap (λ (l : List ℕ). take (box_bytes ws) (drop 7 bs) ++ l) after);
    }

row_read : (ws bs : List ℕ) (r : Row) → SaysRow ws bs r → (row_length ws bs ≡ true) × (row_frame ws bs ≡ r)
row_read ws bs r s =
    let box = s.box in
    let gs = r.gateways in
    let pre = r.holder ∷ r.source ∷ r.destination ∷ r.technology ∷ r.coefficients in
    let whole : bs ≡ (pre ++ box) ++ (length gs ∷ gs) = s.bytes ∙ sym (append_assoc pre box (length gs ∷ gs)) in
    let head : length (pre ++ box) ≡ count_place ws =
    simp length-append (omega (arith, s.coefficients, box_length ws box r.selector s.selector)) in
    let count : get_or bs (count_place ws) 0 ≡ length gs =
    ap (λ l. get_or l (count_place ws) 0) whole
    ∙ ap (λ k. get_or ((pre ++ box) ++ (length gs ∷ gs)) k 0) (sym head)
    ∙ get_or-append_seam (pre ++ box) (length gs) gs 0 in
    let rest : drop (count_place ws + 1) bs ≡ gs =
    ap (drop (count_place ws + 1)) whole
    ∙ ap (λ k. drop (k + 1) ((pre ++ box) ++ (length gs ∷ gs))) (sym head)
    ∙ drop-append-add (pre ++ box) (length gs ∷ gs) 1 in
    let size : length bs ≡ count_place ws + 1 + length gs = ap length whole ∙ rw (length-append, head) (omega arith) in
    let three : coefficients_from 4 bs ≡ r.coefficients =
    ap (coefficients_from 4) s.bytes ∙ three_first r.coefficients (box ++ (length gs ∷ gs)) s.coefficients in
    let selector : selector_from box_place ws bs ≡ r.selector =
    ap (selector_from box_place ws) s.bytes
    ∙ box_read ws box r.selector pre (length gs ∷ gs) box_place (omega (arith, s.coefficients)) s.selector in
    let gateways : take (get_or bs (count_place ws) 0) (drop (count_place ws + 1) bs) ≡ gs =
    (λ i. take (count i) (rest i)) ∙ take-length gs in (
      rw (count, lt-ltb (count_place ws) (length bs) (omega arith), le-leb (length gs) most_gateways s.few) (eq-eqb (length bs) (count_place ws + 1 + length gs) size),
      λ i. record {
        holder = get_or (s.bytes i) 0 0;
        source = get_or (s.bytes i) 1 0;
        destination = get_or (s.bytes i) 2 0;
        technology = get_or (s.bytes i) 3 0;
        coefficients = three i;
        selector = selector i;
        gateways = gateways i;
      },
    )

-- ---- the rules of its content

zero_decides : (x : ℕ) → Decides (eqb x 0) (x < 1)
zero_decides x = decides_as (λ e. omega (arith, e)) (λ b. omega (arith, b)) (decides_eqb x 0)

null_decides : (technology : ℕ) (c : Coefficients) → Decides (null_rule technology c) (technology ≡ 0 → Below 1 c)
unfolding null_rule all_zero
null_decides zero c = decides_as (λ h z. h) (λ h. h refl) (all_pass_decides (λ x. eqb x 0) zero_decides c)
null_decides (suc n) c = rw (ne_eqb (suc n) 0 (λ z. omega arith)) (decides_true (λ z. absurd (omega arith)))

numbers_decide : (t : Table) (r : Row)
    → Decides (row_numbers (parents_of t) r)
    (IsRoot t r.holder
    × (IsEntity t r.source
    × (IsEntity t r.destination
    × ((r.technology ≤ technologies) × ((k : ℕ) → k < length r.gateways → IsRoot t (get_or r.gateways k 0))))))
unfolding row_numbers all_roots
numbers_decide t r =
    decides_and _ _ (is_root_decides t r.holder)
    (decides_and _ _ (is_entity_decides t r.source)
    (decides_and _ _ (is_entity_decides t r.destination)
    (decides_and _ _ (decides_leb r.technology technologies)
    (all_pass_decides (is_root (parents_of t)) (is_root_decides t) r.gateways))))

-- ---- what is not refused keeps the rules

-- What the numbers of a row of a line keep.
pub record RowInRange (ws : List ℕ) (r : Row) : Type 0 where
  pub coefficients : CoefficientsRule r.coefficients
  pub fits : Fits ws r.selector
  pub few : length r.gateways ≤ most_gateways

pub row_kept : (t : Table) (r : Row) → RowInRange box_widths r → refusal (row_content (parents_of t) r) ≡ 0 → RowRule t r
row_kept t r i h =
    let some = inhabited r.selector in
    let null = null_rule r.technology r.coefficients in
    let five = refusal_none (row_numbers (parents_of t) r) bad_number (or_else some empty_range ∷ or_else null protected_null ∷ []) (λ z. omega arith) h in
    let six = refusal_none some empty_range (or_else null protected_null ∷ []) (λ z. omega arith) five.1 in
    let seven = refusal_none null protected_null [] (λ z. omega arith) six.1 in
    let n = (numbers_decide t r).yes five.0 in
    record {
      holder = n.0;
      source = n.1.0;
      destination = n.1.1.0;
      technology = n.1.1.1.0;
      coefficients = i.coefficients;
      null = (null_decides r.technology r.coefficients).yes seven.0;
      selector = record { ordered = inhabited_ordered r.selector six.0; fits = i.fits };
      few_gateways = i.few;
      gateways = n.1.1.1.1;
    }

module _ (p : Progress) (m : row_place p.floored (length p.table.rows) ≡ true) where
  floored : p.floored ≡ 1
  floored = eqb-true _ _ (both (eqb p.floored 1) _ m).0

  pub few_rows : length p.table.rows < most_rows
  few_rows = ltb-true _ _ (both (eqb p.floored 1) _ m).1

  sequenced_row : (r : Row) → Sequenced p → Sequenced (record { table = with_row r p.table; floored = p.floored })
  sequenced_row r q =
      let few = few_rows in
      after_floor floored (counts_rows (whole q floored) (p.table.rows ++ (r ∷ [])) (simp length-append (omega arith)))

  growing_row : (r : Row) → RowInRange box_widths r → Growing p → refusal (row_content (parents_of p.table) r) ≡ 0
      → Growing (record { table = with_row r p.table; floored = p.floored })
  growing_row r i g c =
      let t = p.table in
      record {
        sequenced = sequenced_row r g.sequenced;
        entity = λ k h. entity_changed (g.entity k h);
        cap = g.cap;
        floor = g.floor;
        filter = λ k h. filter_changed (g.filter k h);
        row =
            each_more (RowRule (with_row r t)) t.rows r no_row (λ k h. row_changed (g.row k h))
            (row_changed (row_kept t r i c));
      }

-- ---- what it claims

tests_numbers : (t : Table) (r : Row) → Tests t (row_numbers (parents_of t) r) bad_number
    (a_root r.holder ∷ an_end r.source ∷ an_end r.destination ∷ a_technology r.technology ∷ map a_root r.gateways)
unfolding row_numbers
tests_numbers t r =
    tests_and (tests_root t r.holder)
    (tests_and (tests_end t r.source)
    (tests_and (tests_end t r.destination) (tests_and (tests_technology t r.technology) (tests_roots t r.gateways))))

null_broken : (technology : ℕ) (c : Coefficients) → Decides (not (null_rule technology c)) ((technology ≡ 0) × ((x : ℕ) × Memᴰ x c × (0 < x)))
unfolding null_rule all_zero
null_broken zero c =
    decides_as (λ h. (refl, h)) (λ h. h.1)
    (one_fails all_zero (λ x. eqb x 0) refl (λ x l. refl)
    (λ x. decides_as (λ n. omega (arith, n)) (λ h z. omega arith) (decides_not (eqb x 0) (decides_eqb x 0))) c)
null_broken (suc n) c = rw (ne_eqb (suc n) 0 (λ z. omega arith)) (decides_false (λ h. omega (arith, h.0)))

protection_only : (t : Table) (u : ℕ) (c : Coefficients) (m : ℕ) → Broken t (a_protection u c) m → (null_rule u c ≡ false) × (m ≡ protected_null)
protection_only t u c m (null_above_0 v cs x e k h) = (not_holds (null_rule u c) (null_broken u c) (e, (x, k, h)), refl)

tests_protection : (t : Table) (u : ℕ) (c : Coefficients) → Tests t (null_rule u c) protected_null (a_protection u c ∷ [])
tests_protection t u c =
    tests_one (λ b. let h = (null_broken u c).yes (rw b) in null_above_0 u c h.1.0 h.0 h.1.1 h.1.2) (protection_only t u c)

pub row_lawful : (byte : ℕ) → Lawful (RowInRange box_widths) (row_kind byte box_widths)
row_lawful byte =
    record {
      said = row_said box_widths;
      read = row_read box_widths;
      in_range = λ l h. record {
        coefficients = coefficients_rule 4 l;
        fits = selector_fits box_place box_widths l;
        few = few_gateways box_widths (bytes_of l) h;
      };
      numbered = λ t r. omega arith;
      judges = λ t r few.
          judges_more (tests_numbers t r)
          (judges_more (tests_ranges t r.selector) (judges_one (tests_protection t r.technology r.coefficients)));
      one_line = λ p r m. simp length-append (omega arith);
      sequenced = λ p r m. sequenced_row p m r;
      growing = λ p r i g m c. growing_row p m r i g c;
    }

-- ---- what keeps the rules is not refused

pub row_passes : (t : Table) (r : Row) → RowRule t r → refusal (row_content (parents_of t) r) ≡ 0
row_passes t r h =
    one_kept (row_numbers (parents_of t) r) bad_number _
    (decides_holds _ (numbers_decide t r) (h.holder, (h.source, (h.destination, (h.technology, h.gateways)))))
    (one_kept (inhabited r.selector) empty_range _ (ordered_inhabits r.selector h.selector.ordered)
    (one_kept (null_rule r.technology r.coefficients) protected_null [] (decides_holds _ (null_decides r.technology r.coefficients) h.null)
    none_broken))
