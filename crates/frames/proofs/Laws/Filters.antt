-- Laws of filters' frames:
--   early_filter: filters come before the rows
--   filter_length_decides, filter_has_box: the lengths of a filter's bytes, and their action
--   filter_lawful: what is read with a filter that is not refused keeps its rules
--   filter_passes: a filter that keeps its rules is not refused
-- Assumes nothing.
use Prim.Native.Nat.{ℕ, suc, ◌+◌, ◌<◌, ◌≤◌}
use mathlib.Core.Path.{◌≡◌, refl, sym, ap, subst, ◌∙◌}
use mathlib.Core.Bool.{true, false≢true}
use mathlib.Core.Logic.{◌⊎◌, inl, inr}
use mathlib.Core.List.{List, [], ◌∷◌, ◌++◌}
use native.Mathlib.Nat.{add-zero}
use native.Mathlib.Decide.{dec_lt}
use native.Mathlib.Omega.{arith}
use borrow.Author.Tests.{ltb-true, eqb-true}
use lib.Dec.{eqb}
use lib.ListN.{length, get_or, take, drop, length-drop, length-append, take-append-drop}
use lib.Seq.{get_or-drop, get_or-append-add}
use Rattle.base.specs.Truths.{Decides}
use Rattle.base.specs.Checks.{or_else, refusal}
use Rattle.base.proofs.Laws.Checks.{both, refusal_none, none_broken, one_kept}
use Rattle.base.proofs.Laws.Decides.{decides_holds, decides_and, decides_or, decides_eqb, decides_leb}
use Rattle.policy.specs.Limits.{most_filters}
use Rattle.hexlines.specs.Lines.{bytes_of}
use Rattle.policy.specs.Model.{Selector, Filter, Table, passing, no_filter, parents_of}
use Rattle.policy.specs.Wellformed.{Ordered, Fits, FilterRule}
use Rattle.relations.specs.Selectors.{inhabited}
use Rattle.relations.proofs.Laws.Selectors.{ordered_inhabited, inhabited_decides, inhabited_ordered}
use Rattle.frames.specs.Refusals.{bad_number, empty_range}
use Rattle.frames.specs.Progress.{Progress}
use Rattle.frames.specs.Numbers.{is_root}
use Rattle.frames.specs.Filters.{action_place, filter_length, filter_from, SaysAction, SaysFilter, filter_content, filter_kind}
use Rattle.frames.specs.Parts.{selector_from, box_bytes, box_widths}
use Rattle.frames.proofs.Laws.Parts.{selector_fits, box_said_lem, box_length, box_read}
use Rattle.frames.proofs.Laws.Numbers.{is_root_decides}
use Rattle.base.proofs.Laws.Each.{each_more}
use Rattle.policy.proofs.Laws.Changed.{entity_changed, filter_changed}
use Rattle.frames.proofs.Laws.Claims.{tests_root, tests_ranges, judges_one, judges_more}
use Rattle.frames.proofs.Laws.Growing.{Sequenced, after_floor, Growing, whole, Lawful}

-- What the numbers of a filter keep because they are bytes of a line with a filter's length.
pub record FilterInRange (f : Filter) : Type 0 where
  pub selector : Fits box_widths f.selector
  pub action : f.action ≤ passing

filter_kept : (t : Table) (f : Filter) → FilterInRange f → refusal (filter_content (parents_of t) f) ≡ 0 → FilterRule t f
filter_kept t f range h =
    let some = inhabited f.selector in
    let root = refusal_none (is_root (parents_of t) f.root) bad_number (or_else some empty_range ∷ []) (λ z. omega arith) h in
    let selector = refusal_none some empty_range [] (λ z. omega arith) root.1 in
    record {
      root = (is_root_decides t f.root).yes root.0;
      selector = record { ordered = inhabited_ordered f.selector selector.0; fits = range.selector };
      action = range.action;
    }

module _ (p : Progress) (f : Filter) (m : filter_kind.placed p f ≡ true) where
  floored : p.floored ≡ 1
  floored = eqb-true _ _ (both (eqb p.floored 1) _ m).0

  pub early_filter : length p.table.rows ≡ 0
  early_filter = eqb-true _ _ (both (eqb (length p.table.rows) 0) _ (both (eqb p.floored 1) _ m).1).0

  pub few_filters : length p.table.filters < most_filters
  few_filters = ltb-true _ _ (both (eqb (length p.table.rows) 0) _ (both (eqb p.floored 1) _ m).1).1

  sequenced_filter : Sequenced p → Sequenced (filter_kind.grown f p)
  sequenced_filter q =
      let few = few_filters in
      let c = whole q floored in
      after_floor floored
      (record {
        some_entity = c.some_entity;
        few_entities = c.few_entities;
        six_caps = c.six_caps;
        few_filters = simp length-append (omega arith);
        few_rows = c.few_rows;
      })

  growing_filter : FilterInRange f → Growing p → refusal (filter_content (parents_of p.table) f) ≡ 0
      → Growing (filter_kind.grown f p)
  growing_filter range g c =
      let t = p.table in
      let none = early_filter in
      record {
        sequenced = sequenced_filter g.sequenced;
        entity = λ k h. entity_changed (g.entity k h);
        cap = g.cap;
        floor = g.floor;
        filter =
            each_more (FilterRule (filter_kind.grown f p).table) t.filters f no_filter (λ k h. filter_changed (g.filter k h))
            (filter_changed (filter_kept t f range c));
        row = λ k h. absurd (omega arith);
      }

-- ---- what its bytes say

-- A filter's bytes end with its box, or with one byte more, and an action that they have is one.
pub filter_length_decides : (bs : List ℕ)
    → Decides (filter_length bs) (((length bs ≡ action_place) ⊎ (length bs ≡ action_place + 1)) × (get_or bs action_place 0 ≤ passing))
filter_length_decides bs = decides_and _ _ (decides_or _ _ (decides_eqb _ _) (decides_eqb _ _)) (decides_leb _ _)

pub filter_has_box : (bs : List ℕ) → filter_length bs ≡ true → action_place ≤ length bs
filter_has_box bs h = elim ((filter_length_decides bs).yes h).0 [ inl e ↦ omega arith | inr e ↦ omega arith ]

-- What stands after the box, if it is no more than an action, says the action that is read there, and no other is said.
last_said : (l : List ℕ) → length l ≤ 1 → get_or l 0 0 ≤ passing → SaysAction l (get_or l 0 0)
last_said [] h a = refl
last_said (b ∷ []) h a = (refl, a)
last_said (b ∷ c ∷ l) h a = absurd (omega arith)

last_read : (l : List ℕ) (action : ℕ) → SaysAction l action → (length l ≤ 1) × (get_or l 0 0 ≡ action) × (action ≤ passing)
last_read [] action h = (omega arith, sym h, omega (arith, h))
last_read (b ∷ []) action h = (omega arith, h.0, h.1)
last_read (b ∷ c ∷ l) action h = absurd h

filter_said : (bs : List ℕ) → filter_length bs ≡ true → SaysFilter bs (filter_from bs)
filter_said [] h = absurd (false≢true h)
filter_said (b ∷ bs) h =
    let n = box_bytes box_widths in
    let l = (filter_length_decides (b ∷ bs)).yes h in
    let few : length (drop n bs) ≤ 1 = simp length-drop (elim l.0 [ inl e ↦ omega arith | inr e ↦ omega arith ]) in
    let at : get_or (drop n bs) 0 0 ≡ get_or bs n 0 = get_or-drop n bs 0 0 in
    record {
      box = take n bs;
      selector = box_said_lem 1 box_widths (b ∷ bs) (filter_has_box (b ∷ bs) h);
      last = drop n bs;
      action = subst (SaysAction (drop n bs)) at (last_said (drop n bs) few (rw at l.1));
      bytes = ap (λ (r : List ℕ). b ∷ r) (sym (take-append-drop n bs));
    }

filter_read : (bs : List ℕ) (f : Filter) → SaysFilter bs f → (filter_length bs ≡ true) × (filter_from bs ≡ f)
filter_read bs f s =
    let long = box_length box_widths s.box f.selector s.selector in
    let last = last_read s.last f.action s.action in
    let selector : selector_from 1 box_widths bs ≡ f.selector =
    ap (selector_from 1 box_widths) s.bytes ∙ box_read box_widths s.box f.selector (f.root ∷ []) s.last 1 refl s.selector in
    let action : get_or bs action_place 0 ≡ f.action =
    ap (λ (l : List ℕ). get_or l action_place 0) s.bytes
    ∙ ap (λ (n : ℕ). get_or (f.root ∷ (s.box ++ s.last)) (suc n) 0) (sym long ∙ sym (add-zero (length s.box)))
    ∙ get_or-append-add s.box s.last 0 0
    ∙ last.1 in (
      decides_holds _ (filter_length_decides bs) (ends, rw action last.2),
      λ i. record { root = get_or (s.bytes i) 0 0; selector = selector i; action = action i },
    )
  where
    -- it ends with the box or with one byte more
    ends : (length bs ≡ action_place) ⊎ (length bs ≡ action_place + 1)
    ends =
        let long = box_length box_widths s.box f.selector s.selector in
        let few = (last_read s.last f.action s.action).0 in
        let size : length bs ≡ action_place + length s.last = ap length s.bytes ∙ simp length-append (omega arith) in
        elim (dec_lt (length s.last) 1) [ yes h ↦ inl (omega arith) | no h ↦ inr (omega arith) ]

pub filter_lawful : Lawful FilterInRange filter_kind
filter_lawful =
    record {
      said = filter_said;
      read = filter_read;
      in_range = λ l h. record { selector = selector_fits 1 box_widths l; action = ((filter_length_decides (bytes_of l)).yes h).1 };
      numbered = λ t f. omega arith;
      judges = λ t f few. judges_more (tests_root t f.root) (judges_one (tests_ranges t f.selector));
      one_line = λ p f m. simp length-append (omega arith);
      sequenced = sequenced_filter;
      growing = λ p f i g m c. growing_filter p f m i g c;
    }

-- ---- what keeps the rules is not refused

pub ordered_inhabits : (s : Selector) → Ordered s → inhabited s ≡ true
ordered_inhabits s o = decides_holds (inhabited s) (inhabited_decides s) (ordered_inhabited s o)

pub filter_passes : (t : Table) (f : Filter) → FilterRule t f → refusal (filter_content (parents_of t) f) ≡ 0
filter_passes t f r =
    one_kept (is_root (parents_of t) f.root) bad_number _ (decides_holds _ (is_root_decides t f.root) r.root)
    (one_kept (inhabited f.selector) empty_range [] (ordered_inhabits f.selector r.selector.ordered) none_broken)
