-- The cuts of a field one after another, and the sets that are written for them.
-- Assumes nothing.
use Prim.Native.Nat.{ℕ, ◌+◌, ◌-◌, ◌^◌, ◌≤◌, ◌<◌}
use mathlib.Core.Path.{◌≡◌, sym, subst, ◌∙◌}
use mathlib.Core.List.{List, Memᴰ}
use native.Mathlib.Omega.{arith}
use lib.ListN.{length, get_or, set, length-set}
use lib.Seq.{get_or-set_same, get_or-set_other}
use Rattle.std.specs.Prelude.{Option, Some, None, unwrap_or}
use Rattle.base.proofs.Laws.Firsts.{below_more}
use Rattle.base.proofs.Laws.Lists.{length_tabulate}
use Rattle.base.proofs.Laws.Members.{at_member}
use Rattle.policy.specs.Model.{Range}
use Rattle.policy.specs.Views.{value, range_in}
use Rattle.policy.specs.declared.number.Number.{Number}
use Rattle.relations.specs.Ranges.{Within}
use Rattle.covers.specs.Sets.{In, Numbered, field_of, Narrowed}
use Rattle.covers.proofs.Laws.Places.{of_first, in_first}
use Rattle.covers.specs.Views.{NextValue, comes, end, next_of}
use Rattle.mesh.specs.Promises.{Cut}
use Rattle.mesh.specs.Views.{Nearest, fields_of, cuts_of, AskedField, most_cuts, Marked}
use Rattle.mesh.specs.declared.Mesh.{Mesh}
use Rattle.mesh.proofs.Laws.Cuts.{cuts_laws, cuts_few, cuts_first, cuts_next, cuts_last}

-- ---- one cut after another

-- Cut n of the list, or that there are n.
abbrev pub AtCut : List ℕ → ℕ → NextValue → Type 0
AtCut cs n (comes w) = (n < length cs) × (get_or cs n 0 ≡ w)
AtCut cs n end = n ≡ length cs

-- The sets of the first n intervals are written, and `next` is the next cut.
pub record Filling (m : Mesh) (f : ℕ) (before sets : List ℕ) (n : ℕ) (next : NextValue) : Type 0 where
  pub long : length sets ≡ most_cuts
  pub reached : AtCut (cuts_of m f) n next
  pub marked : Marked m f sets n
  pub others : (i : ℕ) → n ≤ i → get_or sets i 0 ≡ get_or before i 0

-- The cuts of field f of a mesh.
module _ (m : Mesh) (f : ℕ) (asked : AskedField m f) where
  abbrev r : Range
  r = range_in m.bounds.now m.row f

  abbrev cs : List ℕ
  cs = cuts_of m f

  abbrev qs : List Range
  qs = fields_of m f

  pub cuts_fit : length cs ≤ most_cuts
  cuts_fit =
      let n = length_tabulate (field_of m.bounds.now m.boxes.at f) m.boxes.count in
      let h = m.listed.few in
      omega (arith, cuts_few r qs)

  pub at_first : AtCut cs 0 (comes r.low)
  at_first = cuts_first r qs asked.ordered

  -- A cut is in the row's range.
  pub cut_within : (n v : ℕ) → AtCut cs n (comes v) → Within r v
  cut_within n v h = (((cuts_laws r qs asked.ordered).exact v).0 (subst (λ (x : ℕ). Memᴰ x cs) h.1 (at_member 0 cs n h.0))).inside

  -- The nearest after a cut is the next of the list.
  pub at_next : (n v : ℕ) (next : NextValue) → AtCut cs n (comes v) → Nearest (Cut r qs) v next → AtCut cs (n + 1) next
  at_next n v (comes w) h m =
      cuts_next r qs asked.ordered n h.0 w m.0 (omega (arith, h.1, m.1)) (λ x c l. m.2 x c (omega (arith, h.1)))
  at_next n v end h m = cuts_last r qs asked.ordered n h.0 (λ x c l. m x c (omega (arith, h.1)))

  -- There is one where the list goes on.
  pub next_reached : (n : ℕ) (v : Number) (next : Option Number) → n < length cs → AtCut cs n (next_of next) → AtCut cs n (comes (value (unwrap_or next v)))
  next_reached n v (Some w) l h = h
  next_reached n v None l h = absurd (omega arith)

  -- ---- the sets

  pub filling_start : (before : List ℕ) (low : ℕ) → length before ≡ most_cuts → low ≡ r.low → Filling m f before before 0 (comes low)
  filling_start before low l e = record {
    long = l;
    reached = subst (λ (x : ℕ). AtCut cs 0 (comes x)) (sym e) at_first;
    marked = λ i h. absurd (omega arith);
    others = λ i h x. get_or before i 0;
  }

  -- Where there is a next cut, there is room for its set.
  pub filling_room : (before sets : List ℕ) (n v : ℕ) → Filling m f before sets n (comes v) → n < most_cuts
  filling_room before sets n v h = let a = h.reached.0 in omega (arith, cuts_fit)

  -- The boxes of all are those of the list.
  of_all : (v s : ℕ) → Narrowed (field_of m.bounds.now m.boxes.at f) (In (2 ^ m.boxes.count - 1)) v (In s)
      → Narrowed (field_of m.bounds.now m.boxes.at f) (λ k. k < m.boxes.count) v (In s)
  of_all v s h = record {
    part = λ k i. of_first m.boxes.count k (h.part k i);
    holds = h.holds;
    all = λ k i. h.all k (in_first m.boxes.count k i);
  }

  pub filling_next : (before sets : List ℕ) (n v s : ℕ) (next : NextValue) → Filling m f before sets n (comes v)
      → Narrowed (field_of m.bounds.now m.boxes.at f) (In (2 ^ m.boxes.count - 1)) v (In s) → Nearest (Cut r qs) v next
      → Filling m f before (set sets n s) (n + 1) next
  filling_next before sets n v s next h w near = record {
    long = length-set sets n s ∙ h.long;
    reached = at_next n v next h.reached near;
    marked =
        let b = h.reached.0 in
        below_more (λ i. Narrowed (field_of m.bounds.now m.boxes.at f) (λ j. j < m.boxes.count) (get_or cs i 0) (In (get_or (set sets n s) i 0))) n
        (λ i k.
        subst (λ (x : ℕ). Narrowed (field_of m.bounds.now m.boxes.at f) (λ j. j < m.boxes.count) (get_or cs i 0) (In x))
        (sym (get_or-set_other sets n i s 0 (λ e. omega arith))) (h.marked i k))
        (subst (λ (x : ℕ). Narrowed (field_of m.bounds.now m.boxes.at f) (λ j. j < m.boxes.count) (get_or cs n 0) (In x))
        (sym (get_or-set_same sets n s 0 (omega (arith, h.long, cuts_fit))))
        (subst (λ (x : ℕ). Narrowed (field_of m.bounds.now m.boxes.at f) (λ j. j < m.boxes.count) x (In s)) (sym h.reached.1) (of_all v s w)));
    others = λ i k. get_or-set_other sets n i s 0 (λ e. omega arith) ∙ h.others i (omega arith);
  }

  -- All boxes of the list are selectors.
  pub all_numbered : Numbered m.boxes.at (2 ^ m.boxes.count - 1)
  all_numbered k i = m.listed.within k (of_first m.boxes.count k i)
