-- How the filters and rows of an accepted text are taken:
--   Left, First: the lines that are left say some frames, and the first of them says the first
--   FilterPart, RowPart: what the frame's own reader is given of a filter's line, and of a row's, says just the filter or the row
--   Filtered: the first filters of the table stand in the runs, and the lines that are left say the others and the rows
--   Rowed: so do all filters and the first rows
--   Taken, taken_start, taken_all: which of both it is, by how many lines were read
--   taken_long, taken_filter_part, taken_filter_rule, taken_filter, taken_row_some, taken_row_part, taken_row_rule, taken_row: one line more
--   rowed_all: the struct then stands for the table
-- Assumes nothing.
use mathlib.Core.Path.{◌≡◌, refl, ap, sym, subst, ◌∙◌}
use mathlib.Core.Bool.{true}
use mathlib.Core.List.{List, [], ◌∷◌, ◌++◌, map, append_assoc, Memᴰ}
use Prim.Native.Nat.{ℕ, zero, suc, ◌+◌, ◌*◌, ◌-◌, ◌≤◌, ◌<◌}
use native.Mathlib.Omega.{arith}
use native.Mathlib.Numerals.{add-one}
use lib.ListN.{length, get_or, take, drop, set, length-append, length-map, length-drop, length-set}
use lib.Seq.{drop-cons, drop_at, drop-length, take-suc, take-length, length-sets}
use Rattle.base.specs.Lists.{tabulate}
use Rattle.base.proofs.Laws.Lists.{tabulate_counted}
use Rattle.hexlines.specs.Lines.{is_line, bytes_of}
use Rattle.hexlines.proofs.Laws.Lines.{length_bytes_of, line_length_lem, bytes_of_line}
use Rattle.policy.specs.Limits.{most_filters, most_rows, most_selectors, most_gateways, word_count, head_count}
use Rattle.policy.specs.Model.{Filter, Row, Table, no_filter, no_row, filter_at, row_at}
use Rattle.policy.specs.Wellformed.{SelectorRule, Wellformed}
use Rattle.policy.specs.Views.{selector_of, filter_of, row_of, filter_in, row_from, rows_in, Stands}
use Rattle.policy.specs.Words.{words_of}
use Rattle.policy.specs.Writes.{put_selector, head_of, put_head}
use Rattle.policy.specs.declared.row.Filter.{Filter as FilterStruct}
use Rattle.policy.specs.declared.row.Row.{Row as RowStruct}
use Rattle.policy.specs.declared.table.Table.{Table as TableStruct}
use Rattle.policy.proofs.Laws.Lists.{filters_grown, filters_kept, rows_grown}
use Rattle.frames.specs.Parts.{box_widths}
use Rattle.frames.specs.Filters.{action_place, filter_from}
use Rattle.frames.specs.Rows.{row_length, row_frame}
use Rattle.frames.specs.Progress.{all_read}
use Rattle.frames.specs.Kinds.{FrameName, of_filter, of_row, of_entity, of_floor, Value, describe}
use Rattle.frames.proofs.Laws.Filters.{filter_has_box}
use Rattle.frames.proofs.Laws.Kinds.{lawful}
use Rattle.reader.specs.Lines.{lines_of}
use Rattle.reader.specs.Frames.{Frame, a_frame, a_row, frame_of}
use Rattle.reader.specs.Rules.{cap_frames, frames_of, KeepsRules}
use Rattle.reader.specs.Views.{Ready, Has}
use Rattle.reader.specs.declared.state.State.{State as StateStruct}
use Rattle.reader.proofs.Laws.Forms.{frame_said}
use Rattle.reader.proofs.Laws.Lines.{rest_all}
use Rattle.reader.proofs.Laws.Rows.{caps_counted}
use Rattle.reader.proofs.Laws.Rules.{line_frame, Digits}

-- ---- the lines that are left

-- They are pairs of digits, and say these frames.
pub record Left (lines : List (List ℕ)) (fs : List Frame) : Type 0 where
  pub digits : Digits lines
  pub frames : map line_frame lines ≡ fs

-- The line says the frame f, and those after it say fs.
pub record First (line : List ℕ) (after : List (List ℕ)) (f : Frame) (fs : List Frame) : Type 0 where
  pub digits : is_line line ≡ true
  pub frame : frame_of (bytes_of line) ≡ f
  pub next : Left after fs

left_first : {line : List ℕ} {after : List (List ℕ)} {f : Frame} {fs : List Frame} → Left (line ∷ after) (f ∷ fs) → First line after f fs
left_first {line} {after} {f} {fs} h =
    let said : line_frame line ∷ map line_frame after ≡ f ∷ fs = h.frames in
    record { digits = h.digits line (Memᴰ.head refl); frame = cc; next = record { digits = λ m i. h.digits m (Memᴰ.tail i); frames = cc } }

-- ---- what a line says

-- The bytes after the kind byte have the kind's length, and say just the value.
line_says : (l : List ℕ) (k : FrameName) (v : Value k) → is_line l ≡ true → frame_of (bytes_of l) ≡ a_frame k v
    → ((describe k).long (bytes_of (drop 2 l)) ≡ true) × ((describe k).value (bytes_of (drop 2 l)) ≡ v)
line_says l k v i e =
    let s = (frame_said (get_or (bytes_of l) 0 0 ∷ bytes_of (drop 2 l)) (a_frame k v)).0 (ap frame_of (sym (bytes_of_line l i)) ∙ e) in
    (lawful k).read (bytes_of (drop 2 l)) v s.1

-- The line after its first two characters, as the code takes it.
abbrev pub part_of : List ℕ → List ℕ
part_of line = take (length line - 2) (drop 2 line)

-- What the filter's reader asks of the part of the line after its first two characters, and what it says.
pub record FilterPart (part : List ℕ) (f : Filter) : Type 0 where
  pub long : 2 * action_place ≤ length part
  pub says : filter_from (bytes_of part) ≡ f

pub record RowPart (part : List ℕ) (r : Row) : Type 0 where
  pub long : row_length box_widths (bytes_of part) ≡ true
  pub says : row_frame box_widths (bytes_of part) ≡ r

module _ {line : List ℕ} {after : List (List ℕ)} {fs : List Frame} where
  filter_part : (f : Filter) → First line after (a_frame of_filter f) fs → FilterPart (part_of line) f
  filter_part f h =
      let x = rw (← rest_all line 2) at (line_says line of_filter f h.digits h.frame) in
      let n = filter_has_box (bytes_of (part_of line)) x.0 in
      let m = length_bytes_of (part_of line) in
      record { long = omega arith; says = x.1 }

  row_part : (r : Row) → First line after (a_row r) fs → RowPart (part_of line) r
  row_part r h = let x = rw (← rest_all line 2) at (line_says line of_row r h.digits h.frame) in record { long = x.0; says = x.1 }

-- ---- the lines after the floor's

map_dropped : {A B : Type 0} (f : A → B) (n : ℕ) (l : List A) → map f (drop n l) ≡ drop n (map f l)
map_dropped f zero l = refl
map_dropped f (suc n) [] = refl
map_dropped f (suc n) (x ∷ l) = map_dropped f n l

among_dropped : {A : Type 0} (n : ℕ) (l : List A) (x : A) → Memᴰ x (drop n l) → Memᴰ x l
among_dropped zero l x m = m
among_dropped (suc n) [] x m = m
among_dropped (suc n) (y ∷ l) x m = Memᴰ.tail (among_dropped n l x m)

-- The frames of the filters from k on, and of the rows.
abbrev later_frames : Table → ℕ → List Frame
later_frames t k = map (a_frame of_filter) (drop k t.filters) ++ map a_row t.rows

later_frames_lem : (t : Table) (n : ℕ) → n ≡ length t.entities + length t.caps + 1 → drop n (frames_of t) ≡ later_frames t 0
later_frames_lem t n e =
    let es = map (a_frame of_entity) t.entities in
    let cs = cap_frames 1 t.caps in
    let fl = a_frame of_floor t.floor in
    let apart : frames_of t ≡ (es ++ (cs ++ (fl ∷ []))) ++ later_frames t 0 = simp append_assoc in
    let long : length (es ++ (cs ++ (fl ∷ []))) ≡ n = simp (length-append, length-map, caps_counted) (omega arith) in
    ap (λ fs. drop n fs) apart ∙ drop_at (es ++ (cs ++ (fl ∷ []))) (later_frames t 0) n long

left_start : (text : List ℕ) (t : Table) (n : ℕ) → KeepsRules text t → n ≡ length t.entities + length t.caps + 1
    → Left (drop n (lines_of text)) (later_frames t 0)
left_start text t n k e =
    record {
      digits = λ l m. k.says.digits l (among_dropped n (lines_of text) l m);
      frames = map_dropped line_frame n (lines_of text) ∙ ap (λ fs. drop n fs) k.says.frames ∙ later_frames_lem t n e;
    }

-- ---- the filters

-- The first k filters of the table stand in the runs, and the lines that are left say the others, and the rows.
pub record Filtered (t : Table) (roots actions bounds : List ℕ) (lines : List (List ℕ)) (k : ℕ) : Type 0 where
  pub left : Left lines (later_frames t k)
  pub few : k ≤ length t.filters
  pub filters : tabulate (filter_in roots actions bounds) k ≡ take k t.filters
  pub all_roots : length roots ≡ most_filters
  pub all_actions : length actions ≡ most_filters
  pub all_bounds : length bounds ≡ word_count * most_selectors

module _ (t : Table) (well : Wellformed t) (k : ℕ) (b : k < length t.filters) where
  filter_next : later_frames t k ≡ a_frame of_filter (filter_at t k) ∷ later_frames t (k + 1)
  filter_next = rw (add-one k, drop-cons t.filters k no_filter b)

  filter_rule : (f : FilterStruct) → filter_of f ≡ filter_at t k → SelectorRule (selector_of f.selector)
  filter_rule f e = subst (λ s. SelectorRule s) (ap (λ (x : Filter). x.selector) (sym e)) (well.filter k b).selector

  -- With the filter of one line more.
  filtered_more : {roots actions bounds roots' actions' bounds' : List ℕ} {lines after : List (List ℕ)} (f : FilterStruct)
      → Filtered t roots actions bounds lines k → Left after (later_frames t (k + 1)) → filter_of f ≡ filter_at t k
      → roots' ≡ set roots k f.root → actions' ≡ set actions k f.action
      → bounds' ≡ put_selector bounds (most_rows + k) (selector_of f.selector) → Filtered t roots' actions' bounds' after (k + 1)
  filtered_more {roots} {actions} {bounds} f h l e r a p =
      let few = well.counts.few_filters in
      let hr = h.all_roots in
      let ha = h.all_actions in
      let hb = h.all_bounds in
      record {
        left = l;
        few = omega arith;
        filters =
            (λ j. tabulate (filter_in (r j) (a j) (p j)) (k + 1))
            ∙ filters_grown roots actions bounds k (filter_of f) (omega arith) (omega arith) (filter_rule f e) (omega arith)
            ∙ (λ j. h.filters j ++ (e j ∷ []))
            ∙ sym (take-suc t.filters k no_filter b)
            ∙ ap (λ n. take n t.filters) (sym (add-one k));
        all_roots = ap length r ∙ length-set roots k f.root ∙ h.all_roots;
        all_actions = ap length a ∙ length-set actions k f.action ∙ h.all_actions;
        all_bounds = ap length p ∙ length-sets bounds (word_count * (most_rows + k)) (words_of (selector_of f.selector)) ∙ h.all_bounds;
      }

-- ---- the rows

-- All filters and the first i rows of the table stand in the runs, and the lines that are left say the other rows.
pub record Rowed (t : Table) (roots actions heads bounds : List ℕ) (lines : List (List ℕ)) (i : ℕ) : Type 0 where
  pub left : Left lines (map a_row (drop i t.rows))
  pub few : i ≤ length t.rows
  pub filters : tabulate (filter_in roots actions bounds) (length t.filters) ≡ t.filters
  pub rows : rows_in heads bounds i ≡ take i t.rows
  pub all_heads : length heads ≡ head_count * most_rows
  pub all_bounds : length bounds ≡ word_count * most_selectors

rowed_start : (t : Table) {roots actions heads bounds : List ℕ} {lines : List (List ℕ)} {k : ℕ} → Filtered t roots actions bounds lines k
    → k ≡ length t.filters → length heads ≡ head_count * most_rows → Rowed t roots actions heads bounds lines 0
rowed_start t {roots} {actions} {heads} {bounds} {k = k} h e n =
    let none : drop k t.filters ≡ [] = ap (λ m. drop m t.filters) e ∙ drop-length t.filters in
    record {
      left = rw none at h.left;
      few = omega arith;
      filters = ap (λ m. tabulate (filter_in roots actions bounds) m) (sym e) ∙ h.filters ∙ ap (λ m. take m t.filters) e ∙ take-length t.filters;
      rows = refl;
      all_heads = n;
      all_bounds = h.all_bounds;
    }

-- The bytes that are written for a row are those of the row that is read again.
row_again : (r : RowStruct) → length r.gateways ≡ most_gateways → row_from (head_of r) (selector_of r.selector) ≡ row_of r
row_again r e =
    rw (tabulate_counted (λ k. get_or r.gateways k 0) most_gateways r.gateways 0 e (λ k b. refl))

module _ (t : Table) (well : Wellformed t) (i : ℕ) (b : i < length t.rows) where
  row_next : map a_row (drop i t.rows) ≡ a_row (row_at t i) ∷ map a_row (drop (i + 1) t.rows)
  row_next = rw (add-one i, drop-cons t.rows i no_row b)

  row_rule : (r : RowStruct) → row_of r ≡ row_at t i → SelectorRule (selector_of r.selector)
  row_rule r e = subst (λ s. SelectorRule s) (ap (λ (x : Row). x.selector) (sym e)) (well.row i b).selector

  -- With the row of one line more.
  rowed_more : {roots actions heads bounds heads' bounds' : List ℕ} {lines after : List (List ℕ)} (r : RowStruct)
      → length r.gateways ≡ most_gateways
      → Rowed t roots actions heads bounds lines i → Left after (map a_row (drop (i + 1) t.rows)) → row_of r ≡ row_at t i
      → heads' ≡ put_head heads i (head_of r) → bounds' ≡ put_selector bounds i (selector_of r.selector)
      → Rowed t roots actions heads' bounds' after (i + 1)
  rowed_more {roots} {actions} {heads} {bounds} r g h l e p q =
      let few = well.counts.few_rows in
      let hh = h.all_heads in
      let hb = h.all_bounds in
      let s = selector_of r.selector in
      record {
        left = l;
        few = omega arith;
        filters =
            ap (λ x. tabulate (filter_in roots actions x) (length t.filters)) q
            ∙ filters_kept bounds i s (row_rule r e) roots actions (length t.filters) (omega arith)
            ∙ h.filters;
        rows =
            (λ j. rows_in (p j) (q j) (i + 1))
            ∙ rows_grown heads bounds i (head_of r) s refl (omega arith) (row_rule r e) (omega arith)
            ∙ (λ j. h.rows j ++ ((row_again r g ∙ e) j ∷ []))
            ∙ sym (take-suc t.rows i no_row b)
            ∙ ap (λ n. take n t.rows) (sym (add-one i));
        all_heads = ap length p ∙ length-sets heads (head_count * i) (head_of r) ∙ h.all_heads;
        all_bounds = ap length q ∙ length-sets bounds (word_count * i) (words_of s) ∙ h.all_bounds;
      }

-- ---- the filters, and after them the rows

-- After n lines: they are filters', or all filters' and i rows'.
pub data Taken (t : Table) (roots actions heads bounds : List ℕ) (lines : List (List ℕ)) (n : ℕ) : Type 0 where
  filtering : Filtered t roots actions bounds lines n → length heads ≡ head_count * most_rows → Taken t roots actions heads bounds lines n
  rowing : (i : ℕ) → n ≡ length t.filters + i → Rowed t roots actions heads bounds lines i → Taken t roots actions heads bounds lines n

-- Before the lines after the floor's, the runs have their lengths.
pub taken_start : (text : List ℕ) (t : Table) {roots actions heads bounds : List ℕ} {lines : List (List ℕ)} (n k : ℕ) → KeepsRules text t
    → n ≡ length t.entities + length t.caps + 1 → lines ≡ drop n (lines_of text) → k ≡ 0 → length roots ≡ most_filters → length actions ≡ most_filters
    → length heads ≡ head_count * most_rows → length bounds ≡ word_count * most_selectors → Taken t roots actions heads bounds lines k
taken_start text t {roots} {actions} {heads} {bounds} {lines} n k keeps e l z r a h b =
    subst (Taken t roots actions heads bounds lines) (sym z)
    (filtering
    (record {
      left = subst (λ ls. Left ls (later_frames t 0)) (sym l) (left_start text t n keeps e);
      few = omega arith;
      filters = refl;
      all_roots = r;
      all_actions = a;
      all_bounds = b;
    })
    h)

module _ {t : Table} {roots actions heads bounds : List ℕ} {lines : List (List ℕ)} {n : ℕ} where
  -- With fewer lines than filters, they are filters'.
  taken_filters : Taken t roots actions heads bounds lines n → n < length t.filters
      → Filtered t roots actions bounds lines n × (length heads ≡ head_count * most_rows)
  taken_filters (filtering f h) b = (f, h)
  taken_filters (rowing i e r) b = absurd (omega arith)

  -- With i lines more than filters, i are rows'.
  taken_rows : Taken t roots actions heads bounds lines n → (i : ℕ) → n ≡ length t.filters + i → Rowed t roots actions heads bounds lines i
  taken_rows (filtering f h) i e =
      let few = f.few in
      let z : 0 ≡ i = omega arith in
      subst (Rowed t roots actions heads bounds lines) z (rowed_start t f (omega arith) h)
  taken_rows (rowing j k r) i e = let z : j ≡ i = omega arith in subst (Rowed t roots actions heads bounds lines) z r

  -- Where no line is left, all filters and all rows stand in the runs.
  pub taken_all : Taken t roots actions heads bounds lines n → lines ≡ [] → Rowed t roots actions heads bounds lines (length t.rows)
  taken_all (filtering f h) none =
      let few = f.few in
      let e : length (later_frames t n) ≡ 0 = ap length (sym f.left.frames) ∙ ap (λ ls. length (map line_frame ls)) none in
      let k = simp (length-append, length-map, length-drop) at e in
      let z : 0 ≡ length t.rows = omega arith in
      subst (Rowed t roots actions heads bounds lines) z (rowed_start t f (omega arith) h)
  taken_all (rowing i k r) none =
      let few = r.few in
      let e : length (map a_row (drop i t.rows)) ≡ 0 = ap length (sym r.left.frames) ∙ ap (λ ls. length (map line_frame ls)) none in
      let m = simp (length-map, length-drop) at e in
      let z : i ≡ length t.rows = omega arith in
      subst (Rowed t roots actions heads bounds lines) z r

-- One line more: the first of those that are left.
module _ {t : Table} {roots actions heads bounds : List ℕ} {lines : List (List ℕ)} {k : ℕ} (h : Taken t roots actions heads bounds lines k)
    {line : List ℕ} {after : List (List ℕ)} (e : lines ≡ line ∷ after) where
  pub taken_long : 2 ≤ length line
  taken_long = line_length_lem line (go h)
    where
      one : Digits lines → is_line line ≡ true
      one d = (rw e at d) line (Memᴰ.head refl)

      go : Taken t roots actions heads bounds lines k → is_line line ≡ true
      go (filtering f x) = one f.left.digits
      go (rowing i q r) = one r.left.digits

  module _ (well : Wellformed t) where
    -- a filter's
    module _ (b : k < length t.filters) where
      first_filter : First line after (a_frame of_filter (filter_at t k)) (later_frames t (k + 1))
      first_filter = left_first (rw (e, filter_next t well k b) at (taken_filters h b).0.left)

      pub taken_filter_part : FilterPart (part_of line) (filter_at t k)
      taken_filter_part = filter_part (filter_at t k) first_filter

      module _ (f : FilterStruct) (says : filter_of f ≡ filter_from (bytes_of (part_of line))) where
        pub taken_filter_rule : SelectorRule (selector_of f.selector)
        taken_filter_rule = filter_rule t well k b f (says ∙ taken_filter_part.says)

        pub taken_filter : (n m : ℕ) {roots' actions' bounds' : List ℕ} → n ≡ k → m ≡ k + 1
            → roots' ≡ set roots n f.root → actions' ≡ set actions n f.action
            → bounds' ≡ put_selector bounds (most_rows + n) (selector_of f.selector) → Taken t roots' actions' heads bounds' after m
        taken_filter n m {roots'} {actions'} {bounds'} q p r a w =
            let more =
            filtered_more t well k b f (taken_filters h b).0 first_filter.next (says ∙ taken_filter_part.says) (r ∙ ap (λ j. set roots j f.root) q)
            (a ∙ ap (λ j. set actions j f.action) q) (w ∙ ap (λ j. put_selector bounds (most_rows + j) (selector_of f.selector)) q) in
            subst (Taken t roots' actions' heads bounds' after) (sym p) (filtering more (taken_filters h b).1)

    -- a row's
    module _ (i : ℕ) (z : k ≡ length t.filters + i) where
      row : Rowed t roots actions heads bounds lines i
      row = taken_rows h i z

      pub taken_row_some : i < length t.rows
      taken_row_some =
          let few = row.few in
          let x : suc (length (map line_frame after)) ≡ length (map a_row (drop i t.rows)) =
          ap (λ ls. length (map line_frame ls)) (sym e) ∙ ap length row.left.frames in
          let n = simp (length-map, length-drop) at x in
          omega arith

      first_row : First line after (a_row (row_at t i)) (map a_row (drop (i + 1) t.rows))
      first_row = left_first (rw (e, row_next t well i taken_row_some) at row.left)

      pub taken_row_part : RowPart (part_of line) (row_at t i)
      taken_row_part = row_part (row_at t i) first_row

      module _ (r : RowStruct) (says : row_of r ≡ row_frame box_widths (bytes_of (part_of line))) where
        pub taken_row_rule : SelectorRule (selector_of r.selector)
        taken_row_rule = row_rule t well i taken_row_some r (says ∙ taken_row_part.says)

        pub taken_row : (m : ℕ) {heads' bounds' : List ℕ} → length r.gateways ≡ most_gateways → m ≡ k + 1 → heads' ≡ put_head heads i (head_of r)
            → bounds' ≡ put_selector bounds i (selector_of r.selector) → Taken t roots actions heads' bounds' after m
        taken_row m g p x y =
            rowing (i + 1) (omega arith)
            (rowed_more t well i taken_row_some r g row first_row.next (says ∙ taken_row_part.says) x y)

-- ---- the table

-- What the state has, and the runs.
abbrev pub table_from : StateStruct → (roots actions heads bounds : List ℕ) → TableStruct
table_from s roots actions heads bounds =
    record {
      entities = s.entities;
      parents = s.parents;
      layers = s.layers;
      masks = s.masks;
      capped = s.capped;
      caps = s.caps;
      floor = s.floor;
      filters = s.filters;
      filter_roots = roots;
      filter_actions = actions;
      rows = s.rows;
      heads = heads;
      bounds = bounds;
    }

pub rowed_all : (t : Table) {roots actions heads bounds : List ℕ} {lines : List (List ℕ)} {i : ℕ} (s : StateStruct) → Ready s → Has s (all_read t)
    → Rowed t roots actions heads bounds lines i → i ≡ length t.rows → Stands (table_from s roots actions heads bounds) t
rowed_all t {roots} {actions} {heads} {bounds} {i = i} s ready has h n =
    let all : s.rows ≡ i = has.rows ∙ sym n in
    let filters = ap (λ m. tabulate (filter_in roots actions bounds) m) has.filters ∙ h.filters in
    let rows = ap (λ m. rows_in heads bounds m) all ∙ h.rows ∙ ap (λ m. take m t.rows) n ∙ take-length t.rows in
    record {
      same = λ j. record { entities = has.entities j; caps = has.caps j; floor = has.floor j; filters = filters j; rows = rows j };
      held =
          record { entities = ready.entities; capped = ready.capped; filters = ready.filters; rows = ready.rows; unused = ready.unused };
    }
