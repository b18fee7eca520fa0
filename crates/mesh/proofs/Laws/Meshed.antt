-- From cells by number to packets: the sets of all fields, the boxes that have a cell, the cell of a packet, and the answer.
-- Assumes nothing.
use Prim.Native.Nat.{ℕ, ◌+◌, ◌≤◌, ◌<◌}
use mathlib.Core.Path.{◌≡◌, refl, sym, ap, subst, ◌∙◌}
use mathlib.Core.Bool.{Bool, true, false}
use mathlib.Core.Logic.{◌⊎◌, inl, inr}
use mathlib.Core.List.{List, [], Memᴰ}
use native.Mathlib.Decide.{dec_lt}
use native.Mathlib.Omega.{arith}
use lib.ListN.{length, get_or, set, replicate, get_or-replicate}
use lib.Seq.{get_or-set_same, get_or-set_other}
use Rattle.std.specs.Prelude.{Option, Some, None}
use Rattle.base.specs.Truths.{Decides}
use Rattle.base.proofs.Laws.Firsts.{below_more}
use Rattle.base.proofs.Laws.Lists.{length_tabulate, get_d_tabulate}
use Rattle.base.proofs.Laws.Members.{at_member}
use Rattle.policy.specs.Limits.{field_count}
use Rattle.policy.specs.Model.{Range, Selector, Packet, no_range}
use Rattle.policy.specs.Views.{range_in, selector_in}
use Rattle.relations.specs.Ranges.{Within}
use Rattle.relations.specs.Selectors.{Holds}
use Rattle.relations.proofs.Laws.Selectors.{holds_length}
use Rattle.covers.specs.Least.{found, none, ◌≤ₚ◌, Claimed, Right}
use Rattle.covers.specs.Sets.{In, field_of, Narrowed}
use Rattle.covers.specs.Views.{boxes_at}
use Rattle.covers.proofs.Laws.Least.{EachSized, sized_listed, right_unique}
use Rattle.covers.proofs.Laws.Places.{place_listed, listed_place}
use Rattle.mesh.specs.Mesh.{mesh, claimed}
use Rattle.mesh.specs.Views.{fields_of, cuts_of, AskedRow, AskedField, set_at, Marked, Written}
use Rattle.mesh.specs.declared.Mesh.{Mesh}
use Rattle.mesh.specs.Blocks.{at, least_of, HasCuts, Claims, Free, Inside, IsBlock, Earlier, Before, Better, First}
use Rattle.mesh.proofs.Laws.Cuts.{cuts_laws, cuts_first, cuts_interval, ascends_at}
use Rattle.mesh.proofs.Laws.Cells.{cells_laws, claimed_decides}
use Rattle.mesh.proofs.Laws.Filled.{cuts_fit, cut_within}
use Rattle.mesh.proofs.Laws.Loops.{SameBefore}
use Rattle.mesh.proofs.Laws.Blocks.{differ}
use Rattle.mesh.proofs.Laws.Fields.{holds_field, fields_hold, ordered_field, lower_most, choose}

pub asked_field : (m : Mesh) (f : ℕ) → AskedRow m → f < field_count → AskedField m f
asked_field m f a l = record { row = a.row; field = l; ordered = ordered_field (range_in m.bounds.now m.row) field_count a.ordered f l }

-- ---- the sets of all fields

-- The sets of field f are of its n intervals.
pub record ReadyAt (m : Mesh) (f : ℕ) (sets : List ℕ) (n : ℕ) : Type 0 where
  pub counted : n ≡ length (cuts_of m f)
  pub marked : Marked m f sets n

-- The first n fields have their sets, and `past` says how many.
abbrev pub Ready : (m : Mesh) (sets : List (List ℕ)) (past : List ℕ) (n : ℕ) → Type 0
Ready m sets past n = (f : ℕ) → f < n → ReadyAt m f (get_or sets f []) (at past f)

pub ready_next : (m : Mesh) (sets : List (List ℕ)) (past before own : List ℕ) (n k : ℕ) → n < length sets → n < length past → Ready m sets past n
    → Written m n before own k → Ready m (set sets n own) (set past n k) (n + 1)
ready_next m sets past before own n k a b r w =
    below_more (λ f. ReadyAt m f (get_or (set sets n own) f []) (at (set past n k) f)) n
    (λ f l. let q : f ≡ n → ⊥ = λ e. omega arith in rw (get_or-set_other sets n f own [] q, get_or-set_other past n f k 0 q) (r f l))
    (rw (get_or-set_same sets n own [] a, get_or-set_same past n k 0 b) (record { counted = w.counted; marked = w.marked }))

-- After the last field all have their sets.
pub ready_all : (m : Mesh) (sets : List (List ℕ)) (past : List ℕ) (n : ℕ) → n ≤ field_count → field_count ≤ n → Ready m sets past n
    → Ready m sets past field_count
ready_all m sets past n a b r f l = r f (omega arith)

-- ---- cells and boxes

-- The code's first cell has the first interval of each field.
pub all_lowest : (f : ℕ) → f < field_count → at (replicate field_count 0) f ≡ 0
all_lowest f l = get_or-replicate {A = ℕ} field_count f 0 0 l

module _ (M : Mesh) (asked : AskedRow M) (sets : List (List ℕ)) (past : List ℕ) (ready : Ready M sets past field_count) where
  abbrev cs : ℕ → List ℕ
  cs f = cuts_of M f

  abbrev field : (f k : ℕ) → Range
  field f k = field_of M.bounds.now M.boxes.at f k

  abbrev s : Selector
  s = selector_in M.bounds.now M.row

  abbrev bs : List Selector
  bs = boxes_at M.bounds.now M.boxes 0

  abbrev least : List ℕ → Packet
  least c = least_of M c

  asked_at : (f : ℕ) → f < field_count → AskedField M f
  asked_at f l = asked_field M f asked l

  -- The block of all cells.
  pub all_cells : IsBlock (replicate field_count 0) past
  all_cells f l =
      let z = all_lowest f l in
      let n = (ready f l).counted in
      let m = cuts_first (range_in M.bounds.now M.row f) (fields_of M f) (asked_at f l).ordered in
      (omega (arith, m.0), let k = cuts_fit M f (asked_at f l) in omega arith)

  -- The set of an interval is of the boxes that hold its cut.
  set_of : (f : ℕ) → f < field_count → (i : ℕ) → i < length (cs f) → Narrowed (field f) (λ k. k < M.boxes.count) (get_or (cs f) i 0) (In (set_at sets f i))
  set_of f l i h = let e = (ready f l).counted in (ready f l).marked i (omega arith)

  -- A box has a cell exactly when it has the cell's least packet.
  claims_holds : (c : List ℕ) (k : ℕ) → HasCuts M c → Claims sets c k
      → (k < M.boxes.count) × ((f : ℕ) → f < field_count → Within (field f k) (get_or (cs f) (at c f) 0))
  claims_holds c k i h =
      let z : 0 < field_count = omega arith in
      ((set_of 0 z (at c 0) (i 0 z)).part k (h 0 z), λ f l. (set_of f l (at c f) (i f l)).holds k (h f l))

  holds_claims : (c : List ℕ) (k : ℕ) → HasCuts M c → k < M.boxes.count
      → ((f : ℕ) → f < field_count → Within (field f k) (get_or (cs f) (at c f) 0)) → Claims sets c k
  holds_claims c k i m h f l = (set_of f l (at c f) (i f l)).all k m (h f l)

  -- So a free cell's least packet is in no box.
  free_unclaimed : (c : List ℕ) → HasCuts M c → Free sets c → Claimed bs (least c) → ⊥
  free_unclaimed c i free q =
      let k = listed_place M.boxes M.listed (selector_in M.bounds.now) q.box q.listed in
      let h : Holds (selector_in M.bounds.now (get_or M.boxes.at k.0 0)) (least c) = subst (λ (b : Selector). Holds b (least c)) (sym k.2) q.holds in
      free k.0
      (holds_claims c k.0 i k.1
      (λ f l. subst (Within (field f k.0)) (get_d_tabulate (λ f. get_or (cs f) (at c f) 0) field_count f 0 l)
      (holds_field (range_in M.bounds.now (get_or M.boxes.at k.0 0)) field_count (least c) h f l)))

  -- ---- the cell of a packet

  -- The interval of x in field f: its cut is at most x, and in the same of the boxes.
  abbrev Interval : (f x i : ℕ) → Type 0
  Interval f x i = (i < length (cs f)) × (get_or (cs f) i 0 ≤ x) × ((k : ℕ) → k < M.boxes.count → Within (field f k) (get_or (cs f) i 0) → Within (field f k) x)

  interval_of : (f x : ℕ) → f < field_count → Within (range_in M.bounds.now M.row f) x → (i : ℕ) × Interval f x i
  interval_of f x l w =
      let qs = fields_of M f in
      let v = cuts_interval (range_in M.bounds.now M.row f) qs (asked_at f l).ordered x w in (
        v.0,
        (
          v.1,
          v.2,
          λ k h. (v.3 (field f k)
              (subst (λ (q : Range). Memᴰ q qs) (get_d_tabulate (field f) M.boxes.count k no_range h)
              (at_member no_range qs k (omega (arith, length_tabulate (field f) M.boxes.count))))).0,
        ),
      )

  cell_of : (q : Packet) → Holds s q → (c : List ℕ) × ((f : ℕ) → f < field_count → Interval f (get_or q f 0) (at c f))
  cell_of q h =
      choose (λ f i. Interval f (get_or q f 0) i) field_count (λ f l. interval_of f (get_or q f 0) l (holds_field (range_in M.bounds.now M.row) field_count q h f l))

  -- The cell of a packet that is in no box is free.
  unclaimed_free : (q : Packet) → Holds s q → (Claimed bs q → ⊥) → (c : List ℕ) → ((f : ℕ) → f < field_count → Interval f (get_or q f 0) (at c f)) → Free sets c
  unclaimed_free q h n c i k m =
      let w = claims_holds c k (λ f l. (i f l).0) m in
      n
      (record {
        box = selector_in M.bounds.now (get_or M.boxes.at k 0);
        listed = place_listed M.boxes M.listed (selector_in M.bounds.now) k w.0;
        holds =
            fields_hold (range_in M.bounds.now (get_or M.boxes.at k 0)) field_count q (holds_length s q h ∙ length_tabulate (range_in M.bounds.now M.row) field_count)
            (λ f l. (i f l).2 k w.0 (w.1 f l));
      })

  -- ---- the answer

  mesh_right : Right s bs (mesh s bs)
  mesh_right = (cells_laws s bs asked.ordered sized).right
    where
      sized : EachSized (length s) bs
      sized =
          sized_listed (length s) bs
          (λ b m. let k = listed_place M.boxes M.listed (selector_in M.bounds.now) b m in sym (ap length k.2))

  -- A cell that is not after the cell of a packet has a least packet that is at most the packet.
  not_after : (r c : List ℕ) (q : Packet) → HasCuts M r → length q ≡ field_count
      → ((f : ℕ) → f < field_count → Interval f (get_or q f 0) (at c f)) → (Earlier c r → ⊥) → least r ≤ₚ q
  not_after r c q i e v n = go (differ r c field_count)
    where
      long : length (least r) ≡ field_count
      long = length_tabulate (λ f. get_or (cs f) (at r f) 0) field_count

      -- where they have the same interval, the cut is at most the packet's number
      same_most : (f : ℕ) → f < field_count → at r f ≡ at c f → get_or (least r) f 0 ≤ get_or q f 0
      same_most f l d =
          let a = get_d_tabulate (λ f. get_or (cs f) (at r f) 0) field_count f 0 l in
          let b = ap (λ (x : ℕ). get_or (cs f) x 0) d in
          omega (arith, (v f l).1)

      go : SameBefore r c field_count ⊎ ((f : ℕ) × (f < field_count) × (at r f ≡ at c f → ⊥) × SameBefore r c f) → least r ≤ₚ q
      go (inl d) = lower_most (least r) q field_count (long ∙ sym e) (omega (arith, long)) (λ f l. same_most f l (d f l)) (inl (sym long))
      go (inr (f, l, d, b)) = elim (dec_lt (at r f) (at c f)) [
        | yes k ↦
            lower_most (least r) q f (long ∙ sym e) (omega (arith, long)) (λ g m. same_most g (omega arith) (b g m))
            (inr
            (let a = get_d_tabulate (λ f. get_or (cs f) (at r f) 0) field_count f 0 l in
            let u = ascends_at (cs f) (cuts_laws (range_in M.bounds.now M.row f) (fields_of M f) (asked_at f l).ordered).ascend (at r f) (at c f) k (v f l).0 in
            omega (arith, (v f l).1)))
        | no k ↦ absurd (n (record { field = f; known = l; less = omega (arith, d); same = λ g m. sym (b g m) }))
      ]

  -- The first free cell of all, if there is one, tells the answer.
  module _ (lo : List ℕ) (lowest : (f : ℕ) → f < field_count → at lo f ≡ 0) (r : Option (List ℕ)) (first : First sets lo past None r) where
    -- the cell of a packet is in the block of all cells
    inside : (q : Packet) (c : List ℕ) → ((f : ℕ) → f < field_count → Interval f (get_or q f 0) (at c f)) → Inside lo past c
    inside q c v f l = (omega (arith, lowest f l), omega (arith, (v f l).0, (ready f l).counted))

    pub answer_none : r ≡ None → mesh s bs ≡ none
    answer_none e = right_unique s bs (mesh s bs) none mesh_right (λ q h. go q h (claimed bs q) (claimed_decides bs q))
      where
        go : (q : Packet) → Holds s q → (t : Bool) → Decides t (Claimed bs q) → Claimed bs q
        go q h true d = d.yes refl
        go q h false d =
            let c = cell_of q h in
            absurd (first.first c.0 (inside q c.0 c.1) (unclaimed_free q h (d.no refl) c.0 c.1) (subst (Before c.0) (sym e) tt))

    -- What is found is a cell, and free.
    found_free : (c : List ℕ) → r ≡ Some c → Inside lo past c × Free sets c
    found_free c e = go first.one
      where
        go : (r ≡ None) ⊎ Better sets lo past None r → Inside lo past c × Free sets c
        go (inl q) = absurd cc
        go (inr b) = let q : b.cell ≡ c = let i = b.is in cc in subst (λ (x : List ℕ). Inside lo past x × Free sets x) q (b.inside, b.free)

    pub cell_cuts : (c : List ℕ) → r ≡ Some c → HasCuts M c
    cell_cuts c e f l = let k = ((found_free c e).0 f l).1 in omega (arith, (ready f l).counted)

    pub answer_found : (c : List ℕ) → r ≡ Some c → mesh s bs ≡ found (least c)
    answer_found c e = right_unique s bs (mesh s bs) (found (least c)) mesh_right (record {
      inside =
          fields_hold (range_in M.bounds.now M.row) field_count (least c) (length_tabulate (λ f. get_or (cs f) (at c f) 0) field_count)
          (λ f l. subst (Within (range_in M.bounds.now M.row f)) (sym (get_d_tabulate (λ f. get_or (cs f) (at c f) 0) field_count f 0 l))
          (cut_within M f (asked_at f l) (at c f) (get_or (cs f) (at c f) 0) (cell_cuts c e f l, refl)));
      unclaimed = free_unclaimed c (cell_cuts c e) (found_free c e).1;
      least = λ q h n.
          let d = cell_of q h in
          not_after c d.0 q (cell_cuts c e) (holds_length s q h ∙ length_tabulate (range_in M.bounds.now M.row) field_count) d.1
          (λ b. first.first d.0 (inside q d.0 d.1) (unclaimed_free q h n d.0 d.1) (subst (Before d.0) (sym e) b));
    })
