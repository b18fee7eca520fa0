-- Frames in their sequence:
--   so_far_more: the frames of what is read so far, and one frame more that has its place
--   early_frames, floor_there: before the floor, and once it has been read
--   not_among: a frame of another kind is not among frames of one kind
--   entities_caps, begins_so_far: the sequence can go on after them, with a table of entities and caps alone where it has not come further
-- Assumes nothing.
use mathlib.Core.Path.{◌≡◌, refl, ap, sym, ◌∙◌}
use mathlib.Core.Logic.{inl, inr}
use mathlib.Core.Bool.{true}
use mathlib.Core.List.{List, [], ◌∷◌, ◌++◌, map, map-append, append-nil, append_assoc}
use mathlib.Core.List.Memᴰ
use mathlib.Core.List.{Memᴰ}
use Prim.Native.Nat.{ℕ, suc, ◌+◌, ◌-◌, ◌<◌}
use native.Mathlib.Decide.{dec_lt}
use native.Mathlib.Omega.{arith}
use lib.ListN.{length, replicate, length-append, length-replicate}
use Rattle.base.proofs.Laws.Lists.{length_none}
use Rattle.policy.specs.Limits.{technologies}
use Rattle.policy.specs.Model.{Entity, Coefficients, Table, no_entity}
use Rattle.frames.specs.Progress.{Progress}
use Rattle.frames.specs.Caps.{Cap}
use Rattle.frames.specs.Kinds.{FrameName, of_entity, of_cap, of_floor, of_filter, of_row, Value, describe}
use Rattle.frames.proofs.Laws.Growing.{NoneLater, Sequenced, before_floor, after_floor, early}
use Rattle.frames.proofs.Laws.Entities.{no_caps, early_entity}
use Rattle.frames.proofs.Laws.Caps.{cap_next, early_cap}
use Rattle.frames.proofs.Laws.Floors.{early_floor}
use Rattle.frames.proofs.Laws.Filters.{early_filter}
use Rattle.reader.specs.Frames.{Frame, a_frame}
use Rattle.reader.specs.Rules.{cap_frames, frames_so_far, frames_of}
use Rattle.reader.specs.Faults.{Begins}
use Rattle.reader.proofs.Laws.States.{byte_in}

-- ---- the frames of what is read so far

-- Caps, and further ones.
caps_append : (n : ℕ) (cs ds : List Coefficients) → cap_frames n (cs ++ ds) ≡ cap_frames n cs ++ cap_frames (length cs + n) ds
caps_append n [] ds = let e : n ≡ 0 + n = omega arith in ap (λ k. cap_frames k ds) e
caps_append n (c ∷ cs) ds =
    let e : length cs + suc n ≡ suc (length cs) + n = omega arith in
    ap (λ l. a_frame of_cap (record { technology = n; coefficients = c }) ∷ l)
    (caps_append (suc n) cs ds ∙ ap (λ k. cap_frames (suc n) cs ++ cap_frames k ds) e)

caps_more : (cs : List Coefficients) (c : Cap) → c.technology ≡ length cs + 1
    → cap_frames 1 (cs ++ (c.coefficients ∷ [])) ≡ cap_frames 1 cs ++ (a_frame of_cap c ∷ [])
caps_more cs c e =
    caps_append 1 cs (c.coefficients ∷ [])
    ∙ ap (λ k. cap_frames 1 cs ++ (a_frame of_cap (record { technology = k; coefficients = c.coefficients }) ∷ [])) (sym e)

-- Before the floor there is neither it nor a filter nor a row.
pub early_frames : (p : Progress) → p.floored ≡ 0 → NoneLater p.table
    → frames_so_far p ≡ map (a_frame of_entity) p.table.entities ++ cap_frames 1 p.table.caps
early_frames p z none =
    rw (z, length_none p.table.filters none.0, length_none p.table.rows none.1, append-nil (cap_frames 1 p.table.caps))

-- Once it has been read, it is among the frames.
pub floor_there : (p : Progress) → p.floored ≡ 1 → Memᴰ (a_frame of_floor p.table.floor) (frames_so_far p)
floor_there p f =
    rw f
    (Memᴰ.append_right (map (a_frame of_entity) p.table.entities) (Memᴰ.append_right (cap_frames 1 p.table.caps) (Memᴰ.head refl)))

-- A frame with another kind byte is not among frames of one kind.
pub not_among : {A : Type 0} (f : A → Frame) (g : Frame) → ((a : A) → byte_in g ≡ byte_in (f a) → ⊥) → (l : List A) → Memᴰ g (map f l) → ⊥
not_among f g n [] m = Memᴰ.not-nil m
not_among f g n (a ∷ l) m = elim (Memᴰ.cases_cons m) [ inl e ↦ n a (ap byte_in e) | inr k ↦ not_among f g n l k ]

-- A frame that has its place comes after all the others: what it would stand before is not there yet.
pub so_far_more : (p : Progress) (k : FrameName) (v : Value k) → Sequenced p → (describe k).placed p v ≡ true
    → frames_so_far ((describe k).grown v p) ≡ frames_so_far p ++ (a_frame k v ∷ [])
so_far_more p of_entity e q m =
    let z = early_entity p e m q in
    let none = (early q z).none_later in
    early_frames ((describe of_entity).grown e p) z none
    ∙ rw (early_frames p z none, length_none p.table.caps (no_caps p e m)) (simp (map-append, append-nil))
so_far_more p of_cap c q m =
    let z = early_cap p c m q in
    let none = (early q z).none_later in
    early_frames ((describe of_cap).grown c p) z none
    ∙ rw (early_frames p z none, caps_more p.table.caps c (cap_next p c m)) (simp append_assoc)
so_far_more p of_floor c q m =
    let z = early_floor p c m in
    let none = (early q z).none_later in
    rw (length_none p.table.filters none.0, length_none p.table.rows none.1, z) (simp (append_assoc, append-nil))
so_far_more p of_filter f q m =
    rw (length_none p.table.rows (early_filter p f m)) (simp (map-append, append_assoc, append-nil))
so_far_more p of_row r q m = simp (map-append, append_assoc)

-- ---- the sequence can go on

-- Some caps, as many as there are still to come.
abbrev missing : List Coefficients → List Coefficients
missing cs = replicate (technologies - length cs) []

-- These entities and caps, and nothing else.
abbrev pub entities_caps : List Entity → List Coefficients → Table
entities_caps es cs = record { entities = es; caps = cs; floor = 0 ∷ 0 ∷ 0 ∷ []; filters = []; rows = [] }

pub begins_so_far : (p : Progress) → Sequenced p → Begins (frames_so_far p)
begins_so_far p (after_floor f c) = record { further = []; table = p.table; sequence = append-nil (frames_so_far p) ∙ rw f; counts = c }
begins_so_far p (before_floor z q) = elim (dec_lt 0 (length p.table.entities)) [ yes e ↦ some e | no e ↦ none (omega arith) ]
  where
    some : 0 < length p.table.entities → Begins (frames_so_far p)
    some e =
        let cs = p.table.caps in
        let few = q.few_caps in
        record {
          further = cap_frames (length cs + 1) (missing cs) ++ (a_frame of_floor (0 ∷ 0 ∷ 0 ∷ []) ∷ []);
          table = entities_caps p.table.entities (cs ++ missing cs);
          sequence = rw (early_frames p z q.none_later, caps_append 1 cs (missing cs)) (simp append_assoc);
          counts =
              record {
                some_entity = e;
                few_entities = q.few_entities;
                six_caps = simp (length-append, length-replicate) (omega arith);
                few_filters = omega arith;
                few_rows = omega arith;
              };
        }

    none : length p.table.entities ≡ 0 → Begins (frames_so_far p)
    none e =
        let caps : length p.table.caps ≡ 0 = elim (dec_lt 0 (length p.table.caps)) [
          | yes h ↦ absurd (omega (arith, q.entities_first h))
          | no h ↦ omega arith
        ] in
        record {
          further = frames_of (entities_caps (no_entity ∷ []) (missing []));
          table = entities_caps (no_entity ∷ []) (missing []);
          sequence = rw (early_frames p z q.none_later, length_none p.table.entities e, length_none p.table.caps caps);
          counts =
              record { some_entity = omega arith; few_entities = omega arith; six_caps = refl; few_filters = omega arith; few_rows = omega arith };
        }
