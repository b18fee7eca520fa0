-- Frames that are read one after another, each of which may come where it stands:
--   Leads: each frame is such, by a statement of what was read before it and of the frame, and they lead from p to q
--   InPlace, Taken: a frame has its place; it is not refused
--   places_lead, rules_lead: the frames of a table with lawful counts have their places; those of a well-formed table are not refused
--   one_table: no frames are those of two tables
-- Assumes nothing.
use mathlib.Core.Path.{◌≡◌, refl, ap, sym, ◌∙◌}
use mathlib.Core.Bool.{Bool, true, false}
use mathlib.Core.List.{List, [], ◌∷◌, ◌++◌, map, append-nil}
use Prim.Native.Nat.{ℕ, suc, ◌+◌, ◌<◌}
use native.Mathlib.Omega.{arith}
use borrow.Author.Tests.{eq-eqb, lt-ltb}
use lib.ListN.{length, get_or, length-append}
use lib.Seq.{append_snoc, get_or-append_seam}
use Rattle.policy.specs.Limits.{most_entities, most_filters, most_rows, technologies}
use Rattle.policy.specs.Model.{Entity, Coefficients, Filter, Row, Table, with_rows, no_filter, no_row}
use Rattle.policy.specs.Wellformed.{FilterRule, RowRule, Counts, Wellformed}
use Rattle.base.specs.Checks.{refusal}
use Rattle.base.proofs.Laws.Checks.{none_broken, one_kept}
use Rattle.frames.specs.Refusals.{out_of_sequence}
use Rattle.frames.specs.Progress.{Progress, nothing, all_read}
use Rattle.frames.specs.Kinds.{of_entity, of_cap, of_floor, of_filter, describe}
use Rattle.frames.proofs.Laws.Entities.{entity_passes}
use Rattle.frames.proofs.Laws.Filters.{filter_passes}
use Rattle.frames.proofs.Laws.Rows.{row_passes}
use Rattle.reader.specs.Frames.{Frame, a_frame, a_row, no_frame}
use Rattle.reader.specs.States.{checks, grown}
use Rattle.reader.specs.Rules.{cap_frames, frames_of}
use Rattle.reader.proofs.Laws.Sequence.{entities_caps}

module _ (May : Progress → Frame → Type 0) where
  abbrev pub Leads : Progress → List Frame → Progress → Type 0
  Leads p [] q = p ≡ q
  Leads p (f ∷ fs) q = May p f × Leads (grown p f) fs q

  leads_append : (p m q : Progress) (fs gs : List Frame) → Leads p fs m → Leads m gs q → Leads p (fs ++ gs) q
  leads_append p m q [] gs h k = rw h k
  leads_append p m q (f ∷ fs) gs h k = (h.0, leads_append (grown p f) m q fs gs h.1 k)

  -- Frames lead to one end.
  leads_once : (p q r : Progress) (fs : List Frame) → Leads p fs q → Leads p fs r → q ≡ r
  leads_once p q r [] h k = sym h ∙ k
  leads_once p q r (f ∷ fs) h k = leads_once (grown p f) q r fs h.1 k.1

  -- Things that are added one by one, each by its frame: `place` is what is read when some of them are done.
  module _ {A : Type 0} (frame : A → Frame) (place : List A → Progress) (all : List A)
      (each : (done : List A) (x : A) (rest : List A) → all ≡ done ++ (x ∷ rest) → May (place done) (frame x))
      (more : (done : List A) (x : A) → grown (place done) (frame x) ≡ place (done ++ (x ∷ []))) where
    leads_from : (done rest : List A) → all ≡ done ++ rest → Leads (place done) (map frame rest) (place all)
    leads_from done [] e = ap place (sym (e ∙ append-nil done))
    leads_from done (x ∷ rest) e =
        (each done x rest e, rw (more done x) (leads_from (done ++ (x ∷ [])) rest (e ∙ sym (append_snoc done x rest))))

-- ---- the frames of a table

-- Some of the entities; all of them and some of the caps; after the floor, some of the filters; all and some of the rows.
abbrev some_entities : List Entity → Progress
some_entities es = record { table = entities_caps es []; floored = 0 }

module _ (t : Table) where
  abbrev some_caps : List Coefficients → Progress
  some_caps cs = record { table = entities_caps t.entities cs; floored = 0 }

  abbrev some_filters : List Filter → Progress
  some_filters fs = all_read (record { entities = t.entities; caps = t.caps; floor = t.floor; filters = fs; rows = [] })

  abbrev some_rows : List Row → Progress
  some_rows rs = all_read (with_rows rs t)

-- Each frame of the table may come where it stands.
record Admits (May : Progress → Frame → Type 0) (t : Table) : Type 0 where
  entity : (done : List Entity) (e : Entity) (rest : List Entity) → t.entities ≡ done ++ (e ∷ rest) → May (some_entities done) (a_frame of_entity e)
  cap : (done : List Coefficients) (c : Coefficients) (rest : List Coefficients) → t.caps ≡ done ++ (c ∷ rest)
      → May (some_caps t done) (a_frame of_cap (record { technology = length done + 1; coefficients = c }))
  floor : May (some_caps t t.caps) (a_frame of_floor t.floor)
  filter : (done : List Filter) (f : Filter) (rest : List Filter) → t.filters ≡ done ++ (f ∷ rest) → May (some_filters t done) (a_frame of_filter f)
  row : (done : List Row) (r : Row) (rest : List Row) → t.rows ≡ done ++ (r ∷ rest) → May (some_rows t done) (a_row r)

module _ (May : Progress → Frame → Type 0) (t : Table) (a : Admits May t) where
  leads_entities : Leads May nothing (map (a_frame of_entity) t.entities) (some_entities t.entities)
  unfolding grown
  leads_entities = leads_from May (a_frame of_entity) some_entities t.entities a.entity (λ done e. refl) [] t.entities refl

  leads_caps : (done rest : List Coefficients) (k : ℕ) → k ≡ length done + 1 → t.caps ≡ done ++ rest
      → Leads May (some_caps t done) (cap_frames k rest) (some_caps t t.caps)
  unfolding grown
  leads_caps done [] k n e = ap (some_caps t) (sym (e ∙ append-nil done))
  leads_caps done (c ∷ rest) k n e =
      let next : suc k ≡ length (done ++ (c ∷ [])) + 1 = rw length-append (omega arith) in
      (rw n (a.cap done c rest e), leads_caps (done ++ (c ∷ [])) rest (suc k) next (e ∙ sym (append_snoc done c rest)))

  leads_filters : Leads May (some_filters t []) (map (a_frame of_filter) t.filters) (some_rows t [])
  unfolding grown
  leads_filters = leads_from May (a_frame of_filter) (some_filters t) t.filters a.filter (λ done f. refl) [] t.filters refl

  leads_rows : Leads May (some_rows t []) (map a_row t.rows) (some_rows t t.rows)
  unfolding grown
  leads_rows = leads_from May a_row (some_rows t) t.rows a.row (λ done r. refl) [] t.rows refl

  leads_table : Leads May nothing (frames_of t) (all_read t)
  unfolding grown
  leads_table =
      leads_append May nothing (some_entities t.entities) (some_rows t t.rows) (map (a_frame of_entity) t.entities) _ leads_entities
      (leads_append May (some_caps t []) (some_caps t t.caps) (some_rows t t.rows) (cap_frames 1 t.caps) _ (leads_caps [] t.caps 1 refl refl) (
        a.floor,
        leads_append May (some_filters t []) (some_rows t []) (some_rows t t.rows) (map (a_frame of_filter) t.filters) _ leads_filters leads_rows,
      ))

-- What stands where the first things end, and that it is below the end.
module _ {A : Type 0} (all done rest : List A) (x : A) (parts : all ≡ done ++ (x ∷ rest)) where
  seam : (d : A) → get_or all (length done) d ≡ x
  seam d = rw parts (get_or-append_seam done x rest d)

  below : length done < length all
  below = rw (parts, length-append) (omega arith)

-- ---- frames in their places

abbrev pub placed_frame : Progress → Frame → Bool
placed_frame p (a_frame k v) = (describe k).placed p v
placed_frame p no_frame = false

abbrev pub InPlace : Progress → Frame → Type 0
InPlace p f = placed_frame p f ≡ true

module _ (t : Table) (c : Counts t) where
  places : Admits InPlace t
  places =
      record {
        entity = λ done e rest q. lt-ltb (length done) most_entities (omega (arith, below t.entities done rest e q, c.few_entities));
        cap = λ done x rest q.
            rw (lt-ltb 0 (length t.entities) c.some_entity, lt-ltb (length done) technologies (omega (arith, below t.caps done rest x q, c.six_caps)))
            (eq-eqb (length done + 1) (length done + 1) refl);
        floor = rw (eq-eqb _ _ c.six_caps);
        filter = λ done f rest q. lt-ltb (length done) most_filters (omega (arith, below t.filters done rest f q, c.few_filters));
        row = λ done r rest q. lt-ltb (length done) most_rows (omega (arith, below t.rows done rest r q, c.few_rows));
      }

  pub places_lead : Leads InPlace nothing (frames_of t) (all_read t)
  places_lead = leads_table InPlace t places

-- ---- frames that are not refused

abbrev pub Taken : Progress → Frame → Type 0
Taken p f = refusal (checks p f) ≡ 0

module _ (t : Table) (w : Wellformed t) where
  rules : Admits Taken t
  unfolding checks
  rules =
      let p = places t w.counts in
      record {
        entity = λ done e rest q.
            let b = below t.entities done rest e q in
            one_kept _ out_of_sequence _ (p.entity done e rest q)
            (entity_passes t done rest e q (omega (arith, w.counts.few_entities)) (w.entity (length done) b));
        cap = λ done c rest q. one_kept _ out_of_sequence [] (p.cap done c rest q) none_broken;
        floor = one_kept _ out_of_sequence [] p.floor none_broken;
        filter = λ done f rest q.
            let rule : FilterRule t f = rw (seam t.filters done rest f q no_filter) at (w.filter (length done) (below t.filters done rest f q)) in
            one_kept _ out_of_sequence _ (p.filter done f rest q) (filter_passes t f rule);
        row = λ done r rest q.
            let rule : RowRule t r = rw (seam t.rows done rest r q no_row) at (w.row (length done) (below t.rows done rest r q)) in
            one_kept _ out_of_sequence _ (p.row done r rest q) (row_passes t r rule);
      }

  pub rules_lead : Leads Taken nothing (frames_of t) (all_read t)
  rules_lead = leads_table Taken t rules

-- ---- frames of one table

-- Nothing is asked.
abbrev Anyhow : Progress → Frame → Type 0
Anyhow p f = Unit {0}

leads_anyhow : (t : Table) → Leads Anyhow nothing (frames_of t) (all_read t)
leads_anyhow t =
    leads_table Anyhow t
    (record {
      entity = λ done e rest q. tt;
      cap = λ done c rest q. tt;
      floor = tt;
      filter = λ done f rest q. tt;
      row = λ done r rest q. tt;
    })

pub one_table : (t u : Table) → frames_of t ≡ frames_of u → t ≡ u
one_table t u e =
    ap (λ p. p.table)
    (leads_once Anyhow nothing (all_read t) (all_read u) (frames_of t)
    (leads_anyhow t) (rw e (leads_anyhow u)))
