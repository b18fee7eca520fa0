-- What is known of a reader's state, by the lengths of its arrays: that its counts are those of what it has.
--   Sized: the lengths of the state's arrays
--   Counted, counted: what has been read has as much as the state counts
--   parents_taken, layers_taken: the parents and layers of what has been read are the first of the state's
--   progress_of, has_own: every state has something
--   one_more: one thing more is counted
-- Assumes nothing.
use mathlib.Core.Path.{◌≡◌, refl, sym, ap, ◌∙◌}
use mathlib.Core.List.{List, [], ◌∷◌, ◌++◌, map}
use Prim.Native.Nat.{ℕ, ◌+◌}
use native.Mathlib.Omega.{arith}
use lib.ListN.{length, take, length-append, length-map}
use lib.Seq.{length-take-le}
use Rattle.base.specs.Lists.{tabulate}
use Rattle.base.specs.Truths.{bit}
use Rattle.base.proofs.Laws.Lists.{length_tabulate}
use Rattle.policy.specs.Limits.{most_entities, technologies}
use Rattle.policy.specs.Model.{no_filter, no_row, parents_of, layers_of}
use Rattle.policy.specs.Views.{coefficients_of, entity_in}
use Rattle.policy.proofs.Laws.Tables as Tables
use Rattle.frames.specs.Progress.{Progress}
use Rattle.reader.specs.Views.{Ready, Has}
use Rattle.reader.specs.declared.state.State.{State}

-- The state's arrays have their lengths: what a function knows of each state that it is given.
pub record Sized (r : State) : Type 0 where
  pub parents : length r.parents ≡ most_entities
  pub layers : length r.layers ≡ most_entities
  pub masks : length r.masks ≡ most_entities
  pub caps : length r.caps ≡ technologies

-- What has been read has as much as the state counts.
pub record Counted (r : State) (p : Progress) : Type 0 where
  pub entities : length p.table.entities ≡ r.entities
  pub caps : length p.table.caps ≡ r.capped
  pub floored : p.floored ≡ bit r.floored
  pub filters : length p.table.filters ≡ r.filters
  pub rows : length p.table.rows ≡ r.rows

module _ (r : State) (sized : Sized r) (ready : Ready r) (p : Progress) (h : Has r p) where
  pub counted : Counted r p
  counted =
      let s = sized.caps in
      let c = ready.capped in
      record {
        entities = ap length (sym h.entities) ∙ length_tabulate (entity_in r.parents r.layers r.masks) r.entities;
        caps = ap length (sym h.caps) ∙ length-map (take r.capped r.caps) coefficients_of ∙ length-take-le r.capped r.caps (omega arith);
        floored = sym h.floored;
        filters = sym h.filters;
        rows = sym h.rows;
      }

  pub parents_taken : parents_of p.table ≡ take r.entities r.parents
  parents_taken =
      let s = sized in
      let e = ready.entities in
      ap (map (λ x. x.parent)) (sym h.entities)
      ∙ Tables.parents_taken r.parents r.layers r.masks r.entities (omega arith)

  pub layers_taken : layers_of p.table ≡ take r.entities r.layers
  layers_taken =
      let s = sized in
      let e = ready.entities in
      ap (map (λ x. x.layer)) (sym h.entities)
      ∙ Tables.layers_taken r.parents r.layers r.masks r.entities (omega arith)

-- Something that the state has: with filters and rows that say nothing.
abbrev pub progress_of : State → Progress
progress_of r =
    record {
      table =
          record {
            entities = tabulate (entity_in r.parents r.layers r.masks) r.entities;
            caps = map coefficients_of (take r.capped r.caps);
            floor = coefficients_of r.floor;
            filters = tabulate (λ k. no_filter) r.filters;
            rows = tabulate (λ i. no_row) r.rows;
          };
      floored = bit r.floored;
    }

pub has_own : (r : State) → Has r (progress_of r)
has_own r =
    record {
      entities = refl;
      caps = refl;
      floor = refl;
      floored = refl;
      filters = sym (length_tabulate (λ k. no_filter) r.filters);
      rows = sym (length_tabulate (λ i. no_row) r.rows);
    }

pub one_more : {A : Type 0} (l : List A) (x : A) (n : ℕ) → n ≡ length l → n + 1 ≡ length (l ++ (x ∷ []))
one_more l x n h = omega (arith, length-append l (x ∷ []))
