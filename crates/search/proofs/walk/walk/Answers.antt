-- Each value of a field comes to nothing by a cover of the fields below, or by a box that is left past the last, or gives the packet.
use Rattle.std.proofs.Common.{ℕ, ◌+◌, ◌%◌, ◌≡◌, List, [], ◌∷◌, ◌∙◌, map, None, arith, sym}
use Rattle.std.proofs.lemmas.Option.{none-some}
use Rattle.policy.specs.Limits.{field_count}
use Rattle.policy.specs.Views.{range_of, range_in, selector_in}
use Rattle.covers.specs.Least.{SearchResult, Right}
use Rattle.covers.specs.Views.{boxes_at}
use Rattle.search.specs.Search.{search as searched}
use Rattle.search.specs.Covers.{box_in}
use Rattle.search.specs.Turns.{turned}
use Rattle.search.proofs.Laws.Walks.{walked_start, risen}
use Rattle.search.proofs.Laws.Levels.{keeps_none, keeps_more, fails_last, level_start, level_end, level_fails, level_falls, level_next, first_next, level_found, left_last, last_found, all_numbered, found_right, none_right, boxes_of, boxes_sized}
use Rattle.search.proofs.Laws.Agrees.{search_agrees}
use Rattle.search.proofs.Laws.Turns.{fields_from, fields_turned, boxes_turned}
use Rattle.search.proofs.walk.walk.Invariants.{from1}
use Rattle.search.proofs.walk.walk.Goals as goal
use Rattle.search.proofs.walk.walk.Goals.{After-first-a0, in-Some-left+else-n-le1, in_default-left}

-- the fields after those from the leading one on
abbrev after0 : ℕ → List ℕ
after0 lead = (lead + 1) % field_count ∷ (lead + 2) % field_count ∷ (lead + 3) % field_count ∷ (lead + 4) % field_count ∷ []

abbrev after1 : ℕ → List ℕ
after1 lead = (lead + 2) % field_count ∷ (lead + 3) % field_count ∷ (lead + 4) % field_count ∷ []

abbrev after2 : ℕ → List ℕ
after2 lead = (lead + 3) % field_count ∷ (lead + 4) % field_count ∷ []

abbrev after3 : ℕ → List ℕ
after3 lead = (lead + 4) % field_count ∷ []

-- ---- where each loop begins

pub search-init : goal.search-init
search-init c = record {
  numbered = all_numbered c.args.bounds.now (fields_from c.args.lead) c.args.cover c.requires.1 _ c.first-a0.ensures;
  walked = walked_start _ (range_of c.range_at-r0.result) _ None (λ k i. i) (λ x e. absurd (none-some x e));
  kept1 = rw c.new-kept1.ensures (keeps_none _ _);
  kept2 = rw c.new-kept2.ensures (keeps_none _ _);
  kept3 = rw c.new-kept3.ensures (keeps_none _ _);
  kept4 = rw c.new-kept4.ensures (keeps_none _ _);
  unlimited = λ e. e;
}

pub loop-n1-init : goal.loop-n1-init
loop-n1-init c =
    let i = c.search.invariant in
    let o = c.opening-k1.ensures in
    record {
      numbered = λ k h. i.numbered k (c.holding-a1.ensures.part k h);
      walked = level_start _ _ _ (after1 c.args.lead) _ _ _ _ _ _ c.opening-k1.result.1 i.kept1 c.recalled.ensures o.cover o.first;
      kept2 = i.kept2;
      kept3 = i.kept3;
      kept4 = i.kept4;
      unlimited = i.unlimited;
    }

pub loop-n2-init : goal.loop-n2-init
loop-n2-init c =
    let i = c.loop-n1.invariant in
    let o = c.opening-k2.ensures in
    record {
      numbered = λ k h. i.numbered k (c.holding-a2.ensures.part k h);
      walked = level_start _ _ _ (after2 c.args.lead) _ _ _ _ _ _ c.opening-k2.result.1 i.kept2 c.recalled-in-Some-n1.ensures o.cover o.first;
      kept3 = i.kept3;
      kept4 = i.kept4;
      unlimited = i.unlimited;
    }

pub loop-n3-init : goal.loop-n3-init
loop-n3-init c =
    let i = c.loop-n2.invariant in
    let o = c.opening-k3.ensures in
    record {
      numbered = λ k h. i.numbered k (c.holding-a3.ensures.part k h);
      walked = level_start _ _ _ (after3 c.args.lead) _ _ _ _ _ _ c.opening-k3.result.1 i.kept3 c.recalled-in-Some-n2.ensures o.cover o.first;
      kept4 = i.kept4;
      unlimited = i.unlimited;
    }

pub loop-n4-init : goal.loop-n4-init
loop-n4-init c =
    let i = c.loop-n3.invariant in
    let o = c.opening-k4.ensures in
    record {
      numbered = λ k h. i.numbered k (c.holding-a4.ensures.part k h);
      walked = level_start _ _ _ [] _ _ _ _ _ _ c.opening-k4.result.1 i.kept4 c.recalled-in-Some-n3.ensures o.cover o.first;
    }

-- ---- the next candidate of each field

pub following-n4-requires : goal.following-n4-requires
following-n4-requires c =
    let l = c.requires.2 in
    let f = fails_last c.args.bounds.now c.args.cover.at _ _ _ _ c.in-Some-furthest.ensures in
    (omega arith, λ k h. c.loop-n4.invariant.numbered k (f.part k h).0)

pub loop-n4-smaller : goal.loop-n4-smaller
loop-n4-smaller c =
    let f = fails_last c.args.bounds.now c.args.cover.at _ _ _ _ c.in-Some-furthest.ensures in
    level_falls _ _ _ _ _ _ _ c.following-n4.result
    (record { walked = c.loop-n4.invariant.walked; value_is = c.in-Some-n4.is; narrowed = left_last _ _ _ }) f c.following-n4.ensures

pub loop-n4-preserved : goal.loop-n4-preserved
loop-n4-preserved c =
    let f = fails_last c.args.bounds.now c.args.cover.at _ _ _ _ c.in-Some-furthest.ensures in
    record {
      numbered = c.loop-n4.invariant.numbered;
      walked =
          level_next _ _ _ _ _ _ _ c.following-n4.result _
          (record { walked = c.loop-n4.invariant.walked; value_is = c.in-Some-n4.is; narrowed = left_last _ _ _ }) f c.following-n4.ensures;
    }

pub loop-n3-preserved : goal.loop-n3-preserved
loop-n3-preserved c =
    let i = c.loop-n3.invariant in
    let f = level_fails _ _ _ [] _ _ _ _ _ c.loop-n4.invariant.walked c.in_default-n4.is in
    record {
      numbered = i.numbered;
      walked =
          level_next _ _ _ _ _ _ _ c.following-n3.result _
          (record { walked = i.walked; value_is = c.in-Some-n3.is; narrowed = c.holding-a4.ensures }) f c.following-n3.ensures;
      kept4 = keeps_more _ _ _ _ _ i.kept4 f.covers c.keep.ensures;
      unlimited = λ e. elim c.match-left.branch [
        | in-Some-left+else-n-le1 w ↦ absurd (none-some _ (sym (i.unlimited e) ∙ w.in-Some-left.is))
        | in_default-left w ↦ w.left-is ∙ i.unlimited e
      ];
    }

pub loop-n2-preserved : goal.loop-n2-preserved
loop-n2-preserved c =
    let i = c.loop-n2.invariant in
    let f = level_fails _ _ _ (after3 c.args.lead) _ _ _ _ _ c.loop-n3.invariant.walked c.in_default-n3.is in
    record {
      numbered = i.numbered;
      walked =
          level_next _ _ _ _ _ _ _ c.following-n2.result _
          (record { walked = i.walked; value_is = c.in-Some-n2.is; narrowed = c.holding-a3.ensures }) f c.following-n2.ensures;
      kept3 = keeps_more _ _ _ _ _ i.kept3 f.covers c.keep-in-Some-n2.ensures;
      kept4 = c.loop-n3.invariant.kept4;
      unlimited = c.loop-n3.invariant.unlimited;
    }

pub loop-n1-preserved : goal.loop-n1-preserved
loop-n1-preserved c =
    let i = c.loop-n1.invariant in
    let f = level_fails _ _ _ (after2 c.args.lead) _ _ _ _ _ c.loop-n2.invariant.walked c.in_default-n2.is in
    record {
      numbered = i.numbered;
      walked =
          level_next _ _ _ _ _ _ _ c.following-n1.result _
          (record { walked = i.walked; value_is = c.in-Some-n1.is; narrowed = c.holding-a2.ensures }) f c.following-n1.ensures;
      kept2 = keeps_more _ _ _ _ _ i.kept2 f.covers c.keep-in-Some-n1.ensures;
      kept3 = c.loop-n2.invariant.kept3;
      kept4 = c.loop-n2.invariant.kept4;
      unlimited = c.loop-n2.invariant.unlimited;
    }

pub search-preserved : goal.search-preserved
search-preserved c =
    let i = c.search.invariant in
    let f = level_fails _ _ _ (after1 c.args.lead) _ _ _ _ _ c.loop-n1.invariant.walked c.in_default-n1.is in
    record {
      numbered = i.numbered;
      walked =
          first_next _ _ _ _ _ _ _ c.following-n0.result
          (record { walked = i.walked; value_is = c.in-Some.is; narrowed = c.holding-a1.ensures }) f c.following-n0.ensures;
      kept1 = keeps_more _ _ _ _ _ i.kept1 f.covers c.keep-in-search.ensures;
      kept2 = c.loop-n1.invariant.kept2;
      kept3 = c.loop-n1.invariant.kept3;
      kept4 = c.loop-n1.invariant.kept4;
      unlimited = c.loop-n1.invariant.unlimited;
    }

-- ---- the end of the first field's candidates, and the labelled break

-- The ranges are the row's from its leading field on, so that a right answer is the search's.
told : (c : After-first-a0) (o : SearchResult)
    → Right (risen (range_of c.range_at-r0.result) ∷ from1 c.range_at-r1.result c.range_at-r2.result c.range_at-r3.result c.range_at-r4.result)
    (boxes_of c.args.bounds.now c.args.cover (fields_from c.args.lead)) o
    → o ≡ searched (turned c.args.lead (selector_in c.args.bounds.now c.args.row)) (map (turned c.args.lead) (boxes_at c.args.bounds.now c.args.cover 0))
told c o h =
    let b = c.args.bounds.now in
    let e : range_of c.range_at-r0.result ∷ range_of c.range_at-r1.result ∷ range_of c.range_at-r2.result ∷ range_of c.range_at-r3.result ∷ range_of c.range_at-r4.result ∷ [] ≡ map (range_in b c.args.row) (fields_from c.args.lead) =
    λ i. c.range_at-r0.ensures i ∷ c.range_at-r1.ensures i ∷ c.range_at-r2.ensures i ∷ c.range_at-r3.ensures i ∷ c.range_at-r4.ensures i ∷ [] in
    search_agrees _ _ o (boxes_sized b (fields_from c.args.lead) c.args.cover) h
    ∙ (λ i. searched ((e ∙ fields_turned (range_in b c.args.row) c.args.lead c.requires.2) i) (boxes_turned b c.args.cover c.args.lead c.requires.2 i))

pub returns-in_default : goal.returns-in_default
returns-in_default c =
    told (goal.at.returns-in_default c).After-first-a0 _
    (none_right c.args.bounds.now (fields_from c.args.lead) c.args.cover c.requires.1 _ c.first-a0.ensures _
    (level_end c.args.bounds.now c.args.cover.at _ (after0 c.args.lead) _ _ _ _ _ c.search.invariant.walked c.in_default.is))

pub returns-in_default-furthest : goal.returns-in_default-furthest
returns-in_default-furthest c =
    let b = c.args.bounds.now in
    let a = c.args.cover.at in
    told (goal.at.returns-in_default-furthest c).After-first-a0 _
    (found_right b (fields_from c.args.lead) c.args.cover c.requires.1 _ c.first-a0.ensures _ _
    (level_found b a _ (after0 c.args.lead) _ _ _ _ (record { walked = c.search.invariant.walked; value_is = c.in-Some.is; narrowed = c.holding-a1.ensures })
    (level_found b a _ (after1 c.args.lead) _ _ _ _ (record { walked = c.loop-n1.invariant.walked; value_is = c.in-Some-n1.is; narrowed = c.holding-a2.ensures })
    (level_found b a _ (after2 c.args.lead) _ _ _ _ (record { walked = c.loop-n2.invariant.walked; value_is = c.in-Some-n2.is; narrowed = c.holding-a3.ensures })
    (level_found b a _ (after3 c.args.lead) _ _ _ _ (record { walked = c.loop-n3.invariant.walked; value_is = c.in-Some-n3.is; narrowed = c.holding-a4.ensures })
    (level_found b a _ [] _ _ _ _ (record { walked = c.loop-n4.invariant.walked; value_is = c.in-Some-n4.is; narrowed = left_last _ _ _ })
    (last_found _ _ _ (box_in b a []) c.in_default-furthest.ensures)))))))
