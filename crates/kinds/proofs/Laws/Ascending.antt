-- The entries of a well-formed table are two blocks, and ascend in each.
-- Assumes nothing.
use Prim.Native.Nat.{ℕ, zero, suc, ◌+◌, ◌≤◌, ◌<◌}
use mathlib.Core.Path.{◌≡◌, sym, ap, ◌∙◌}
use mathlib.Core.Logic.{inl, inr}
use mathlib.Core.List.Memᴰ
use mathlib.Core.List.{List, Memᴰ}
use native.Mathlib.Omega.{arith}
use Rattle.base.specs.Lists.{Ascends}
use Rattle.base.proofs.Laws.Ascending.{AllBefore, append_ascends, one_ascends}
use Rattle.policy.specs.Model.{Table}
use Rattle.policy.specs.Wellformed.{Wellformed}
use Rattle.kinds.specs.Kinds.{no_second, anomaly}
use Rattle.kinds.specs.Entries.{Entry, entry, gather, listed, Block, row_block, filter_block, of_kind, of_thing, of_block, entries, Before, by_first, by_kind, by_second, Ascending}
use Rattle.kinds.proofs.Laws.Entries.{gather_of, listed_of, block_of, entries_blocks}

gather_ascends : (f : ℕ → List Entry) (n k : ℕ) → ((x : ℕ) → Ascends Before (f x)) → ((x y : ℕ) → x < y → AllBefore Before (f x) (f y))
    → Ascends Before (gather n k f)
unfolding gather
gather_ascends f zero k a h = tt
gather_ascends f (suc n) k a h =
    append_ascends Before (f k) (gather n (suc k) f) (a k) (gather_ascends f n (suc k) a h)
    (λ e g p q. let r = gather_of g f n (suc k) q in h k r.0 (omega (arith, r.1)) e g p r.3)

module _ (t : Table) where
  listed_ascends : (i kind j : ℕ) → Ascends Before (listed t i kind j)
  listed_ascends i kind j = one_ascends Before (anomaly t i kind j) (entry i kind j)

  -- Of one first number and kind, second numbers that differ.
  seconds : (i kind j k : ℕ) → j < k → AllBefore Before (listed t i kind j) (listed t i kind k)
  seconds i kind j k h e f p q =
      let a = (listed_of t i kind j e p).0 in
      let b = (listed_of t i kind k f q).0 in
      by_second {e = e} {f = f}
      (ap (λ (x : Entry). x.first) a ∙ sym (ap (λ (x : Entry). x.first) b))
      (ap (λ (x : Entry). x.kind) a ∙ sym (ap (λ (x : Entry). x.kind) b))
      (let c : e.second ≡ j = ap (λ (x : Entry). x.second) a in let d : f.second ≡ k = ap (λ (x : Entry). x.second) b in omega arith)

  -- A block of so few things that FF is none of their numbers.
  module _ (b : Block) (few : b.things ≤ no_second) where
    -- The numbers of an entry of a thing and a kind, and of a thing.
    kind_of : (i kind : ℕ) (e : Entry) → Memᴰ e (of_kind t b.things i kind) → (e.first ≡ i) × (e.kind ≡ kind)
    kind_of i kind e m = elim (Memᴰ.append_cases (gather b.things 0 (λ j. listed t i kind j)) m) [
      | inl p ↦
          let r = gather_of e (λ j. listed t i kind j) b.things 0 p in
          let q = (listed_of t i kind r.0 e r.3).0 in
          (ap (λ (x : Entry). x.first) q, ap (λ (x : Entry). x.kind) q)
      | inr p ↦
          let q = (listed_of t i kind no_second e p).0 in
          (ap (λ (x : Entry). x.first) q, ap (λ (x : Entry). x.kind) q)
    ]

    thing_of : (i : ℕ) (e : Entry) → Memᴰ e (of_thing t b i) → e.first ≡ i
    thing_of i e m = let r = gather_of e (of_kind t b.things i) b.kinds b.kind m in (kind_of i r.0 e r.3).0

    kind_ascends : (i kind : ℕ) → Ascends Before (of_kind t b.things i kind)
    kind_ascends i kind =
        append_ascends Before (gather b.things 0 (λ j. listed t i kind j)) (listed t i kind no_second)
        (gather_ascends (λ j. listed t i kind j) b.things 0 (listed_ascends i kind) (seconds i kind))
        (listed_ascends i kind no_second)
        (λ e f p q.
        let r = gather_of e (λ j. listed t i kind j) b.things 0 p in
        seconds i kind r.0 no_second (omega (arith, r.2)) e f r.3 q)

    thing_ascends : (i : ℕ) → Ascends Before (of_thing t b i)
    thing_ascends i =
        gather_ascends (of_kind t b.things i) b.kinds b.kind (kind_ascends i)
        (λ x y h e f p q.
        let a = kind_of i x e p in
        let c = kind_of i y f q in
        by_kind {e = e} {f = f} (a.0 ∙ sym c.0) (let d = a.1 in let g = c.1 in omega arith))

    block_ascends : Ascends Before (of_block t b)
    block_ascends =
        gather_ascends (of_thing t b) b.things 0 thing_ascends
        (λ x y h e f p q. let a = thing_of x e p in let c = thing_of y f q in by_first {e = e} {f = f} (omega arith))

    block_kinds : (e : Entry) → Memᴰ e (of_block t b) → (b.kind ≤ e.kind) × (e.kind < b.kind + b.kinds)
    block_kinds e m =
        let s = block_of t b e m in
        let k : e.kind ≡ s.1 = ap (λ (x : Entry). x.kind) (listed_of t s.0 s.1 s.2 e s.5).0 in
        (omega (arith, s.3), omega (arith, s.4))

  -- The rows' block and then that of the filters, "in ascending order" each, and each entry once
  pub entries_ascend : Wellformed t → Ascending (entries t)
  entries_ascend w =
      let r = row_block t in
      let f = filter_block t in
      let few_rows : r.things ≤ no_second = omega (arith, w.counts.few_rows) in
      let few_filters : f.things ≤ no_second = omega (arith, w.counts.few_filters) in
      record {
        rows = of_block t r;
        filters = of_block t f;
        blocks = entries_blocks t;
        rows_first = λ e m. omega (arith, (block_kinds r few_rows e m).1);
        filters_last = λ e m. omega (arith, (block_kinds f few_filters e m).0);
        rows_ascend = block_ascends r few_rows;
        filters_ascend = block_ascends f few_filters;
      }
