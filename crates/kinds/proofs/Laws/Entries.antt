-- The entries of a well-formed table are exactly its anomalies:
--   gather_of, gather_next, gather_end, gather_same: lists one after another
--   listed_of, block_of, entries_blocks: what an entry of the list is, one of a block, and which blocks there are
--   entries_exact: no entry more, none less
-- Assumes nothing.
use Prim.Native.Nat.{ℕ, zero, suc, ◌+◌, ◌≤◌, ◌<◌}
use mathlib.Core.Path.{◌≡◌, refl, sym, ap, subst}
use mathlib.Core.Bool.{Bool, true, false}
use mathlib.Core.Logic.{◌↔◌, inl, inr}
use mathlib.Core.List.Memᴰ
use mathlib.Core.List.{List, [], ◌∷◌, ◌++◌, Memᴰ}
use native.Mathlib.Omega.{arith}
use lib.Dec.{eqb}
use Rattle.base.specs.Truths.{pick}
use Rattle.policy.specs.Model.{Table}
use Rattle.policy.specs.Wellformed.{Wellformed}
use Rattle.base.proofs.Laws.Decides.{decides_holds, decides_eqb, decided}
use Rattle.kinds.specs.Kinds.{no_second, Anomaly, anomaly}
use Rattle.kinds.specs.Entries.{Entry, entry, gather, listed, Block, row_block, filter_block, of_kind, of_thing, of_block, entries}
use Rattle.kinds.proofs.Laws.Anomalies.{anomaly_decides}
use Rattle.kinds.proofs.Laws.Blocks.{Within, anomaly_within}

-- ---- lists one after another

module _ (e : Entry) (f : ℕ → List Entry) where
  gather_in : (n k x : ℕ) → k ≤ x → x < k + n → Memᴰ e (f x) → Memᴰ e (gather n k f)
  unfolding gather
  gather_in zero k x l h m = absurd (omega arith)
  gather_in (suc n) k x l h m = elim (decided (eqb k x) (decides_eqb k x)) [
    | inl q ↦ Memᴰ.append_left {s = f k} (gather n (suc k) f) (rw q m)
    | inr ne ↦ Memᴰ.append_right (f k) (gather_in n (suc k) x (omega (arith, ne)) (omega arith) m)
  ]

  pub gather_of : (n k : ℕ) → Memᴰ e (gather n k f) → (x : ℕ) × (k ≤ x) × (x < k + n) × Memᴰ e (f x)
  unfolding gather
  gather_of zero k m = absurd (Memᴰ.not-nil m)
  gather_of (suc n) k m = elim (Memᴰ.append_cases (f k) m) [
    | inl h ↦ (k, omega arith, omega arith, h)
    | inr r ↦ let h = gather_of n (suc k) r in (h.0, omega (arith, h.1), omega (arith, h.2), h.3)
  ]

-- the first list and the others, and lists that are the same place by place
pub gather_next : (f : ℕ → List Entry) (n k : ℕ) → gather (suc n) k f ≡ f k ++ gather n (suc k) f
unfolding gather
gather_next f n k = refl

pub gather_end : (f : ℕ → List Entry) (k : ℕ) → gather 0 k f ≡ []
unfolding gather
gather_end f k = refl

pub gather_same : (f g : ℕ → List Entry) (n k : ℕ) → ((x : ℕ) → k ≤ x → x < k + n → f x ≡ g x) → gather n k f ≡ gather n k g
unfolding gather
gather_same f g zero k h = refl
gather_same f g (suc n) k h =
    rw (h k (omega arith) (omega arith)) (ap (λ (l : List Entry). g k ++ l) (gather_same f g n (suc k) (λ x a b. h x (omega arith) (omega arith))))

module _ (t : Table) where
  -- ---- the entries

  pub listed_of : (i kind j : ℕ) (e : Entry) → Memᴰ e (listed t i kind j) → (e ≡ entry i kind j) × (anomaly t i kind j ≡ true)
  listed_of i kind j e m = go (anomaly t i kind j) refl m
    where
      go : (b : Bool) → anomaly t i kind j ≡ b → Memᴰ e (pick b (entry i kind j ∷ []) []) → (e ≡ entry i kind j) × (anomaly t i kind j ≡ true)
      go true q n = (Memᴰ.eq_of_singleton n, q)
      go false q n = absurd (Memᴰ.not-nil n)

  pub entries_blocks : entries t ≡ of_block t (row_block t) ++ of_block t (filter_block t)
  unfolding entries
  entries_blocks = refl

  module _ (b : Block) (e : Entry) where
    -- It is listed of a thing, a kind of the block and a second number,
    pub block_of : Memᴰ e (of_block t b) → (i : ℕ) × (kind : ℕ) × (j : ℕ) × (b.kind ≤ kind) × (kind < b.kind + b.kinds) × Memᴰ e (listed t i kind j)
    block_of m =
        let r = gather_of e (of_thing t b) b.things 0 m in
        let k = gather_of e (of_kind t b.things r.0) b.kinds b.kind r.3 in
        elim (Memᴰ.append_cases (gather b.things 0 (λ s. listed t r.0 k.0 s)) k.3) [
          | inl p ↦ let s = gather_of e (λ x. listed t r.0 k.0 x) b.things 0 p in (r.0, k.0, s.0, k.1, k.2, s.3)
          | inr a ↦ (r.0, k.0, no_second, k.1, k.2, a)
        ]

    -- and what is listed so is in the block.
    block_in : (i kind j : ℕ) → Within b i kind j → Memᴰ e (listed t i kind j) → Memᴰ e (of_block t b)
    block_in i kind j h m =
        gather_in e (of_thing t b) b.things 0 i (omega arith) (omega (arith, h.thing))
        (gather_in e (of_kind t b.things i) b.kinds b.kind kind h.from h.to
        (elim h.second [
          | inl p ↦ Memᴰ.append_left (listed t i kind no_second) (gather_in e (λ s. listed t i kind s) b.things 0 j (omega arith) (omega (arith, p)) m)
          | inr a ↦ Memᴰ.append_right (gather b.things 0 (λ s. listed t i kind s)) (subst (λ (x : ℕ). Memᴰ e (listed t i kind x)) a m)
        ]))

  module _ (w : Wellformed t) (i kind j : ℕ) where
    listed_in : Anomaly t i kind j → Memᴰ (entry i kind j) (listed t i kind j)
    listed_in h = rw (decides_holds (anomaly t i kind j) (anomaly_decides t w i j kind) h) (Memᴰ.head refl)

    anomaly_at : (i' kind' j' : ℕ) → (entry i kind j ≡ entry i' kind' j') × (anomaly t i' kind' j' ≡ true) → Anomaly t i kind j
    anomaly_at i' kind' j' h =
        subst (λ (e : Entry). Anomaly t e.first e.kind e.second) (sym h.0) ((anomaly_decides t w i' j' kind').yes h.1)

    -- "the list is the one that they define, no entry more, none less"
    pub entries_exact : Memᴰ (entry i kind j) (entries t) ↔ Anomaly t i kind j
    unfolding entries
    entries_exact =
        let e = entry i kind j in (
          λ m. elim (Memᴰ.append_cases (of_block t (row_block t)) m) [ inl r ↦ found (row_block t) r | inr f ↦ found (filter_block t) f ],
          λ h. elim (anomaly_within t i j kind h) [
            | inl r ↦ Memᴰ.append_left (of_block t (filter_block t)) (block_in (row_block t) e i kind j r (listed_in h))
            | inr f ↦ Memᴰ.append_right (of_block t (row_block t)) (block_in (filter_block t) e i kind j f (listed_in h))
          ],
        )
      where
        found : (b : Block) → Memᴰ (entry i kind j) (of_block t b) → Anomaly t i kind j
        found b m =
            let s = block_of b (entry i kind j) m in
            anomaly_at s.0 s.1 s.2 (listed_of s.0 s.1 s.2 (entry i kind j) s.5)
