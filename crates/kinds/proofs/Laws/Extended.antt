-- Rows added at the end leave every anomaly of the old rows and of the filters as it is, but for those of kinds 12, 16 and 19, which look at all rows.
-- Assumes nothing.
use Prim.Native.Nat.{ℕ, zero, suc, ◌+◌, ◌<◌}
use mathlib.Core.Path.{◌≡◌, refl, sym, ap, subst, ◌∙◌}
use mathlib.Core.Bool.{Bool, true, ◌&&◌, and-false}
use mathlib.Core.Logic.{inl, inr}
use mathlib.Core.List.{List, [], ◌∷◌, ◌++◌}
use native.Mathlib.Omega.{arith}
use borrow.Author.Tests.{lt-ltb, le-ltb}
use lib.Dec.{eqb, ltb}
use lib.ListN.{length, get_or, length-append}
use Rattle.base.proofs.Laws.Each.{◌▹◌}
use Rattle.policy.specs.Model.{Row, Table, extended, parent_of, entity_at, filter_at}
use Rattle.policy.specs.Wellformed.{Wellformed}
use Rattle.relations.specs.Entities.{root_of}
use Rattle.relations.proofs.Laws.Extended.{row_extended}
use Rattle.verdicts.specs.Verdicts.{is_none}
use Rattle.verdicts.proofs.Laws.Extended.{old_rows_keep}
use Rattle.base.proofs.Laws.Decides.{decides_holds}
use Rattle.kinds.specs.Views.{Placed, placed_at}
use Rattle.kinds.specs.Tests.{internal_loop, out_of_place, non_enforceable, inadequate, filtered, layer_two, cyclic, pair_of}
use Rattle.kinds.specs.Seen.{seen_of}
use Rattle.kinds.specs.Kinds.{Kind, no_kind, alone, paired, of_filters, numbered, kind_at, no_second, says, anomaly}
use Rattle.kinds.specs.Extended.{MayChange, OfOldRows, AnomaliesStand}
use Rattle.kinds.proofs.Laws.Anomalies.{anomaly_decides}
use Rattle.kinds.proofs.Laws.Blocks.{OfFilters, filter_kind_lem}

module _ (t : Table) (added : List Row) where
  placed : (i : ℕ) → i < length t.rows → placed_at (extended added t) i ≡ placed_at t i
  placed i h = ap (λ r. record { row = r; from = root_of (parent_of t) r.source; to = root_of (parent_of t) r.destination }) (row_extended t added i h)

  -- ---- the tests

  -- That of a kind of one row is the same for old rows. (A kind of two rows looks at these two alone, whatever the kind, and one of filters at no row.)
  abbrev Stands : Kind → Type 0
  Stands no_kind = Unit {0}
  Stands (alone P b) = (i : ℕ) → i < length t.rows → b (seen_of (extended added t)) i ≡ b (seen_of t) i
  Stands (paired P b) = Unit {0}
  Stands (of_filters P b) = Unit {0}

  -- So are those of some kinds, of which the first has the number n, but for those that may change.
  abbrev StandFrom : ℕ → List Kind → Type 0
  StandFrom n [] = Unit {0}
  StandFrom n (no_kind ∷ ks) = StandFrom (suc n) ks
  StandFrom n (alone P b ∷ ks) = ((MayChange n → ⊥) → Stands (alone P b)) × StandFrom (suc n) ks
  StandFrom n (paired P b ∷ ks) = StandFrom (suc n) ks
  StandFrom n (of_filters P b ∷ ks) = StandFrom (suc n) ks

  stands_at : (n : ℕ) (ks : List Kind) → StandFrom n ks → (k m : ℕ) → m ≡ n + k → (MayChange m → ⊥) → Stands (get_or ks k no_kind)
  stands_at n [] all k m e stays = tt
  stands_at n (no_kind ∷ ks) all zero m e stays = tt
  stands_at n (no_kind ∷ ks) all (suc k) m e stays = stands_at (suc n) ks all k m (omega arith) stays
  stands_at n (alone P b ∷ ks) all zero m e stays = all.0 (λ c. stays (subst MayChange (omega arith) c))
  stands_at n (alone P b ∷ ks) all (suc k) m e stays = stands_at (suc n) ks all.1 k m (omega arith) stays
  stands_at n (paired P b ∷ ks) all zero m e stays = tt
  stands_at n (paired P b ∷ ks) all (suc k) m e stays = stands_at (suc n) ks all k m (omega arith) stays
  stands_at n (of_filters P b ∷ ks) all zero m e stays = tt
  stands_at n (of_filters P b ∷ ks) all (suc k) m e stays = stands_at (suc n) ks all k m (omega arith) stays

  -- A test that looks at the row alone.
  itself : (b : Placed → Bool) (i : ℕ) → i < length t.rows → b (placed_at (extended added t) i) ≡ b (placed_at t i)
  itself b i h = ap b (placed i h)

  each : StandFrom 0 numbered
  each =
      (λ stays. itself internal_loop)
      ▹ (λ stays. itself out_of_place)
      ▹ (λ stays. itself (λ p. non_enforceable (entity_at t p.from).mask (entity_at t p.to).mask t.caps p.row))
      ▹ (λ stays. itself (λ p. inadequate t.floor p.row))
      ▹ (λ stays. absurd (stays (inl refl)))
      ▹ (λ stays. itself (λ p. filtered (filter_at t) (length t.filters) p.row))
      ▹ (λ stays. itself (λ p. layer_two p.row))
      ▹ (λ stays. absurd (stays (inr (inl refl))))
      ▹ (λ stays. itself cyclic)
      ▹ (λ stays. absurd (stays (inr (inr refl))))
      ▹ (λ stays i h. ap is_none ((old_rows_keep t added).verdict i h))
      ▹ tt

  -- ---- the anomalies

  module _ (w : Wellformed t) (v : Wellformed (extended added t)) where
    -- The number of an old row is a row's in both tables, and FF is in neither.
    old_row : (i : ℕ) → i < length t.rows → (ltb i (length t.rows) ≡ true) × (ltb i (length (t.rows ++ added)) ≡ true)
    old_row i h = (lt-ltb i (length t.rows) h, lt-ltb i (length (t.rows ++ added)) (omega (arith, length-append t.rows added)))

    says_rows : (i j : ℕ) → OfOldRows t i j → (k : Kind) → Stands k → says (extended added t) k i j ≡ says t k i j
    says_rows i j old no_kind s = refl
    says_rows i j old (alone P b) s = rw ((old_row i old.0).0, (old_row i old.0).1) (ap (λ c. eqb j no_second && c) (s i old.0))
    says_rows i j (h, inl k) (paired P b) s =
        rw ((old_row i h).0, (old_row i h).1, (old_row j k).0, (old_row j k).1) (λ x. b (pair_of (parent_of t) i j (placed i h x) (placed j k x)))
    says_rows i j (h, inr e) (paired P b) s =
        let few = w.counts.few_rows in
        let more = v.counts.few_rows in
        rw (le-ltb j (length t.rows) (omega arith), le-ltb j (length (t.rows ++ added)) (omega arith)) (simp and-false)
    says_rows i j old (of_filters P b) s = refl

    says_filters : (i j : ℕ) (k : Kind) → OfFilters k → says (extended added t) k i j ≡ says t k i j
    says_filters i j no_kind o = refl
    says_filters i j (alone P b) o = absurd o
    says_filters i j (paired P b) o = absurd o
    says_filters i j (of_filters P b) o = refl

    pub anomalies_stand : AnomaliesStand t added
    unfolding anomaly
    anomalies_stand i kind j old stays =
        let tests : anomaly (extended added t) i kind j ≡ anomaly t i kind j = elim old [
          | inl rows ↦ says_rows i j rows (kind_at kind) (stands_at 0 numbered each kind kind (omega arith) stays)
          | inr h ↦ says_filters i j (kind_at kind) (filter_kind_lem kind h)
        ] in
        let old = anomaly_decides t w i j kind in
        let new = anomaly_decides (extended added t) v i j kind in
        (λ a. new.yes (tests ∙ decides_holds _ old a), λ a. old.yes (sym tests ∙ decides_holds _ new a))
