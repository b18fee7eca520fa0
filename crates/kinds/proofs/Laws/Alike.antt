-- The tests go by what the rows and filters below their numbers are: two sights that are alike there give the same tests.
-- Assumes nothing.
use Prim.Native.Nat.{ℕ, zero, suc, ◌<◌}
use mathlib.Core.Path.{◌≡◌, refl, ap, ◌∙◌}
use mathlib.Core.Bool.{Bool, true, false, not, ◌&&◌}
use mathlib.Core.List.{List, [], ◌∷◌, map}
use native.Mathlib.Omega.{arith}
use lib.Dec.{eqb, ltb}
use Rattle.policy.specs.Model.{Filter, Row, Selector}
use Rattle.base.specs.Lists.{among}
use Rattle.relations.specs.Coefficients.{at_least}
use Rattle.relations.specs.Selectors.{inhabited, meet}
use Rattle.kinds.specs.Views.{Placed}
use Rattle.base.proofs.Laws.Members.{some_alike}
use Rattle.base.proofs.Laws.Each.{◌▹◌}
use Rattle.kinds.specs.Tests.{internal_loop, out_of_place, non_enforceable, inadequate, rides, superfluous, filters, excepts, excepted, filtered_by, filtered, layer_two, answers, asymmetric, cyclic, goes_on, chains, alternative_path, pair_of}
use Rattle.kinds.specs.Seen.{Seen, pair_in}
use Rattle.kinds.specs.Kinds.{Kind, no_kind, alone, paired, of_filters, kinds, of_one, row_tests}

module _ (f g : ℕ → Placed) (rows i : ℕ) (hi : i < rows) (h : (j : ℕ) → j < rows → f j ≡ g j) where
  superfluous_alike : superfluous f rows i ≡ superfluous g rows i
  unfolding superfluous
  superfluous_alike =
      rw (
        some_alike rows (λ j. not (eqb j i) && rides (f j) (f i)) (λ j. not (eqb j i) && rides (g j) (g i)) (λ j k. rw (h j k, h i hi)),
        some_alike rows
            (λ j. (not (eqb j i) && rides (f j) (f i)) && not (at_least (f j).row.coefficients (f i).row.coefficients))
            (λ j. (not (eqb j i) && rides (g j) (g i)) && not (at_least (g j).row.coefficients (g i).row.coefficients))
            (λ j k. rw (h j k, h i hi)),
      )

module _ (f g : ℕ → Row) (rows i : ℕ) (hi : i < rows) (h : (j : ℕ) → j < rows → f j ≡ g j) where
  asymmetric_alike : asymmetric f rows i ≡ asymmetric g rows i
  unfolding asymmetric
  asymmetric_alike =
      ap not (some_alike rows (λ j. answers (f j) (f i)) (λ j. answers (g j) (g i)) (λ j k. rw (h j k, h i hi)))

module _ (f g : ℕ → Filter) (count : ℕ) (h : (k : ℕ) → k < count → f k ≡ g k) {r q : Row} (e : r ≡ q) where
  excepted_alike : (k : ℕ) → k < count → excepted f k (f k).root r ≡ excepted g k (g k).root q
  unfolding excepted
  excepted_alike k b =
      some_alike k (λ j. excepts r (f k).root (f j)) (λ j. excepts q (g k).root (g j)) (λ j d. λ x. excepts (e x) (h k b x).root (h j (omega arith) x))

  filtered_alike : filtered f count r ≡ filtered g count q
  unfolding filtered filtered_by
  filtered_alike =
      some_alike count (λ k. filtered_by f k r) (λ k. filtered_by g k q) (λ k b. λ x. filters (e x) (h k b x) && not (excepted_alike k b x))

module _ (from from' to to' : ℕ → ℕ) (selector selector' : ℕ → Selector) (rows : ℕ)
    (hf : (j : ℕ) → j < rows → from j ≡ from' j)
    (ht : (j : ℕ) → j < rows → to j ≡ to' j)
    (hs : (j : ℕ) → j < rows → selector j ≡ selector' j) where
  chains_alike : (n b a : ℕ) (visited : List ℕ) (s : Selector)
      → chains from to selector rows n b a visited s ≡ chains from' to' selector' rows n b a visited s
  unfolding chains goes_on
  chains_alike zero b a visited s = refl
  chains_alike (suc n) b a visited s =
      some_alike rows
      (λ j.
      goes_on from to selector j a visited s
      && elim (eqb (to j) b) [ true ↦ ltb n 3 | false ↦ chains from to selector rows n b (to j) (to j ∷ visited) (meet s (selector j)) ])
      (λ j.
      goes_on from' to' selector' j a visited s
      && elim (eqb (to' j) b) [ true ↦ ltb n 3 | false ↦ chains from' to' selector' rows n b (to' j) (to' j ∷ visited) (meet s (selector' j)) ])
      (λ j k.
      ap (λ (c : Bool). goes_on from to selector j a visited s && elim (eqb (to j) b) [ true ↦ ltb n 3 | false ↦ c ])
      (chains_alike n b (to j) (to j ∷ visited) (meet s (selector j)))
      ∙ (λ w. row (hf j k w) (ht j k w) (hs j k w)))
    where
      -- a row by its roots and its selector
      row : ℕ → ℕ → Selector → Bool
      row x y z =
          (eqb x a && (not (among y visited) && inhabited (meet s z)))
          && elim (eqb y b) [ true ↦ ltb n 3 | false ↦ chains from' to' selector' rows n b y (y ∷ visited) (meet s z) ]

  alternative_path_alike : (i : ℕ) → i < rows → alternative_path from to selector rows i ≡ alternative_path from' to' selector' rows i
  unfolding alternative_path
  alternative_path_alike i h =
      rw (hf i h, ht i h, hs i h) (chains_alike 4 (to' i) (from' i) (from' i ∷ []) (selector' i))

-- ---- what the tests look at

pub record Alike (s u : Seen) : Type 0 where
  pub up : s.up ≡ u.up
  pub caps : s.caps ≡ u.caps
  pub floor : s.floor ≡ u.floor
  pub filters : s.filters ≡ u.filters
  pub filter : (k : ℕ) → k < s.filters → s.filter k ≡ u.filter k
  pub rows : s.rows ≡ u.rows
  pub placed : (i : ℕ) → i < s.rows → s.placed i ≡ u.placed i
  pub from_mask : (i : ℕ) → i < s.rows → s.mask (s.placed i).from ≡ u.mask (u.placed i).from
  pub to_mask : (i : ℕ) → i < s.rows → s.mask (s.placed i).to ≡ u.mask (u.placed i).to
  pub dead : (i : ℕ) → i < s.rows → s.dead i ≡ u.dead i

-- What holds of the test of each kind of one row.
abbrev Alones : ((Seen → ℕ → Bool) → Type 0) → List Kind → Type 0
Alones P [] = Unit {0}
Alones P (no_kind ∷ l) = Alones P l
Alones P (alone Q b ∷ l) = P b × Alones P l
Alones P (paired Q b ∷ l) = Alones P l
Alones P (of_filters Q b ∷ l) = Alones P l

alones_map : (s u : Seen) (i : ℕ) (l : List Kind) → Alones (λ b. b s i ≡ b u i) l → map (of_one s i) l ≡ map (of_one u i) l
alones_map s u i [] a = refl
alones_map s u i (no_kind ∷ l) a = ap (λ (m : List Bool). false ∷ m) (alones_map s u i l a)
alones_map s u i (alone Q b ∷ l) a = λ x. a.0 x ∷ alones_map s u i l a.1 x
alones_map s u i (paired Q b ∷ l) a = ap (λ (m : List Bool). false ∷ m) (alones_map s u i l a)
alones_map s u i (of_filters Q b ∷ l) a = ap (λ (m : List Bool). false ∷ m) (alones_map s u i l a)

module _ {s u : Seen} (a : Alike s u) where
  pub pair_alike : (i j : ℕ) → i < s.rows → j < s.rows → pair_in s i j ≡ pair_in u i j
  pair_alike i j h k = λ x. pair_of (a.up x) i j (a.placed i h x) (a.placed j k x)

  row : (j : ℕ) → j < s.rows → (s.placed j).row ≡ (u.placed j).row
  row j h = ap (λ (p : Placed). p.row) (a.placed j h)

  pub row_alike : (i : ℕ) → i < s.rows → row_tests s i ≡ row_tests u i
  row_alike i h = ap (λ (l : List Bool). false ∷ l) (alones_map s u i kinds each)
    where
      each : Alones (λ b. b s i ≡ b u i) kinds
      each =
          ap internal_loop (a.placed i h)
          ▹ ap out_of_place (a.placed i h)
          ▹ (λ x. non_enforceable (a.from_mask i h x) (a.to_mask i h x) (a.caps x) (row i h x))
          ▹ (λ x. inadequate (a.floor x) (row i h x))
          ▹ (superfluous_alike s.placed u.placed s.rows i h a.placed ∙ ap (λ (n : ℕ). superfluous u.placed n i) a.rows)
          ▹ (filtered_alike s.filter u.filter s.filters a.filter (row i h) ∙ ap (λ (n : ℕ). filtered u.filter n (u.placed i).row) a.filters)
          ▹ ap layer_two (row i h)
          ▹ (asymmetric_alike (λ j. (s.placed j).row) (λ j. (u.placed j).row) s.rows i h row ∙ ap (λ (n : ℕ). asymmetric (λ j. (u.placed j).row) n i) a.rows)
          ▹ ap cyclic (a.placed i h)
          ▹ (alternative_path_alike (λ j. (s.placed j).from) (λ j. (u.placed j).from) (λ j. (s.placed j).to) (λ j. (u.placed j).to) (λ j. (s.placed j).row.selector) (λ j. (u.placed j).row.selector) s.rows
          (λ j k. ap (λ (p : Placed). p.from) (a.placed j k)) (λ j k. ap (λ (p : Placed). p.to) (a.placed j k)) (λ j k. ap (λ (r : Row). r.selector) (row j k)) i h
          ∙ ap (λ (n : ℕ). alternative_path (λ j. (u.placed j).from) (λ j. (u.placed j).to) (λ j. (u.placed j).row.selector) n i) a.rows)
          ▹ a.dead i h
          ▹ tt
