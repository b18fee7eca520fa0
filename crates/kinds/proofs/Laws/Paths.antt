-- The test of an alternative path agrees with its meaning. In order: rows along which roots are visited, what follows from
-- that, the chain search, the alternative path.
-- Assumes nothing.
use Prim.Native.Nat.{ℕ, zero, suc, ◌+◌, ◌≤◌, ◌<◌}
use mathlib.Core.Path.{◌≡◌, refl, sym, ap, ◌∙◌}
use mathlib.Core.Bool.{true, false, ◌&&◌}
use mathlib.Core.Logic.{◌⊎◌, inl, inr}
use mathlib.Core.List.Memᴰ
use mathlib.Core.List.{List, [], ◌∷◌, map, Memᴰ}
use native.Mathlib.Omega.{arith}
use lib.Dec.{eqb, ltb}
use lib.ListN.{length}
use Rattle.policy.specs.Limits.{field_count}
use Rattle.policy.specs.Model.{Selector, Table, row_at}
use Rattle.policy.specs.Wellformed.{Wellformed}
use Rattle.policy.proofs.Laws.Words.{five_ranges}
use Rattle.base.specs.Truths.{Decides}
use Rattle.relations.specs.Selectors.{Inhabited, MeetAll, meet}
use Rattle.base.proofs.Laws.Decides.{decides_as, decides_false, decides_and, decides_not, decides_eqb, decides_ltb, decides_either}
use Rattle.base.proofs.Laws.Members.{among_decides, Some, some_decides}
use Rattle.relations.proofs.Laws.Selectors.{inhabited_decides, meet_length, meet_all_more, meet_all_less}
use Rattle.kinds.specs.Meanings.{Twice, IsRow, source_root, destination_root, Chains, AlternativePath}
use Rattle.kinds.specs.Tests.{goes_on, chains, alternative_path}
use Rattle.kinds.proofs.Laws.Lists.{twice_cons, twice_uncons, twice_none}

module _ (t : Table) where
  -- The rows lead from the root a to the root b, each to a root that was not visited before.
  abbrev Along : ℕ → ℕ → List ℕ → List ℕ → Type 0
  Along b a visited [] = a ≡ b
  Along b a visited (j ∷ js) =
      IsRow t j × ((source_root t j ≡ a) × ((Memᴰ (destination_root t j) visited → ⊥) × Along b (destination_root t j) (destination_root t j ∷ visited) js))

  -- ---- what follows from it

  -- The rows chain, and visit no root twice.
  along_chains : (b a : ℕ) (visited js : List ℕ) → Along b a visited js → Chains t a js b
  along_chains b a visited [] h = h
  along_chains b a visited (j ∷ js) h = (h.0, (h.1.0, along_chains b (destination_root t j) (destination_root t j ∷ visited) js h.1.1.1))

  along_fresh : (b a : ℕ) (visited js : List ℕ) → Along b a visited js → (e : ℕ) → Memᴰ e (map (destination_root t) js) → Memᴰ e visited → ⊥
  along_fresh b a visited [] h e m v = Memᴰ.not-nil m
  along_fresh b a visited (j ∷ js) h e m v = elim (Memᴰ.cases_cons m) [
    | inl q ↦ h.1.1.0 (rw q at v)
    | inr k ↦ along_fresh b (destination_root t j) (destination_root t j ∷ visited) js h.1.1.1 e k (Memᴰ.tail v)
  ]

  along_once : (b a : ℕ) (visited js : List ℕ) → Along b a visited js → Twice (map (destination_root t) js) → ⊥
  along_once b a visited [] h w = twice_none w
  along_once b a visited (j ∷ js) h w = elim (twice_uncons (destination_root t j) (map (destination_root t) js) w) [
    | inl m ↦ along_fresh b (destination_root t j) (destination_root t j ∷ visited) js h.1.1.1 (destination_root t j) m (Memᴰ.head refl)
    | inr k ↦ along_once b (destination_root t j) (destination_root t j ∷ visited) js h.1.1.1 k
  ]

  chains_along : (b a : ℕ) (visited js : List ℕ) → Chains t a js b → ((e : ℕ) → Memᴰ e (map (destination_root t) js) → Memᴰ e visited → ⊥)
      → (Twice (map (destination_root t) js) → ⊥) → Along b a visited js
  chains_along b a visited [] c f o = c
  chains_along b a visited (j ∷ js) c f o = (
    c.0,
    (
      c.1.0,
      (
        f (destination_root t j) (Memᴰ.head refl),
        chains_along b (destination_root t j) (destination_root t j ∷ visited) js c.1.1
            (λ e m v. elim (Memᴰ.cases_cons v) [
              | inl q ↦ o (twice_cons (destination_root t j) (map (destination_root t) js) (inl (rw q at m)))
              | inr k ↦ f e (Memᴰ.tail m) k
            ])
            (λ w. o (twice_cons (destination_root t j) (map (destination_root t) js) (inr w))),
      ),
    ),
  )

  -- The end was not visited before, if there is a row.
  end_fresh : (b a : ℕ) (visited js : List ℕ) → Along b a visited js → 0 < length js → Memᴰ b visited → ⊥
  end_fresh b a visited [] h n v = absurd (omega arith)
  end_fresh b a visited (j ∷ []) h n v = h.1.1.0 (rw h.1.1.1 v)
  end_fresh b a visited (j ∷ k ∷ js) h n v =
      end_fresh b (destination_root t j) (destination_root t j ∷ visited) (k ∷ js) h.1.1.1 (omega arith) (Memᴰ.tail v)

  -- A row of them begins at a, or at a root that was not visited before.
  source_fresh : (b a : ℕ) (visited js : List ℕ) → Along b a visited js → (k : ℕ) → Memᴰ k js
      → (source_root t k ≡ a) ⊎ (Memᴰ (source_root t k) visited → ⊥)
  source_fresh b a visited [] h k m = absurd (Memᴰ.not-nil m)
  source_fresh b a visited (j ∷ js) h k m = elim (Memᴰ.cases_cons m) [
    | inl e ↦ inl (rw e h.1.0)
    | inr n ↦ elim (source_fresh b (destination_root t j) (destination_root t j ∷ visited) js h.1.1.1 k n) [
      | inl e ↦ inr (λ v. h.1.1.0 (rw e at v))
      | inr f ↦ inr (λ v. f (Memᴰ.tail v))
    ]
  ]

module _ (t : Table) (w : Wellformed t) where
  all_fields : (j : ℕ) → IsRow t j → length (row_at t j).selector ≡ field_count
  all_fields j h = five_ranges (w.row j h).selector

  -- ---- the chain search

  abbrev selector_at : ℕ → Selector
  selector_at j = (row_at t j).selector

  abbrev selectors_of : List ℕ → List Selector
  selectors_of js = map selector_at js

  abbrev GoesOn : ℕ → ℕ → List ℕ → Selector → Type 0
  GoesOn j a visited s =
      (source_root t j ≡ a) × ((Memᴰ (destination_root t j) visited → ⊥) × Inhabited (meet s (row_at t j).selector))

  goes_on_decides : (j a : ℕ) (visited : List ℕ) (s : Selector) → Decides (goes_on (source_root t) (destination_root t) selector_at j a visited s) (GoesOn j a visited s)
  unfolding goes_on
  goes_on_decides j a visited s =
      decides_and _ _ (decides_eqb _ _) (decides_and _ _ (decides_not _ (among_decides _ _)) (inhabited_decides _))

  -- One to n rows along which one packet of the selector lies; of four at least two.
  abbrev Reach : ℕ → ℕ → ℕ → List ℕ → Selector → Type 0
  Reach n b a visited s =
      (js : List ℕ) × (0 < length js) × (length js ≤ n) × (n < length js + 3) × (Along t b a visited js × MeetAll s (selectors_of js))

  meets_first : (s : Selector) (j : ℕ) (js : List ℕ) → length (row_at t j).selector ≡ length s → MeetAll s (selectors_of (j ∷ js)) → Inhabited (meet s (row_at t j).selector)
  meets_first s j js same m = let h = meet_all_less s (row_at t j).selector (selectors_of js) same m in (h.0, h.1)

  chains_decides : (n b a : ℕ) (visited : List ℕ) (s : Selector) → length s ≡ field_count
      → Decides (chains (source_root t) (destination_root t) selector_at (length t.rows) n b a visited s) (Reach n b a visited s)
  unfolding chains
  chains_decides zero b a visited s fields = decides_false (λ h. let m = h.1 in let k = h.2 in absurd (omega arith))
  chains_decides (suc n) b a visited s fields =
      decides_as join (λ h. split h.0 h.1 h.2 h.3 h.4.0 h.4.1)
      (some_decides (length t.rows)
      (λ j.
      goes_on (source_root t) (destination_root t) selector_at j a visited s
      && elim (eqb (destination_root t j) b) [
        | true ↦ ltb n 3
        | false ↦ chains (source_root t) (destination_root t) selector_at (length t.rows) n b (destination_root t j) (destination_root t j ∷ visited) (meet s (row_at t j).selector)
      ])
      (λ j h.
      decides_and _ _ (goes_on_decides j a visited s)
      (decides_either _ _ _ (decides_eqb _ _) (decides_ltb n 3)
      (chains_decides n b (destination_root t j) (destination_root t j ∷ visited) (meet s (row_at t j).selector)
      (meet_length s (row_at t j).selector (same j h) ∙ fields)))))
    where
      same : (j : ℕ) → IsRow t j → length (row_at t j).selector ≡ length s
      same j h = all_fields j h ∙ sym fields

      First : ℕ → Type 0
      First j =
          GoesOn j a visited s
          × (((destination_root t j ≡ b) × (n < 3))
          ⊎ ((destination_root t j ≡ b → ⊥) × Reach n b (destination_root t j) (destination_root t j ∷ visited) (meet s (row_at t j).selector)))

      join : Some (length t.rows) First → Reach (suc n) b a visited s
      join (j, h, (g, inl e)) = (
        j ∷ [],
        omega arith,
        omega arith,
        omega (arith, e.1),
        (
          (h, (g.0, (g.1.0, e.0))),
          meet_all_more s (row_at t j).selector [] (same j h) (g.1.1.0, g.1.1.1, λ q m. absurd (Memᴰ.not-nil m)),
        ),
      )
      join (j, h, (g, inr (ne, r))) = (
        j ∷ r.0,
        omega arith,
        omega (arith, r.2),
        omega (arith, r.3),
        (
          (h, (g.0, (g.1.0, r.4.0))),
          meet_all_more s (row_at t j).selector (selectors_of r.0) (same j h) r.4.1,
        ),
      )

      split : (js : List ℕ) → 0 < length js → length js ≤ suc n → suc n < length js + 3 → Along t b a visited js → MeetAll s (selectors_of js) → Some (length t.rows) First
      split [] m k l al p = absurd (omega arith)
      split (j ∷ []) m k l al p = (j, al.0, ((al.1.0, (al.1.1.0, meets_first s j [] (same j al.0) p)), inl (al.1.1.1, omega arith)))
      split (j ∷ i ∷ js) m k l al p = (
        j,
        al.0,
        (
          (al.1.0, (al.1.1.0, meets_first s j (i ∷ js) (same j al.0) p)),
          inr (
            (λ e. end_fresh t b (destination_root t j) (destination_root t j ∷ visited) (i ∷ js) al.1.1.1 (omega arith) (Memᴰ.head (sym e))),
            (
              i ∷ js,
              omega arith,
              omega arith,
              omega arith,
              (al.1.1.1, meet_all_less s (row_at t j).selector (selectors_of (i ∷ js)) (same j al.0) p),
            ),
          ),
        ),
      )

  -- ---- the alternative path

  module _ (i : ℕ) (hi : IsRow t i) where
    abbrev from : ℕ
    from = source_root t i

    abbrev to : ℕ
    to = destination_root t i

    -- none of the rows is i, since it would begin or end where it may not
    not_own : (js : List ℕ) → 2 ≤ length js → Along t to from (from ∷ []) js → Memᴰ i js → ⊥
    not_own [] n al m = absurd (omega arith)
    not_own (j ∷ []) n al m = absurd (omega arith)
    not_own (j ∷ k ∷ js) n al m =
        let rest = al.1.1.1 in
        elim (Memᴰ.cases_cons m) [
          | inl e ↦
              end_fresh t to (destination_root t j) (destination_root t j ∷ from ∷ []) (k ∷ js) rest (omega arith) (Memᴰ.head (ap (destination_root t) e))
          | inr l ↦ elim (source_fresh t to (destination_root t j) (destination_root t j ∷ from ∷ []) (k ∷ js) rest i l) [
            | inl e ↦ al.1.1.0 (Memᴰ.head (sym e))
            | inr f ↦ f (Memᴰ.tail (Memᴰ.head refl))
          ]
        ]

    join : Reach 4 to from (from ∷ []) (row_at t i).selector → AlternativePath t i
    join (js, one, four, two, (al, p)) =
        record {
          rows = js;
          two = omega arith;
          four = four;
          other = not_own js (omega arith) al;
          chain = along_chains t to from (from ∷ []) js al;
          visited = λ v. elim (twice_uncons from (map (destination_root t) js) v) [
            | inl m ↦ along_fresh t to from (from ∷ []) js al from m (Memᴰ.head refl)
            | inr k ↦ along_once t to from (from ∷ []) js al k
          ];
          packet = p;
          no_loop = λ e. end_fresh t to from (from ∷ []) js al one (Memᴰ.head (sym e));
        }

    split : AlternativePath t i → Reach 4 to from (from ∷ []) (row_at t i).selector
    split e = (
      e.rows,
      omega (arith, e.two),
      e.four,
      omega (arith, e.two),
      (
        chains_along t to from (from ∷ []) e.rows e.chain
            (λ r m n. elim (Memᴰ.cases_cons n) [
              | inl q ↦ e.visited (twice_cons from (map (destination_root t) e.rows) (inl (rw q at m)))
              | inr k ↦ Memᴰ.not-nil k
            ])
            (λ k. e.visited (twice_cons from (map (destination_root t) e.rows) (inr k))),
        e.packet,
      ),
    )

    pub alternative_path_decides : Decides (alternative_path (source_root t) (destination_root t) selector_at (length t.rows) i) (AlternativePath t i)
    unfolding alternative_path
    alternative_path_decides = decides_as join split (chains_decides 4 to from (from ∷ []) (row_at t i).selector (all_fields i hi))
