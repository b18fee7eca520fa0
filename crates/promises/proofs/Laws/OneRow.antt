-- The kinds of one row, said a second way: first of lists of roots and of selectors exchanged, then of the kinds.
-- Assumes nothing.
use Prim.Native.Nat.{ℕ, suc, ◌+◌, ◌-◌, ◌<◌}
use mathlib.Core.Path.{◌≡◌, refl, sym, ap, ◌∙◌}
use mathlib.Core.Logic.{◌↔◌, ◌⊎◌, inl, inr, ⊎_map}
use mathlib.Core.Bool.{Bool, ◌&&◌, ◌||◌, or_assoc}
use mathlib.Core.List.{List, [], ◌∷◌, ◌++◌, Memᴰ}
use native.Mathlib.Omega.{arith}
use lib.Dec.{eqb}
use lib.ListN.{length, get_or, take, drop, length-append, length-drop}
use lib.Seq.{split_at, get_or-drop, get_or-append_seam, get_or-append-add}
use Rattle.policy.specs.Model.{Coefficients, Packet, Selector, Table, entity_at, filter_at, row_at, parent_of}
use Rattle.policy.specs.Wellformed.{Ordered, Wellformed}
use Rattle.base.specs.Truths.{Decides}
use Rattle.base.specs.Lists.{among}
use Rattle.base.proofs.Laws.Decides.{decides_and, decides_or, decides_eqb, decides_holds, decided}
use Rattle.base.proofs.Laws.Members.{among_decides}
use Rattle.base.proofs.Laws.Firsts.{FirstBelow, first_or_none}
use Rattle.relations.specs.Entities.{AtOrAbove}
use Rattle.relations.specs.Selectors.{inhabited, Holds, holds, exchange}
use Rattle.relations.proofs.Laws.Entities.{above_same_root, root_above, root_top}
use Rattle.relations.proofs.Laws.Selectors.{ordered_inhabited, inhabited_decides, inhabited_ordered, holds_decides, contains_antisym, exchange_holds, exchange_twice}
use Rattle.relations.proofs.Laws.Tables.{table_tree}
use Rattle.frames.specs.Kinds.{of_cap}
use Rattle.reader.specs.Frames.{a_frame}
use Rattle.reader.specs.Rules.{frames_of}
use Rattle.kinds.specs.Meanings.{InOrder, Twice, IsRow, source_root, destination_root, OutOfPlace, ExceedsCap, NonEnforceable, Filtered, Answers, Asymmetric}
use Rattle.kinds.specs.Tests.{twice}
use Rattle.kinds.proofs.Laws.Lists.{twice_decides}
use Rattle.kinds.proofs.Laws.Pairs.{selector_ordered}
use Rattle.kinds.proofs.Laws.Roots.{twice_between}
use Rattle.promises.specs.KindPromises.{SomeSmaller, Decider, Layered, Supports, OneRowLaws}
use Rattle.promises.proofs.Laws.Caps.{lacks_bit, some_smaller, protects_enough, cap_said}
use Rattle.promises.proofs.Laws.Layers.{layer_two, not_null}
use Rattle.promises.proofs.Laws.Devices.{one_device, by_devices}

-- ---- lists of roots

-- What stands at a place of a list parts it.
parted : (x : ℕ) (l : List ℕ) (k : ℕ) → k < length l → get_or l k 0 ≡ x → l ≡ take k l ++ (x ∷ drop (suc k) l)
parted x l k h e = rw e at (split_at l k 0 h)

-- The first place parts the list, and the later one what stands behind it; back, a place is as far as what stands before it is long.
in_order : (a b : ℕ) (l : List ℕ)
    → InOrder a b l ↔ ((xs : List ℕ) × (ys : List ℕ) × (zs : List ℕ) × (l ≡ xs ++ (a ∷ (ys ++ (b ∷ zs)))))
in_order a b l = (
  λ h.
      let k = h.later - suc h.place in
      let r = drop (suc h.place) l in
      let e : suc h.place + k ≡ h.later = omega (arith, h.order) in
      let f = parted b r k (omega (arith, length-drop (suc h.place) l, h.order, h.last)) (rw (get_or-drop, e) h.second) in (
        take h.place l,
        take k r,
        drop (suc k) r,
        parted a l h.place (omega (arith, h.order, h.last)) h.first ∙ ap (λ m. take h.place l ++ (a ∷ m)) f,
      ),
  λ h.
      let xs = h.0 in
      let ys = h.1 in
      record {
        place = length xs;
        later = length xs + suc (length ys);
        order = omega arith;
        last = rw h.3 (simp length-append (omega arith));
        first = rw h.3 (get_or-append_seam xs a _ 0);
        second = rw h.3 (get_or-append-add xs _ (suc (length ys)) 0 ∙ get_or-append_seam ys b h.2 0);
      },
)

-- Where a test decides both, they say the same.
both_decided : (b : Bool) {P Q : Type 0} → Decides b P → Decides b Q → P ↔ Q
both_decided b d e = (λ p. e.yes (decides_holds b d p), λ q. d.yes (decides_holds b e q))

-- Between two ends: the ends are the same, one of them is between, or a number stands there twice.
cyclic : (a : ℕ) (xs : List ℕ) (b : ℕ) → Twice (a ∷ (xs ++ (b ∷ []))) ↔ ((a ≡ b) ⊎ (Memᴰ a xs ⊎ (Memᴰ b xs ⊎ Twice xs)))
cyclic a xs b =
    both_decided (eqb a b || (among a xs || (among b xs || twice xs)))
    (rw (twice_between a xs b, or_assoc (eqb a b) (among a xs) (among b xs || twice xs)) at (twice_decides (a ∷ (xs ++ (b ∷ [])))))
    (decides_or _ _ (decides_eqb a b) (decides_or _ _ (among_decides a xs) (decides_or _ _ (among_decides b xs) (twice_decides xs))))

-- ---- selectors with source and destination exchanged

-- It has no low above its high where the selector has none.
exchange_ordered : (s : Selector) → Ordered s → Ordered (exchange s)
exchange_ordered s o =
    let p = ordered_inhabited s o in
    inhabited_ordered (exchange s)
    (decides_holds (inhabited (exchange s)) (inhabited_decides (exchange s)) (exchange p.0, exchange_holds s p.0 p.1))

-- A selector is another exchanged exactly if it has just the other's packets exchanged.
same_exchanged : (s q : Selector) → Ordered s → Ordered q → (q ≡ exchange s) ↔ ((p : Packet) → Holds s p ↔ Holds q (exchange p))
same_exchanged s q os oq = (
  λ e p. rw e (exchange_holds s p, λ h. rw (exchange_twice p) at (back (exchange p) h)),
  λ f.
      contains_antisym q (exchange s) oq (exchange_ordered s os) (λ p h. rw (exchange_twice p) at ((f (exchange p)).0 (back p h)))
      (λ p h. rw (exchange_twice p) at (exchange_holds s (exchange p) ((f (exchange p)).1 (rw (exchange_twice p) h)))),
)
  where
    back : (p : Packet) → Holds (exchange s) p → Holds s (exchange p)
    back p h = rw (exchange_twice s) at (exchange_holds (exchange s) p h)

-- ---- the kinds

-- Answers go both ways.
answers_back : (t : Table) (i j : ℕ) → IsRow t i → Answers t j i → Answers t i j
answers_back t i j r a =
    record {
      row = r;
      source = sym a.destination;
      destination = sym a.source;
      coefficients = sym a.coefficients;
      selector = sym (ap exchange a.selector ∙ exchange_twice (row_at t i).selector);
    }

module _ (t : Table) (w : Wellformed t) where
  -- The first filter of the gateway that has the packet is the dropping one that has them all, or comes before it and does not pass.
  decided_by : (i : ℕ) (f : Filtered t i) (p : Packet) → Holds (row_at t i).selector p
      → (m : ℕ) × Decider t (filter_at t f.filter).root m p × ((filter_at t m).action ≡ 0)
  decided_by i f p h = elim (first_or_none test (suc f.filter)) [
    | inl s ↦ (
      s.0,
      record {
        there = omega (arith, f.there, s.1.inside);
        root_of = ((says s.0).yes s.1.passes).0;
        has = ((says s.0).yes s.1.passes).1;
        first = λ k l e q. (says k).no (s.1.first k l) (e, q);
      },
      drops s.0 s.1,
    )
    | inr none ↦ absurd ((says f.filter).no (none f.filter (omega arith)) (refl, f.contains p h))
  ]
    where
      test : ℕ → Bool
      test k = eqb (filter_at t k).root (filter_at t f.filter).root && holds (filter_at t k).selector p

      says : (k : ℕ) → Decides (test k) (((filter_at t k).root ≡ (filter_at t f.filter).root) × Holds (filter_at t k).selector p)
      says k = decides_and _ _ (decides_eqb _ _) (holds_decides _ _)

      drops : (k : ℕ) → FirstBelow test (suc f.filter) k → (filter_at t k).action ≡ 0
      drops k s = elim (decided (eqb k f.filter) (decides_eqb k f.filter)) [
        | inl e ↦ rw e f.drops
        | inr n ↦
            let l : k < f.filter = omega (arith, s.inside, n) in
            let y = (says k).yes s.passes in
            let a = (w.filter k (omega (arith, f.there))).action in
            let q : (filter_at t k).action ≡ 1 → ⊥ =
            λ e. f.not_excepted k (record { earlier = l; passes = e; root = y.0; overlap = (p, y.1, h) }) in
            omega arith
      ]

  module _ (i : ℕ) (r : IsRow t i) where
    -- The holder is a root: it is ⪰ the source where it is the source's root, and nowhere else.
    out_of_place : OutOfPlace t i ↔ (AtOrAbove (parent_of t) (row_at t i).holder (row_at t i).source → ⊥)
    out_of_place =
        let tree = table_tree t w in
        let top = root_top (parent_of t) tree (row_at t i).holder (w.row i r).holder.root in (
          λ n m. n (sym top ∙ above_same_root (parent_of t) tree (row_at t i).holder (row_at t i).source m),
          λ n e. n (rw e (root_above (parent_of t) tree (row_at t i).source)),
        )

    -- The bit of the technology is not in a mask where its quotient is even.
    non_enforceable : NonEnforceable t i
        ↔ (Layered t i × ((Supports t (source_root t i) i → ⊥) ⊎ ((Supports t (destination_root t i) i → ⊥) ⊎ ExceedsCap t i)))
    non_enforceable =
        let named = not_null (row_at t i).technology (w.row i r).technology in
        let from = lacks_bit (entity_at t (source_root t i)).mask (row_at t i).technology in
        let to = lacks_bit (entity_at t (destination_root t i)).mask (row_at t i).technology in (
          λ n. (named.0 n.not_null, ⊎_map from.0 (⊎_map to.0 (λ x. x)) n.why),
          λ h. record { not_null = named.1 h.0; why = ⊎_map from.1 (⊎_map to.1 (λ x. x)) h.1 },
        )

    -- The cap of the row's technology is the one that its frame says.
    cap : (c : Coefficients) → Memᴰ (a_frame of_cap (record { technology = (row_at t i).technology; coefficients = c })) (frames_of t)
        → ExceedsCap t i ↔ SomeSmaller c (row_at t i).coefficients
    cap c m =
        let e = cap_said t (record { technology = (row_at t i).technology; coefficients = c }) m in
        let n = (w.cap ((row_at t i).technology - 1) (omega (arith, (w.row i r).technology))).three in
        rw e (some_smaller c (row_at t i).coefficients (sym (ap length e) ∙ n ∙ sym (w.row i r).coefficients.three))

    -- A row that leads back answers exactly if it has just the packets exchanged.
    asymmetric : Asymmetric t i
        ↔ ((j : ℕ) → IsRow t j → (row_at t j).source ≡ (row_at t i).destination → (row_at t j).destination ≡ (row_at t i).source
        → (row_at t j).coefficients ≡ (row_at t i).coefficients → ((p : Packet) → Holds (row_at t i).selector p ↔ Holds (row_at t j).selector (exchange p)) → ⊥)
    asymmetric = (
      λ n j rj a b c p. n j (record { row = rj; source = a; destination = b; coefficients = c; selector = (exchanged j rj).1 p }),
      λ n j a. n j a.row a.source a.destination a.coefficients ((exchanged j a.row).0 a.selector),
    )
      where
        exchanged : (j : ℕ) → IsRow t j
            → ((row_at t j).selector ≡ exchange (row_at t i).selector) ↔ ((p : Packet) → Holds (row_at t i).selector p ↔ Holds (row_at t j).selector (exchange p))
        exchanged j rj = same_exchanged _ _ (selector_ordered t w i r) (selector_ordered t w j rj)

  pub one_row_laws : OneRowLaws t
  one_row_laws =
      record {
        internal_loop = λ i. one_device t w (row_at t i).source (row_at t i).destination;
        out_of_place = out_of_place;
        non_enforceable = non_enforceable;
        cap = λ i c r. cap i r c;
        inadequate = λ i r. some_smaller _ _ ((w.row i r).coefficients.three ∙ sym w.floor.three);
        superfluous = λ i r. (
          λ s. ((s.rider, s.rides), λ j q. (protects_enough t w j i q.row r).0 (s.at_least j q)),
          λ h. record { rider = h.0.0; rides = h.0.1; at_least = λ j q. (protects_enough t w j i q.row r).1 (h.1 j q) },
        );
        rides = λ i j.
            let order = in_order (source_root t i) (destination_root t i) (row_at t j).gateways in (
              λ q. (q.row, q.other, order.0 q.gateways, q.selector),
              λ h. record { row = h.0; other = h.1; gateways = order.1 h.2; selector = h.3 },
            );
        filtered = λ i. (
          λ f. (
            f.filter,
            f.there,
            f.drops,
            f.gateway,
            f.contains,
            λ k p l a e x y. f.not_excepted k (record { earlier = l; passes = a; root = e; overlap = (p, x, y) }),
          ),
          λ h. record {
            filter = h.0;
            there = h.1;
            drops = h.2;
            gateway = h.3;
            contains = h.4;
            not_excepted = λ k x. h.5 k x.overlap.0 x.earlier x.passes x.root x.overlap.1 x.overlap.2;
          },
        );
        dropped = λ i f. ((filter_at t f.filter).root, f.gateway, decided_by i f);
        layer_two = λ i. (
          λ l. ((layer_two _).0 l.layer, l.gateways),
          λ h. record { layer = (layer_two _).1 h.0; gateways = h.1 },
        );
        asymmetric = asymmetric;
        answered = λ i j ri rj. (answers_back t i j ri, answers_back t j i rj);
        cyclic = λ i. cyclic (source_root t i) (row_at t i).gateways (destination_root t i);
        path = by_devices t;
      }
