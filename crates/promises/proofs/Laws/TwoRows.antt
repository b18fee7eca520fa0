-- The kinds of two rows, said a second way: first of selectors and technologies, then of rows of which one encloses the other, then of the kinds.
-- Assumes nothing.
use Prim.Native.Nat.{ℕ, ◌≤◌, ◌<◌}
use mathlib.Core.Path.{◌≡◌, sym, ◌∙◌}
use mathlib.Core.Logic.{◌↔◌, ◌⊎◌, inl, inr, ⊎_map}
use mathlib.Core.Bool.{true, and-eq-true_iff}
use mathlib.Core.List.{[], ◌∷◌, Memᴰ}
use native.Mathlib.Omega.{arith}
use lib.Dec.{leb, eqb}
use Rattle.policy.specs.Model.{Packet, Selector, Table, row_at, parent_of}
use Rattle.policy.specs.Wellformed.{Ordered, Wellformed}
use Rattle.base.proofs.Laws.Decides.{decides_leb, decides_eqb, decides_holds, decided}
use Rattle.base.proofs.Laws.Pairs.{pairwise_decides, pairwise_itself}
use Rattle.relations.specs.Relations.{OneOf}
use Rattle.relations.specs.Technologies.{HasLayer, DisjointTechnologies}
use Rattle.relations.specs.Selectors.{lows, highs, none_above, Holds, holds, Contains, inhabited}
use Rattle.relations.specs.Groups.{Matches, Dead}
use Rattle.relations.proofs.Laws.Entities.{above_self, above_trans, above_antisym}
use Rattle.relations.proofs.Laws.Selectors.{holds_decides, holds_ends, lows_in, ordered_inhabited, inhabited_decides, inhabited_ends}
use Rattle.relations.proofs.Laws.Selectors.{contains_decides, contains_ends, contains_antisym}
use Rattle.relations.proofs.Laws.Groups.{matches_decides, dead_hidden}
use Rattle.relations.proofs.Laws.Tables.{table_tree}
use Rattle.kinds.specs.Meanings.{IsRow, source_root, destination_root, Meets, Encloses, EarlierInGroup, Shadowing, Redundancy, SameTraffic, Exception}
use Rattle.kinds.specs.Meanings.{Correlation, Inclusion, Affinity, Contradiction, Skewed}
use Rattle.kinds.specs.Tests.{pair_at, shadowing, redundancy, exception, inclusion}
use Rattle.kinds.proofs.Laws.Pairs.{selector_ordered, shadowing_decides, redundancy_decides, exception_decides, inclusion_decides}
use Rattle.promises.specs.KindPromises.{MatchesAll, MatchesMore, ProtectsLess, InGroup, SharePacket, CommonTraffic, Layered, TwoRowsLaws}
use Rattle.promises.proofs.Laws.Caps.{protects_less, protects_enough}
use Rattle.promises.proofs.Laws.Layers.{not_null, by_layers}
use Rattle.promises.proofs.Laws.Devices.{one_device}

-- ---- selectors

-- No number of a packet is above itself.
none_above_itself : (p : Packet) → none_above p p ≡ true
none_above_itself p = decides_holds (none_above p p) (pairwise_decides leb ◌≤◌ decides_leb p p) (pairwise_itself ◌≤◌ (λ x. omega arith) p)

-- The packet of the highs is in the selector, where no low is above its high.
highs_in : (s : Selector) → Ordered s → Holds s (highs s)
highs_in s o =
    let e = sym (inhabited_ends s) ∙ decides_holds (inhabited s) (inhabited_decides s) (ordered_inhabited s o) in
    (holds_decides s (highs s)).yes (rw (holds_ends s (highs s), e, none_above_itself (highs s)))

-- A packet in a selector lies between its lows and its highs.
held_ends : (s : Selector) (p : Packet) → Holds s p → (none_above (lows s) p ≡ true) × (none_above p (highs s) ≡ true)
held_ends s p h =
    (and-eq-true_iff (none_above (lows s) p) (none_above p (highs s))).0 (sym (holds_ends s p) ∙ decides_holds (holds s p) (holds_decides s p) h)

-- A selector that has the lows and the highs of another contains it.
ends_contained : (s q : Selector) → Ordered q → Holds s (lows q) → Holds s (highs q) → Contains s q
ends_contained s q o l h =
    (contains_decides s q o).yes (rw (contains_ends s q, (held_ends s (lows q) l).0, (held_ends s (highs q) h).1))

-- ---- technologies, of which one is NULL or neither is

module _ {u v : ℕ} where
  -- Of two different ones, exactly one is NULL or neither is.
  one_null : (u ≡ v → ⊥) → DisjointTechnologies u v ⊎ ((u ≡ 0 → ⊥) × (v ≡ 0 → ⊥))
  one_null n = elim (decided (eqb u 0) (decides_eqb u 0)) [
    | inl x ↦ inl (inl (x, λ y. n (x ∙ sym y)))
    | inr x ↦ elim (decided (eqb v 0) (decides_eqb v 0)) [ inl y ↦ inl (inr (x, y)) | inr y ↦ inr (x, y) ]
  ]

  -- Where exactly one is NULL, it is not so that neither is.
  both_named : DisjointTechnologies u v → (u ≡ 0 → ⊥) → (v ≡ 0 → ⊥) → ⊥
  both_named (inl h) n m = n h.0
  both_named (inr h) n m = m h.1

-- ---- rows

module _ (t : Table) (w : Wellformed t) where
  -- ---- rows of which one encloses the other

  -- They have common traffic: the ends of the outer are ⪰ both.
  encloses_common : (i j : ℕ) → IsRow t j → Encloses t i j → CommonTraffic t i j
  encloses_common i j h e =
      let p = ordered_inhabited (row_at t j).selector (selector_ordered t w j h) in
      record {
        source = ((row_at t i).source, above_self (parent_of t) _, e.source);
        destination = ((row_at t i).destination, above_self (parent_of t) _, e.destination);
        packet = (p.0, e.selector p.0 p.1, p.1);
      }

  -- Either way round.
  common_back : (i j : ℕ) → CommonTraffic t j i → CommonTraffic t i j
  common_back i j c =
      record {
        source = (c.source.0, c.source.2, c.source.1);
        destination = (c.destination.0, c.destination.2, c.destination.1);
        packet = (c.packet.0, c.packet.2, c.packet.1);
      }

  -- The later of a group is dead.
  encloses_dead : (i j : ℕ) → IsRow t j → EarlierInGroup t i j → Encloses t i j → Dead t j
  encloses_dead i j h g e =
      (dead_hidden t (table_tree t w) j h (w.row j h).source (w.row j h).destination).1
      (λ p k. (i, record { earlier = g.earlier; group = g.group; source = e.source; destination = e.destination; packet = e.selector p k }))

  -- A row matches the probes between its own ends.
  own : (j : ℕ) (p : Packet) → Holds (row_at t j).selector p → Matches (parent_of t) (row_at t j) (row_at t j).source (row_at t j).destination p
  own j p h = record { source = above_self (parent_of t) _; destination = above_self (parent_of t) _; packet = h }

  -- A row encloses another exactly if it matches all that the other does: back, by the probes between the other's own ends, of which there are some.
  matches_all : (i j : ℕ) → IsRow t j → Encloses t i j ↔ MatchesAll t i j
  matches_all i j hj = (
    λ e a b p m. record {
      source = above_trans (parent_of t) (table_tree t w) (row_at t i).source (row_at t j).source a e.source m.source;
      destination = above_trans (parent_of t) (table_tree t w) (row_at t i).destination (row_at t j).destination b e.destination m.destination;
      packet = e.selector p m.packet;
    },
    λ m.
        let s = ordered_inhabited (row_at t j).selector (selector_ordered t w j hj) in
        let r = m _ _ _ (own j s.0 s.1) in
        record { source = r.source; destination = r.destination; selector = λ p h. (m _ _ p (own j p h)).packet },
  )

  -- A row's technology has a layer exactly if it is not NULL.
  layered : (k : ℕ) → IsRow t k → ((row_at t k).technology ≡ 0 → ⊥) ↔ Layered t k
  layered k h = not_null _ (w.row k h).technology

  module _ (i j : ℕ) where
    -- Common traffic is between the same roots.
    common : CommonTraffic t i j ↔ Meets t i j
    common = (
      λ c. record { source = (one_device t w _ _).1 c.source; destination = (one_device t w _ _).1 c.destination; overlap = c.packet },
      λ m. record { source = (one_device t w _ _).0 m.source; destination = (one_device t w _ _).0 m.destination; packet = m.overlap },
    )

    -- The earlier of a group, item by item.
    in_group : InGroup t i j ↔ EarlierInGroup t i j
    in_group = (
      λ g. record { group = record { holder = g.1; technology = g.2; gateways = g.3 }; earlier = g.0 },
      λ g. (g.earlier, g.group.holder, g.group.technology, g.group.gateways),
    )

    -- 8 between the same roots.
    correlation_traffic : Correlation t i j
        ↔ (InGroup t i j × CommonTraffic t i j × (Shadowing t i j → ⊥) × (Redundancy t i j → ⊥) × (Exception t i j → ⊥))
    correlation_traffic = (
      λ c. (in_group.1 c.pair, common.1 c.meets, c.no_shadowing, c.no_redundancy, c.no_exception),
      λ h. record { pair = in_group.0 h.0; meets = common.0 h.1; no_shadowing = h.2; no_redundancy = h.3; no_exception = h.4 },
    )

  module _ (i j : ℕ) (hi : IsRow t i) (hj : IsRow t j) where
    -- Where each encloses the other, they are equal in all three.
    encloses_both : Encloses t i j → Encloses t j i → SameTraffic t i j
    encloses_both e f =
        record {
          source = above_antisym (parent_of t) (table_tree t w) (row_at t i).source (row_at t j).source e.source f.source;
          destination =
              above_antisym (parent_of t) (table_tree t w) (row_at t i).destination (row_at t j).destination e.destination f.destination;
          selector =
              contains_antisym (row_at t i).selector (row_at t j).selector (selector_ordered t w i hi) (selector_ordered t w j hj) e.selector
              f.selector;
        }

    -- ---- 5 to 8

    -- Of 5 to 7 no two hold together: 5 and 7 would have rows that enclose each other, 6 is told from both by the coefficients.
    shadowing_exception : Shadowing t i j → Exception t i j → ⊥
    shadowing_exception s e = e.different (encloses_both s.encloses e.enclosed)

    one_of_four : InGroup t i j → CommonTraffic t i j
        → OneOf (Shadowing t i j ∷ Redundancy t i j ∷ Exception t i j ∷ Correlation t i j ∷ [])
    one_of_four g m = elim (decided (shadowing (pair_at t i j)) (shadowing_decides t w i j hi hj)) [
      | inl s ↦ inl (s, (λ r. s.weaker r.stronger, (shadowing_exception s, (λ c. c.no_shadowing s, tt))))
      | inr ns ↦ inr (
        ns,
        elim (decided (redundancy (pair_at t i j)) (redundancy_decides t w i j hi hj)) [
          | inl r ↦ inl (r, (λ e. e.weaker r.stronger, (λ c. c.no_redundancy r, tt)))
          | inr nr ↦ inr (
            nr,
            elim (decided (exception (pair_at t i j)) (exception_decides t w i j hi hj)) [
              | inl e ↦ inl (e, (λ c. c.no_exception e, tt))
              | inr ne ↦ inr (ne, inl ((correlation_traffic i j).1 (g, m, ns, nr, ne), tt))
            ],
          )
        ],
      )
    ]

    -- Of 5 to 7 one row encloses the other, and so they have common traffic.
    within_group : Shadowing t i j ⊎ (Redundancy t i j ⊎ Exception t i j) → CommonTraffic t i j
    within_group (inl s) = encloses_common i j hj s.encloses
    within_group (inr (inl r)) = encloses_common i j hj r.encloses
    within_group (inr (inr e)) = common_back i j (encloses_common j i hi e.enclosed)

    -- ---- 5 to 7 by what the rows match: to enclose is to match all, and coefficients that are not ⪰ protect less

    shadowing_matches : Shadowing t i j ↔ (InGroup t i j × MatchesAll t i j × ProtectsLess t i j)
    shadowing_matches = (
      λ s. ((in_group i j).1 s.pair, (matches_all i j hj).0 s.encloses, (protects_less t w i j hi hj).0 s.weaker),
      λ h. record { pair = (in_group i j).0 h.0; encloses = (matches_all i j hj).1 h.1; weaker = (protects_less t w i j hi hj).1 h.2 },
    )

    redundancy_matches : Redundancy t i j ↔ (InGroup t i j × MatchesAll t i j × (ProtectsLess t i j → ⊥))
    redundancy_matches = (
      λ r. ((in_group i j).1 r.pair, (matches_all i j hj).0 r.encloses, (protects_enough t w i j hi hj).0 r.stronger),
      λ h. record { pair = (in_group i j).0 h.0; encloses = (matches_all i j hj).1 h.1; stronger = (protects_enough t w i j hi hj).1 h.2 },
    )

    -- A probe between the ends of the later row, with its lows or its highs: were both matched by the earlier row, that would enclose it.
    matches_more : Exception t i j → MatchesMore t j i
    matches_more e = elim (tried (lows (row_at t j).selector)) [
      | inr n ↦ found _ (lows_in _ o) n
      | inl l ↦ elim (tried (highs (row_at t j).selector)) [
        | inr n ↦ found _ (highs_in _ o) n
        | inl h ↦ absurd (e.different (encloses_both
            (record { source = l.source; destination = l.destination; selector = ends_contained _ _ o l.packet h.packet }) e.enclosed))
      ]
    ]
      where
        o : Ordered (row_at t j).selector
        o = selector_ordered t w j hj

        Matched : Packet → Type 0
        Matched p = Matches (parent_of t) (row_at t i) (row_at t j).source (row_at t j).destination p

        tried : (p : Packet) → Matched p ⊎ (Matched p → ⊥)
        tried p = decided _ (matches_decides (parent_of t) (row_at t i) (row_at t j).source (row_at t j).destination p)

        found : (p : Packet) → Holds (row_at t j).selector p → (Matched p → ⊥) → MatchesMore t j i
        found p h n =
            record {
              from = (row_at t j).source;
              to = (row_at t j).destination;
              packet = p;
              source = (w.row j hj).source;
              destination = (w.row j hj).destination;
              matched = own j p h;
              not_matched = n;
            }

    -- Rows with equal source, destination and selector match the same.
    not_more : MatchesMore t j i → SameTraffic t i j → ⊥
    not_more m s =
        let h = m.matched in
        m.not_matched (record {
          source = rw s.source h.source;
          destination = rw s.destination h.destination;
          packet = rw s.selector h.packet;
        })

    -- 7 by what the rows match.
    exception_matches : Exception t i j ↔ (InGroup t i j × MatchesAll t j i × MatchesMore t j i × ProtectsLess t i j)
    exception_matches = (
      λ e. ((in_group i j).1 e.pair, (matches_all j i hi).0 e.enclosed, matches_more e, (protects_less t w i j hi hj).0 e.weaker),
      λ h. record {
        pair = (in_group i j).0 h.0;
        enclosed = (matches_all j i hi).1 h.1;
        different = not_more h.2;
        weaker = (protects_less t w i j hi hj).1 h.3;
      },
    )

    -- ---- 9 to 11 and 13

    -- 9 by what the rows match.
    inclusion_matches : Inclusion t i j
        ↔ (((row_at t i).holder ≡ (row_at t j).holder) × ((row_at t i).gateways ≡ (row_at t j).gateways)
        × ((l : ℕ) × (m : ℕ) × HasLayer (row_at t i).technology l × HasLayer (row_at t j).technology m × (l < m))
        × MatchesAll t i j × (ProtectsLess t i j → ⊥))
    inclusion_matches =
        let layers = by_layers _ _ (w.row i hi).technology (w.row j hj).technology in (
          λ a. (
            a.holder,
            a.gateways,
            layers.0 a.dominates,
            (matches_all i j hj).0 a.encloses,
            (protects_enough t w i j hi hj).0 a.stronger,
          ),
          λ h. record {
            holder = h.0;
            gateways = h.1;
            dominates = layers.1 h.2;
            encloses = (matches_all i j hj).1 h.3;
            stronger = (protects_enough t w i j hi hj).1 h.4;
          },
        )

    -- 10, with two layers.
    affinity_traffic : Affinity t i j
        ↔ ((i < j) × ((row_at t i).holder ≡ (row_at t j).holder) × ((row_at t i).technology ≡ (row_at t j).technology → ⊥)
        × Layered t i × Layered t j × CommonTraffic t i j × (Inclusion t i j → ⊥) × (Inclusion t j i → ⊥))
    affinity_traffic = (
      λ a. (
        a.pair.earlier,
        a.pair.holder,
        a.different,
        (layered i hi).0 a.not_null,
        (layered j hj).0 a.other_not_null,
        (common i j).1 a.meets,
        a.no_inclusion,
        a.no_inclusion_back,
      ),
      λ h. record {
        pair = record { holder = h.1; earlier = h.0 };
        different = h.2;
        not_null = (layered i hi).1 h.3;
        other_not_null = (layered j hj).1 h.4;
        meets = (common i j).0 h.5;
        no_inclusion = h.6;
        no_inclusion_back = h.7;
      },
    )

    -- 11, with one.
    contradiction_traffic : Contradiction t i j
        ↔ ((i < j) × ((row_at t i).holder ≡ (row_at t j).holder)
        × ((((row_at t i).technology ≡ 0) × Layered t j) ⊎ (Layered t i × ((row_at t j).technology ≡ 0)))
        × CommonTraffic t i j)
    contradiction_traffic = (
      λ c. (
        c.pair.earlier,
        c.pair.holder,
        ⊎_map (λ n. (n.0, (layered j hj).0 n.1)) (λ n. ((layered i hi).0 n.0, n.1)) c.one_null,
        (common i j).1 c.meets,
      ),
      λ h. record {
        pair = record { holder = h.1; earlier = h.0 };
        one_null = ⊎_map (λ n. (n.0, (layered j hj).1 n.1)) (λ n. ((layered i hi).1 n.0, n.1)) h.2;
        meets = (common i j).0 h.3;
      },
    )

    -- 13, with two.
    skewed_traffic : Skewed t i j
        ↔ ((i ≡ j → ⊥) × SharePacket t i j × Layered t i × Layered t j
        × Memᴰ (source_root t j) (row_at t i).gateways × Memᴰ (destination_root t i) (row_at t j).gateways)
    skewed_traffic = (
      λ s. (s.pair.different, s.pair.overlap, (layered i hi).0 s.not_null, (layered j hj).0 s.other_not_null, s.source, s.destination),
      λ h. record {
        pair = record { different = h.0; overlap = h.1 };
        not_null = (layered i hi).1 h.2;
        other_not_null = (layered j hj).1 h.3;
        source = h.4;
        destination = h.5;
      },
    )

    -- A technology that dominates another is not dominated by it.
    inclusion_back_lem : Inclusion t i j → Inclusion t j i → ⊥
    inclusion_back_lem a b = let l = a.dominates.layer in let m = b.dominates.layer in omega arith

    -- Of two technologies with a NULL there is only 11; else there is 9 one way or the other, or 10.
    one_of_technologies : i < j → (row_at t i).holder ≡ (row_at t j).holder → ((row_at t i).technology ≡ (row_at t j).technology → ⊥) → CommonTraffic t i j
        → OneOf (Inclusion t i j ∷ Inclusion t j i ∷ Affinity t i j ∷ Contradiction t i j ∷ [])
    one_of_technologies l h n m = elim (decided (inclusion (pair_at t i j)) (inclusion_decides t w i j hi hj)) [
      | inl a ↦
          inl (a, (inclusion_back_lem a, (λ f. f.no_inclusion a, (λ c. both_named c.one_null a.dominates.upper a.dominates.lower, tt))))
      | inr na ↦ inr (
        na,
        elim (decided (inclusion (pair_at t j i)) (inclusion_decides t w j i hj hi)) [
          | inl b ↦ inl (b, (λ f. f.no_inclusion_back b, (λ c. both_named c.one_null b.dominates.lower b.dominates.upper, tt)))
          | inr nb ↦ inr (
            nb,
            elim (one_null n) [
              | inl c ↦ inr (
                λ f. both_named c f.not_null f.other_not_null,
                inl (record { pair = record { holder = h; earlier = l }; one_null = c; meets = (common i j).0 m }, tt),
              )
              | inr k ↦ inl (
                affinity_traffic.1 (l, h, n, (layered i hi).0 k.0, (layered j hj).0 k.1, m, na, nb),
                (λ c. both_named c.one_null k.0 k.1, tt),
              )
            ],
          )
        ],
      )
    ]

  -- 5 and 6: the earlier row encloses the later.
  hidden : (i j : ℕ) → IsRow t j → Shadowing t i j ⊎ Redundancy t i j → Dead t j
  hidden i j h (inl s) = encloses_dead i j h s.pair s.encloses
  hidden i j h (inr r) = encloses_dead i j h r.pair r.encloses

  pub two_rows_laws : TwoRowsLaws t
  two_rows_laws =
      record {
        shadowing = shadowing_matches;
        redundancy = redundancy_matches;
        hidden = hidden;
        exception = exception_matches;
        correlation = correlation_traffic;
        one_of_four = one_of_four;
        within_group = within_group;
        inclusion = inclusion_matches;
        affinity = affinity_traffic;
        contradiction = contradiction_traffic;
        one_of_technologies = one_of_technologies;
        skewed = skewed_traffic;
        monitorable = λ i j h p c k q d ei ej. (
          λ m. (m.pair.different, m.pair.overlap, m.through, m.ends, rw ei at m.confidential, rw ej at m.other_confidential),
          λ x. record {
            pair = record { different = x.0; overlap = x.1 };
            through = x.2;
            ends = x.3;
            confidential = rw ei x.4;
            other_confidential = rw ej x.5;
          },
        );
        -- one way root(di) is root(sj), the other way it is not
        one_way = λ i j m n. n.ends (sym m.through);
      }
