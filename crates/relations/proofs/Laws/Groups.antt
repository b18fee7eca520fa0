-- Laws of groups, probes and winners. The test of a group is those of holder, technology and gateways. The tests are true exactly when
-- their meanings hold. A group is the same whichever row names it. The winner is the first matching row; a row that wins wins the probe
-- between its own ends; a row is dead exactly when earlier rows hide each of its packets.
-- Assumes nothing.
use mathlib.Core.Path.{◌≡◌, refl, sym, ap, ◌∙◌}
use mathlib.Core.Logic.{◌↔◌, ◌⊎◌, inl, inr}
use mathlib.Core.Bool.{Bool, ◌&&◌}
use mathlib.Core.List.{List, [], ◌∷◌}
use Prim.Native.Nat.{ℕ, zero, suc, ◌+◌, ◌<◌}
use native.Mathlib.Omega.{arith}
use native.Mathlib.Nat.{add-zero}
use lib.Dec.{eqb}
use lib.ListN.{length, get_or}
use Rattle.std.specs.Prelude.{Option, Some, None}
use Rattle.policy.specs.Model.{Packet, Row, Table, no_row, row_at, parent_of}
use Rattle.policy.specs.Wellformed.{IsEntity}
use Rattle.base.specs.Truths.{Decides}
use Rattle.base.specs.Lists.{same}
use Rattle.relations.specs.Entities.{Tree, at_or_above}
use Rattle.relations.specs.Selectors.{Holds, holds}
use Rattle.relations.specs.Groups.{SameGroup, same_group, Matches, matches, Wins, Dead, Hides, winner_from, winner_in, winner}
use Rattle.base.proofs.Laws.Decides.{decides_as, decides_eqb, decides_and, decides_holds, decides_fails}
use Rattle.base.proofs.Laws.Members.{same_decides}
use Rattle.base.proofs.Laws.Firsts.{NoneBelow, FirstBelow, first_or_none}
use Rattle.relations.proofs.Laws.Entities.{above_self, above_trans, at_or_above_decides}
use Rattle.relations.proofs.Laws.Selectors.{holds_decides}

-- ---- groups

pub same_group_tests : (r q : Row)
    → same_group r q ≡ (eqb r.holder q.holder && (eqb r.technology q.technology && same r.gateways q.gateways))
unfolding same_group
same_group_tests r q = refl

pub same_group_decides : (r q : Row) → Decides (same_group r q) (SameGroup r q)
unfolding same_group
same_group_decides r q =
    decides_as (λ h. record { holder = h.0; technology = h.1.0; gateways = h.1.1 })
    (λ g. (g.holder, (g.technology, g.gateways)))
    (decides_and (eqb r.holder q.holder) (eqb r.technology q.technology && same r.gateways q.gateways)
    (decides_eqb r.holder q.holder)
    (decides_and (eqb r.technology q.technology) (same r.gateways q.gateways) (decides_eqb r.technology q.technology)
    (same_decides r.gateways q.gateways)))

pub group_self : (r : Row) → SameGroup r r
group_self r = record { holder = refl; technology = refl; gateways = refl }

pub group_sym : {r q : Row} → SameGroup r q → SameGroup q r
group_sym g = record { holder = sym g.holder; technology = sym g.technology; gateways = sym g.gateways }

pub group_trans : {r q s : Row} → SameGroup r q → SameGroup q s → SameGroup r s
group_trans g h =
    record {
      holder = g.holder ∙ h.holder;
      technology = g.technology ∙ h.technology;
      gateways = g.gateways ∙ h.gateways;
    }

-- ---- probes

pub matches_decides : (up : ℕ → ℕ) (r : Row) (a b : ℕ) (p : Packet) → Decides (matches up r a b p) (Matches up r a b p)
unfolding matches
matches_decides up r a b p =
    decides_as (λ h. record { source = h.0; destination = h.1.0; packet = h.1.1 })
    (λ m. (m.source, (m.destination, m.packet)))
    (decides_and (at_or_above up r.source a) (at_or_above up r.destination b && holds r.selector p)
    (at_or_above_decides up r.source a)
    (decides_and (at_or_above up r.destination b) (holds r.selector p) (at_or_above_decides up r.destination b)
    (holds_decides r.selector p)))

-- ---- the search for the winner

-- Two tests that were made of rows are those of the rows that they are.
pub candidate_tested : (up : ℕ → ℕ) (a b : ℕ) (p : Packet) {r q g h : Row} {x y : Bool} → q ≡ r → h ≡ g → x ≡ same_group r g
    → y ≡ matches up r a b p → (same_group q h && matches up q a b p) ≡ (x && y)
candidate_tested up a b p e f k m = rw (e, f, k, m)

module _ (up : ℕ → ℕ) (g : Row) (a b : ℕ) (p : Packet) where
  -- The row is of g's group and matches the probe.
  abbrev pub candidate : Row → Bool
  candidate r = same_group r g && matches up r a b p

  pub candidate_decides : (r : Row) → Decides (candidate r) (SameGroup r g × Matches up r a b p)
  candidate_decides r = decides_and (same_group r g) (matches up r a b p) (same_group_decides r g) (matches_decides up r a b p)

  -- Whether the row at i is one.
  abbrev pub candidate_at : List Row → ℕ → Bool
  candidate_at rows i = candidate (get_or rows i no_row)

  first_from : (k : ℕ) (rows : List Row) (i : ℕ) → FirstBelow (candidate_at rows) (length rows) i → winner_from up g a b p k rows ≡ Some (k + i)
  unfolding winner_from
  first_from k [] i h = absurd (omega (arith, h.inside))
  first_from k (r ∷ rows) zero h = rw (h.passes, winner_from, add-zero)
  first_from k (r ∷ rows) (suc i) h =
      rw (h.first 0 (omega arith), winner_from)
      (first_from (suc k) rows i (record { inside = omega (arith, h.inside); passes = h.passes; first = λ j l. h.first (suc j) (omega arith) })
      ∙ ap Some (omega arith))

  none_from : (k : ℕ) (rows : List Row) → NoneBelow (candidate_at rows) (length rows) → winner_from up g a b p k rows ≡ None
  unfolding winner_from
  none_from k [] h = refl
  none_from k (r ∷ rows) h =
      rw (h 0 (omega arith), winner_from) (none_from (suc k) rows (λ j l. h (suc j) (omega arith)))

  module _ (rows : List Row) where
    pub winner_first : (i : ℕ) → FirstBelow (candidate_at rows) (length rows) i → winner_from up g a b p 0 rows ≡ Some i
    winner_first i h = first_from 0 rows i h ∙ ap Some (omega arith)

    pub winner_absent : NoneBelow (candidate_at rows) (length rows) → winner_from up g a b p 0 rows ≡ None
    winner_absent h = none_from 0 rows h

    -- What the answer says.
    pub first_won : (i : ℕ) → winner_from up g a b p 0 rows ≡ Some i → FirstBelow (candidate_at rows) (length rows) i
    first_won i e =
        elim (first_or_none (candidate_at rows) (length rows)) [
          | inl h ↦ let w = winner_first h.0 h.1 in let q : h.0 ≡ i = cc in rw (← q) h.1
          | inr h ↦ let w = winner_absent h in let z : ◌≡◌ {A = ℕ} 0 1 = cc in absurd (omega arith)
        ]

    pub none_won : winner_from up g a b p 0 rows ≡ None → NoneBelow (candidate_at rows) (length rows)
    none_won e =
        elim (first_or_none (candidate_at rows) (length rows)) [
          | inl h ↦ let w = winner_first h.0 h.1 in let z : ◌≡◌ {A = ℕ} 0 1 = cc in absurd (omega arith)
          | inr h ↦ h
        ]

-- ---- who wins, in a group that is named by any row, of this table or not

module _ (t : Table) (g : Row) (a b : ℕ) (p : Packet) where
  claims : (i : ℕ) → Decides (candidate_at (parent_of t) g a b p t.rows i) (SameGroup (row_at t i) g × Matches (parent_of t) (row_at t i) a b p)
  claims i = candidate_decides (parent_of t) g a b p (row_at t i)

  pub group_wins : (i : ℕ) → winner_from (parent_of t) g a b p 0 t.rows ≡ Some i → SameGroup (row_at t i) g × Wins t i a b p
  group_wins i e =
      let r = first_won (parent_of t) g a b p t.rows i e in
      let c = (claims i).yes r.passes in (
        c.0,
        record {
          row = r.inside;
          matches = c.1;
          first = λ j l s m. (claims j).no (r.first j l) (group_trans s c.0, m);
        },
      )

  pub wins_group : (i : ℕ) → SameGroup (row_at t i) g × Wins t i a b p → winner_from (parent_of t) g a b p 0 t.rows ≡ Some i
  wins_group i h =
      let w = h.1 in
      winner_first (parent_of t) g a b p t.rows i (record {
        inside = w.row;
        passes = decides_holds (candidate_at (parent_of t) g a b p t.rows i) (claims i) (h.0, w.matches);
        first = λ j l.
            decides_fails (candidate_at (parent_of t) g a b p t.rows j) (claims j)
            (λ c. w.first j l (group_trans c.0 (group_sym h.0)) c.1);
      })

  -- No row of the group matches.
  abbrev Unmatched : Type 0
  Unmatched = (i : ℕ) → i < length t.rows → SameGroup (row_at t i) g → Matches (parent_of t) (row_at t i) a b p → ⊥

  pub group_nobody : winner_from (parent_of t) g a b p 0 t.rows ≡ None → Unmatched
  group_nobody e i l s m = (claims i).no (none_won (parent_of t) g a b p t.rows e i l) (s, m)

  nobody_group : Unmatched → winner_from (parent_of t) g a b p 0 t.rows ≡ None
  nobody_group h =
      winner_absent (parent_of t) g a b p t.rows
      (λ j l. decides_fails (candidate_at (parent_of t) g a b p t.rows j) (claims j) (λ c. h j l c.0 c.1))

-- In the group that row g names.
module _ (t : Table) (g a b : ℕ) (p : Packet) where
  -- Row g names the group by the row that it is.
  pub winner_group : winner t g a b p ≡ winner_from (parent_of t) (row_at t g) a b p 0 t.rows
  unfolding winner_in
  winner_group = refl

  -- Row i is the winner exactly when it is of the group and wins.
  pub winner_wins : (i : ℕ) → (winner t g a b p ≡ Some i) ↔ (SameGroup (row_at t i) (row_at t g) × Wins t i a b p)
  unfolding winner_in
  winner_wins i = (group_wins t (row_at t g) a b p i, wins_group t (row_at t g) a b p i)

  -- Nobody wins exactly when no row of the group matches.
  pub winner_nobody : (winner t g a b p ≡ None)
      ↔ ((i : ℕ) → i < length t.rows → SameGroup (row_at t i) (row_at t g) → Matches (parent_of t) (row_at t i) a b p → ⊥)
  unfolding winner_in
  winner_nobody = (group_nobody t (row_at t g) a b p, nobody_group t (row_at t g) a b p)

-- Whichever row of the group names it, the winner is the same.
pub winner_named : (t : Table) (g h a b : ℕ) (p : Packet) → SameGroup (row_at t g) (row_at t h) → winner t g a b p ≡ winner t h a b p
winner_named t g h a b p s = go (winner t g a b p) refl
  where
    go : (o : Option ℕ) → winner t g a b p ≡ o → winner t g a b p ≡ winner t h a b p
    go (Some i) e =
        let w = (winner_wins t g a b p i).0 e in
        e ∙ sym ((winner_wins t h a b p i).1 (group_trans w.0 s, w.1))
    go None e =
        e
        ∙ sym
        ((winner_nobody t h a b p).1
        (λ i l c m. (winner_nobody t g a b p).0 e i l (group_trans c (group_sym s)) m))

-- ---- a row's own probe, and dead rows

module _ (t : Table) (tree : Tree (parent_of t)) (i : ℕ) where
  -- A row that wins some probe wins the probe from its own source to its own destination with the same packet.
  pub wins_own : (a b : ℕ) (p : Packet) → Wins t i a b p → Wins t i (row_at t i).source (row_at t i).destination p
  wins_own a b p w =
      record {
        row = w.row;
        matches = record {
          source = above_self (parent_of t) (row_at t i).source;
          destination = above_self (parent_of t) (row_at t i).destination;
          packet = w.matches.packet;
        };
        first = λ j l s m. w.first j l s (record {
          source = above_trans (parent_of t) tree (row_at t j).source (row_at t i).source a m.source w.matches.source;
          destination = above_trans (parent_of t) tree (row_at t j).destination (row_at t i).destination b m.destination w.matches.destination;
          packet = m.packet;
        });
      }

  -- Row j hides the packet exactly when it is an earlier row of the group that matches i's own probe.
  pub hides_own : (j : ℕ) (p : Packet) → j < i
      → Decides (candidate (parent_of t) (row_at t i) (row_at t i).source (row_at t i).destination p (row_at t j)) (Hides t j i p)
  hides_own j p l =
      decides_as
      (λ h. record { earlier = l; group = h.0; source = h.1.source; destination = h.1.destination; packet = h.1.packet })
      (λ h. (h.group, record { source = h.source; destination = h.destination; packet = h.packet }))
      (candidate_decides (parent_of t) (row_at t i) (row_at t i).source (row_at t i).destination p (row_at t j))

  -- A packet of the row is hidden, or the row wins its own probe with it.
  pub hidden_or_wins : i < length t.rows → (p : Packet) → Holds (row_at t i).selector p
      → ((j : ℕ) × Hides t j i p) ⊎ Wins t i (row_at t i).source (row_at t i).destination p
  hidden_or_wins r p h =
      elim (first_or_none (candidate_at (parent_of t) (row_at t i) (row_at t i).source (row_at t i).destination p t.rows) i) [
        | inl s ↦ inl (s.0, (hides_own s.0 p s.1.inside).yes s.1.passes)
        | inr n ↦ inr (record {
          row = r;
          matches = record {
            source = above_self (parent_of t) (row_at t i).source;
            destination = above_self (parent_of t) (row_at t i).destination;
            packet = h;
          };
          first = λ j l s m. (hides_own j p l).no (n j l) (record {
            earlier = l;
            group = s;
            source = m.source;
            destination = m.destination;
            packet = m.packet;
          });
        })
      ]

  -- A row is dead exactly when every packet of its selector lies in an earlier row of its group that is ⪰ it in source and
  -- destination.
  pub dead_hidden : i < length t.rows → IsEntity t (row_at t i).source → IsEntity t (row_at t i).destination
      → Dead t i ↔ ((p : Packet) → Holds (row_at t i).selector p → (j : ℕ) × Hides t j i p)
  dead_hidden r x y = (to, from)
    where
      to : Dead t i → (p : Packet) → Holds (row_at t i).selector p → (j : ℕ) × Hides t j i p
      to d p h =
          elim (hidden_or_wins r p h) [
            | inl s ↦ s
            | inr w ↦ absurd (d (row_at t i).source (row_at t i).destination p x y w)
          ]

      from : ((p : Packet) → Holds (row_at t i).selector p → (j : ℕ) × Hides t j i p) → Dead t i
      from h a b p e f w =
          let o = wins_own a b p w in
          let s = h p w.matches.packet in
          let k = s.1 in
          o.first s.0 k.earlier k.group (record { source = k.source; destination = k.destination; packet = k.packet })
