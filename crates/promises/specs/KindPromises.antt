-- Demand 2, on the kinds: each of them said a second way, over probes, packets and bytes, for every accepted table; and what a reader of documents 01 and 02
-- expects of them. Numbers of the documents stand here as they print them.
-- Assumes nothing.
use Rattle.std.specs.Prelude.{ℕ, suc, ◌+◌, ◌*◌, ◌^◌, ◌≤◌, ◌<◌, ◌≡◌, ◌↔◌, ◌⊎◌, length, get_or}
use mathlib.Core.List.{List, [], ◌∷◌, ◌++◌, Memᴰ}
use Rattle.policy.specs.Model.{Coefficients, Packet, Table, entity_at, filter_at, row_at, parent_of}
use Rattle.policy.specs.Wellformed.{IsEntity}
use Rattle.relations.specs.Relations.{OneOf}
use Rattle.relations.specs.Entities.{AtOrAbove}
use Rattle.relations.specs.Technologies.{HasLayer}
use Rattle.relations.specs.Selectors.{Holds, exchange}
use Rattle.relations.specs.Groups.{Matches, Dead}
use Rattle.frames.specs.Kinds.{of_cap}
use Rattle.reader.specs.Frames.{a_frame}
use Rattle.reader.specs.Rules.{frames_of}
use Rattle.kinds.specs.Meanings.{Twice, source_root, destination_root, InternalLoop, OutOfPlace, ExceedsCap, NonEnforceable, Inadequate}
use Rattle.kinds.specs.Meanings.{Rides, Superfluous, Filtered, LayerTwo, Answers, Asymmetric, Cyclic, AlternativePath, Shadowing, Redundancy, Exception}
use Rattle.kinds.specs.Meanings.{Correlation, Inclusion, Affinity, Contradiction, Skewed, Monitorable, FilterShadowing, FilterRedundancy}

-- "bit t (value 2 to the power t) for technology t": the value is among those that the mask adds up.
pub record HasBit (mask u : ℕ) : Type 0 where
  pub lower : ℕ
  pub higher : ℕ
  pub small : lower < 2 ^ u
  pub sum : mask ≡ lower + 2 ^ u * (1 + 2 * higher)

-- Some number of the first list is smaller than that of the second at the same place.
abbrev pub SomeSmaller : Coefficients → Coefficients → Type 0
SomeSmaller c d = (k : ℕ) × (get_or c k 0 < get_or d k 0)

-- Filter m is the first of this root whose box has the packet.
pub record Decider (t : Table) (root m : ℕ) (p : Packet) : Type 0 where
  pub there : m < length t.filters
  pub root_of : (filter_at t m).root ≡ root
  pub has : Holds (filter_at t m).selector p
  pub first : (k : ℕ) → k < m → (filter_at t k).root ≡ root → Holds (filter_at t k).selector p → ⊥

-- Each probe that row j matches, row i matches.
abbrev pub MatchesAll : Table → (i j : ℕ) → Type 0
MatchesAll t i j = (a b : ℕ) (p : Packet) → Matches (parent_of t) (row_at t j) a b p → Matches (parent_of t) (row_at t i) a b p

-- Row j matches a probe that row i does not.
pub record MatchesMore (t : Table) (j i : ℕ) : Type 0 where
  pub from : ℕ
  pub to : ℕ
  pub packet : Packet
  pub source : IsEntity t from
  pub destination : IsEntity t to
  pub matched : Matches (parent_of t) (row_at t j) from to packet
  pub not_matched : Matches (parent_of t) (row_at t i) from to packet → ⊥

-- Row i protects row j's traffic less, in some coefficient.
abbrev pub ProtectsLess : Table → (i j : ℕ) → Type 0
ProtectsLess t i j = SomeSmaller (row_at t i).coefficients (row_at t j).coefficients

-- Row i is earlier than row j, with equal holder, technology and gateways.
abbrev pub InGroup : Table → (i j : ℕ) → Type 0
InGroup t i j =
    (i < j) × ((row_at t i).holder ≡ (row_at t j).holder) × ((row_at t i).technology ≡ (row_at t j).technology) × ((row_at t i).gateways ≡ (row_at t j).gateways)

-- A packet is in the boxes of both rows.
abbrev pub SharePacket : Table → (i j : ℕ) → Type 0
SharePacket t i j = (p : Packet) × Holds (row_at t i).selector p × Holds (row_at t j).selector p

-- The rows have common traffic: their sources are of one device, some entity being ⪰ both, so are their destinations, and they share a packet.
pub record CommonTraffic (t : Table) (i j : ℕ) : Type 0 where
  pub source : (e : ℕ) × AtOrAbove (parent_of t) e (row_at t i).source × AtOrAbove (parent_of t) e (row_at t j).source
  pub destination : (e : ℕ) × AtOrAbove (parent_of t) e (row_at t i).destination × AtOrAbove (parent_of t) e (row_at t j).destination
  pub packet : SharePacket t i j

-- The row's technology has a layer: it is not NULL.
abbrev pub Layered : Table → ℕ → Type 0
Layered t i = (l : ℕ) × HasLayer (row_at t i).technology l

-- The device has the row's technology among the values of its mask.
abbrev pub Supports : Table → (device i : ℕ) → Type 0
Supports t device i = HasBit (entity_at t device).mask (row_at t i).technology

-- Other rows lead from root(si) by these devices to root(di), from one to the next, no device twice, with a packet of Si in all their boxes.
pub record ByDevices (t : Table) (i : ℕ) (via : List ℕ) : Type 0 where
  pub devices : List ℕ
  pub all : devices ≡ source_root t i ∷ (via ++ (destination_root t i ∷ []))
  pub rows : List ℕ
  pub count : length rows ≡ suc (length via)
  pub each : (k : ℕ) → k < length rows
      → (get_or rows k 0 < length t.rows)
      × (get_or rows k 0 ≡ i → ⊥)
      × (source_root t (get_or rows k 0) ≡ get_or devices k 0)
      × (destination_root t (get_or rows k 0) ≡ get_or devices (suc k) 0)
  pub different : (k m : ℕ) → k < m → m < length devices → get_or devices k 0 ≡ get_or devices m 0 → ⊥
  pub packet : (p : Packet) × Holds (row_at t i).selector p × ((k : ℕ) → k < length rows → Holds (row_at t (get_or rows k 0)).selector p)

-- ---- of one row

pub record OneRowLaws (t : Table) : Type 0 where
  -- 1: the ends are of one device: some entity is ⪰ both
  pub internal_loop : (i : ℕ)
      → InternalLoop t i ↔ ((e : ℕ) × AtOrAbove (parent_of t) e (row_at t i).source × AtOrAbove (parent_of t) e (row_at t i).destination)
  -- 2: the holder is not ⪰ the source
  pub out_of_place : (i : ℕ) → i < length t.rows → OutOfPlace t i ↔ (AtOrAbove (parent_of t) (row_at t i).holder (row_at t i).source → ⊥)
  -- 3: the technology has a layer, and one of the two devices lacks it, or a coefficient exceeds the cap, which is that of the frame with the row's technology
  pub non_enforceable : (i : ℕ) → i < length t.rows
      → NonEnforceable t i
      ↔ (Layered t i × ((Supports t (source_root t i) i → ⊥) ⊎ ((Supports t (destination_root t i) i → ⊥) ⊎ ExceedsCap t i)))
  pub cap : (i : ℕ) (c : Coefficients) → i < length t.rows
      → Memᴰ (a_frame of_cap (record { technology = (row_at t i).technology; coefficients = c })) (frames_of t)
      → ExceedsCap t i ↔ SomeSmaller c (row_at t i).coefficients
  -- 4: some coefficient is smaller than the floor's
  pub inadequate : (i : ℕ) → i < length t.rows → Inadequate t i ↔ SomeSmaller (row_at t i).coefficients t.floor
  -- 12: some row rides in it, and none that does protects less; in the gateways of a row that rides stand some, then root(si), some, then root(di), some
  pub superfluous : (i : ℕ) → i < length t.rows → Superfluous t i ↔ (((j : ℕ) × Rides t j i) × ((j : ℕ) → Rides t j i → ProtectsLess t j i → ⊥))
  pub rides : (i j : ℕ)
      → Rides t j i
      ↔ ((j < length t.rows) × (j ≡ i → ⊥)
      × ((xs : List ℕ) × (ys : List ℕ) × (zs : List ℕ) × ((row_at t j).gateways ≡ xs ++ (source_root t i ∷ (ys ++ (destination_root t i ∷ zs)))))
      × ((p : Packet) → Holds (row_at t j).selector p → Holds (row_at t i).selector p))
  -- 14: a dropping filter of a gateway has all packets of the row, and no earlier passing filter of that gateway has one
  pub filtered : (i : ℕ)
      → Filtered t i
      ↔ ((m : ℕ) × (m < length t.filters) × ((filter_at t m).action ≡ 0) × Memᴰ (filter_at t m).root (row_at t i).gateways
      × ((p : Packet) → Holds (row_at t i).selector p → Holds (filter_at t m).selector p)
      × ((k : ℕ) (p : Packet) → k < m → (filter_at t k).action ≡ 1 → (filter_at t k).root ≡ (filter_at t m).root
      → Holds (filter_at t k).selector p → Holds (row_at t i).selector p → ⊥))
  -- so at that gateway the first filter that has a packet of the row drops it, whichever packet of it that is
  pub dropped : (i : ℕ) → Filtered t i
      → (g : ℕ) × Memᴰ g (row_at t i).gateways
      × ((p : Packet) → Holds (row_at t i).selector p → (m : ℕ) × Decider t g m p × ((filter_at t m).action ≡ 0))
  -- 15: WPA2 and MACsec, with gateways
  pub layer_two : (i : ℕ) → LayerTwo t i ↔ ((((row_at t i).technology ≡ 1) ⊎ ((row_at t i).technology ≡ 2)) × ((row_at t i).gateways ≡ [] → ⊥))
  -- 16: no row leads back, with the same coefficients, and has just the row's packets with source and destination exchanged
  pub asymmetric : (i : ℕ) → i < length t.rows
      → Asymmetric t i
      ↔ ((j : ℕ) → j < length t.rows → (row_at t j).source ≡ (row_at t i).destination → (row_at t j).destination ≡ (row_at t i).source
      → (row_at t j).coefficients ≡ (row_at t i).coefficients → ((p : Packet) → Holds (row_at t i).selector p ↔ Holds (row_at t j).selector (exchange p)) → ⊥)
  pub answered : (i j : ℕ) → i < length t.rows → j < length t.rows → Answers t j i ↔ Answers t i j
  -- 17: the ends are of one device, one of them is among the gateways, or a gateway stands there twice
  pub cyclic : (i : ℕ) → Cyclic t i
      ↔ (InternalLoop t i
      ⊎ (Memᴰ (source_root t i) (row_at t i).gateways
      ⊎ (Memᴰ (destination_root t i) (row_at t i).gateways ⊎ Twice (row_at t i).gateways)))
  -- 19: by one to three devices between
  pub path : (i : ℕ) → AlternativePath t i ↔ ((via : List ℕ) × (1 ≤ length via) × (length via ≤ 3) × ByDevices t i via)

-- ---- of two rows

pub record TwoRowsLaws (t : Table) : Type 0 where
  -- 5, 6: the earlier row of the group matches all that the later does, and protects it less, or not less; the later row is dead
  pub shadowing : (i j : ℕ) → i < length t.rows → j < length t.rows → Shadowing t i j ↔ (InGroup t i j × MatchesAll t i j × ProtectsLess t i j)
  pub redundancy : (i j : ℕ) → i < length t.rows → j < length t.rows → Redundancy t i j ↔ (InGroup t i j × MatchesAll t i j × (ProtectsLess t i j → ⊥))
  pub hidden : (i j : ℕ) → j < length t.rows → Shadowing t i j ⊎ Redundancy t i j → Dead t j
  -- 7: the later row matches all that the earlier does, and more, and the earlier protects less
  pub exception : (i j : ℕ) → i < length t.rows → j < length t.rows
      → Exception t i j ↔ (InGroup t i j × MatchesAll t j i × MatchesMore t j i × ProtectsLess t i j)
  -- 8: common traffic, and none of 5 to 7; so of two rows of a group with common traffic exactly one of 5 to 8 holds, and none of others
  pub correlation : (i j : ℕ)
      → Correlation t i j
      ↔ (InGroup t i j × CommonTraffic t i j × (Shadowing t i j → ⊥) × (Redundancy t i j → ⊥) × (Exception t i j → ⊥))
  pub one_of_four : (i j : ℕ) → i < length t.rows → j < length t.rows → InGroup t i j → CommonTraffic t i j
      → OneOf (Shadowing t i j ∷ Redundancy t i j ∷ Exception t i j ∷ Correlation t i j ∷ [])
  pub within_group : (i j : ℕ) → i < length t.rows → j < length t.rows → Shadowing t i j ⊎ (Redundancy t i j ⊎ Exception t i j) → CommonTraffic t i j
  -- 9: of the smaller layer, it matches all that the other does, and protects it not less; holder and gateways are the same
  pub inclusion : (i j : ℕ) → i < length t.rows → j < length t.rows
      → Inclusion t i j
      ↔ (((row_at t i).holder ≡ (row_at t j).holder) × ((row_at t i).gateways ≡ (row_at t j).gateways)
      × ((l : ℕ) × (m : ℕ) × HasLayer (row_at t i).technology l × HasLayer (row_at t j).technology m × (l < m))
      × MatchesAll t i j × (ProtectsLess t i j → ⊥))
  -- 10: both technologies have a layer, 11: just one has; so of two rows of a holder with different technologies and common traffic exactly one of 9, 9 the
  -- other way round, 10 and 11 holds
  pub affinity : (i j : ℕ) → i < length t.rows → j < length t.rows
      → Affinity t i j
      ↔ ((i < j) × ((row_at t i).holder ≡ (row_at t j).holder) × ((row_at t i).technology ≡ (row_at t j).technology → ⊥)
      × Layered t i × Layered t j × CommonTraffic t i j × (Inclusion t i j → ⊥) × (Inclusion t j i → ⊥))
  pub contradiction : (i j : ℕ) → i < length t.rows → j < length t.rows
      → Contradiction t i j
      ↔ ((i < j) × ((row_at t i).holder ≡ (row_at t j).holder)
      × ((((row_at t i).technology ≡ 0) × Layered t j) ⊎ (Layered t i × ((row_at t j).technology ≡ 0)))
      × CommonTraffic t i j)
  pub one_of_technologies : (i j : ℕ) → i < length t.rows → j < length t.rows → i < j → (row_at t i).holder ≡ (row_at t j).holder
      → ((row_at t i).technology ≡ (row_at t j).technology → ⊥) → CommonTraffic t i j
      → OneOf (Inclusion t i j ∷ Inclusion t j i ∷ Affinity t i j ∷ Contradiction t i j ∷ [])
  -- 13: two different rows that share a packet, whose technologies have a layer
  pub skewed : (i j : ℕ) → i < length t.rows → j < length t.rows
      → Skewed t i j
      ↔ ((i ≡ j → ⊥) × SharePacket t i j × Layered t i × Layered t j
      × Memᴰ (source_root t j) (row_at t i).gateways × Memᴰ (destination_root t i) (row_at t j).gateways)
  -- 18: of "header integrity, payload integrity, confidentiality" the third; never both ways
  pub monitorable : (i j h p c k q d : ℕ) → (row_at t i).coefficients ≡ h ∷ p ∷ c ∷ [] → (row_at t j).coefficients ≡ k ∷ q ∷ d ∷ []
      → Monitorable t i j
      ↔ ((i ≡ j → ⊥) × SharePacket t i j
      × (destination_root t i ≡ source_root t j) × (source_root t i ≡ destination_root t j → ⊥) × (0 < c) × (0 < d))
  pub one_way : (i j : ℕ) → Monitorable t i j → Monitorable t j i → ⊥

-- ---- of two filters

pub record FilterLaws (t : Table) : Type 0 where
  -- 21: of one root, with different actions, the later has only packets that the earlier has; so it decides none
  pub shadowing : (k m : ℕ)
      → FilterShadowing t k m
      ↔ ((k < m) × ((filter_at t k).root ≡ (filter_at t m).root) × ((filter_at t k).action ≡ (filter_at t m).action → ⊥)
      × ((p : Packet) → Holds (filter_at t m).selector p → Holds (filter_at t k).selector p))
  pub shadowed : (k m : ℕ) (p : Packet) → FilterShadowing t k m → Decider t (filter_at t m).root m p → ⊥
  -- 22: of different roots, both drop, and the first has all packets of the second
  pub redundancy : (k m : ℕ)
      → FilterRedundancy t k m
      ↔ (((filter_at t k).action ≡ 0) × ((filter_at t m).action ≡ 0) × ((filter_at t k).root ≡ (filter_at t m).root → ⊥)
      × ((p : Packet) → Holds (filter_at t m).selector p → Holds (filter_at t k).selector p))

pub record KindLaws (t : Table) : Type 0 where
  pub one_row : OneRowLaws t
  pub two_rows : TwoRowsLaws t
  pub filters : FilterLaws t
