-- Document 01, "The twenty kinds", and document 02, [4] on kind 12, [7] on kinds 14, 21 and 22: what each kind says of row i, of rows i and j, or of
-- filters k and m.
-- Assumes nothing.
use Rattle.std.specs.Prelude.{ℕ, ◌-◌, ◌/◌, ◌<◌, ◌≤◌, ◌%◌, ◌^◌, ◌≡◌, ◌⊎◌, length, get_or}
use mathlib.Core.List.{List, [], ◌∷◌, ◌++◌, map, Memᴰ}
use Rattle.policy.specs.Model.{Table, dropping, passing, entity_at, filter_at, row_at, parent_of}
use Rattle.relations.specs.Entities.{AtOrAbove, root_of}
use Rattle.relations.specs.Technologies.{HasLayer, Dominates}
use Rattle.relations.specs.Coefficients.{AtLeast}
use Rattle.relations.specs.Selectors.{Contains, Overlap, MeetAll, exchange}
use Rattle.relations.specs.Groups.{SameGroup}

-- a stands at some place of the list and b at a later one.
pub record InOrder (a b : ℕ) (xs : List ℕ) : Type 0 where
  pub place : ℕ
  pub later : ℕ
  pub order : place < later
  pub last : later < length xs
  pub first : get_or xs place 0 ≡ a
  pub second : get_or xs later 0 ≡ b

-- Some number stands at two places of the list.
abbrev pub Twice : List ℕ → Type 0
Twice xs = (x : ℕ) × InOrder x x xs

module _ (t : Table) where
  abbrev pub IsRow : ℕ → Type 0
  IsRow i = i < length t.rows

  abbrev pub IsFilter : ℕ → Type 0
  IsFilter k = k < length t.filters

  -- root(s) and root(d) of a row.
  abbrev pub source_root : ℕ → ℕ
  source_root i = root_of (parent_of t) (row_at t i).source

  abbrev pub destination_root : ℕ → ℕ
  destination_root i = root_of (parent_of t) (row_at t i).destination

  -- ---- of one row

  -- "1 internal loop: root(s) = root(d)."
  abbrev pub InternalLoop : ℕ → Type 0
  InternalLoop i = source_root i ≡ destination_root i

  -- "2 out of place: holder is not root(s)."
  abbrev pub OutOfPlace : ℕ → Type 0
  OutOfPlace i = (row_at t i).holder ≡ source_root i → ⊥

  -- Bit u of the root's mask is 0.
  abbrev pub Lacks : ℕ → ℕ → Type 0
  Lacks root u = ((entity_at t root).mask / (2 ^ u)) % 2 ≡ 0

  -- "a coefficient exceeds t's cap"
  abbrev pub ExceedsCap : ℕ → Type 0
  ExceedsCap i = AtLeast (get_or t.caps ((row_at t i).technology - 1) []) (row_at t i).coefficients → ⊥

  -- "3 non-enforceable: t isn't NULL, and root(s) or root(d) lacks t in its mask or a coefficient exceeds t's cap."
  pub record NonEnforceable (i : ℕ) : Type 0 where
    pub not_null : (row_at t i).technology ≡ 0 → ⊥
    pub why : Lacks (source_root i) (row_at t i).technology ⊎ (Lacks (destination_root i) (row_at t i).technology ⊎ ExceedsCap i)

  -- "4 inadequate: C ⪰ floor fails."
  abbrev pub Inadequate : ℕ → Type 0
  Inadequate i = AtLeast (row_at t i).coefficients t.floor → ⊥

  -- "j rides in i: j is another row, root(si) stands at some place of Gj and root(di) at a later one, and Si ⪰ Sj."
  pub record Rides (j i : ℕ) : Type 0 where
    pub row : IsRow j
    pub other : j ≡ i → ⊥
    pub gateways : InOrder (source_root i) (destination_root i) (row_at t j).gateways
    pub selector : Contains (row_at t i).selector (row_at t j).selector

  -- "12 superfluous: some row rides in i", which document 02, [4], keeps, "and every riding row j needs only Cj ⪰ Ci."
  pub record Superfluous (i : ℕ) : Type 0 where
    pub rider : ℕ
    pub rides : Rides rider i
    pub at_least : (j : ℕ) → Rides j i → AtLeast (row_at t j).coefficients (row_at t i).coefficients

  -- Filter k excepts packets of row i from filter m: an "earlier passing filter of that root overlapping S".
  pub record Excepts (k m i : ℕ) : Type 0 where
    pub earlier : k < m
    pub passes : (filter_at t k).action ≡ passing
    pub root : (filter_at t k).root ≡ (filter_at t m).root
    pub overlap : Overlap (filter_at t k).selector (row_at t i).selector

  -- "14 filtered: one filter of a root in G has a box that contains S." By document 02, [7], it "needs a dropping filter that contains S with no
  -- earlier passing filter of that root overlapping S."
  pub record Filtered (i : ℕ) : Type 0 where
    pub filter : ℕ
    pub there : IsFilter filter
    pub drops : (filter_at t filter).action ≡ dropping
    pub gateway : Memᴰ (filter_at t filter).root (row_at t i).gateways
    pub contains : Contains (filter_at t filter).selector (row_at t i).selector
    pub not_excepted : (k : ℕ) → Excepts k filter i → ⊥

  -- "15 layer two: t has layer 2 and G isn't empty."
  pub record LayerTwo (i : ℕ) : Type 0 where
    pub layer : HasLayer (row_at t i).technology 2
    pub gateways : (row_at t i).gateways ≡ [] → ⊥

  -- Row j answers row i: "sj = di, dj = si, Cj = Ci, and Sj equal to Si with source and destination fields exchanged".
  pub record Answers (j i : ℕ) : Type 0 where
    pub row : IsRow j
    pub source : (row_at t j).source ≡ (row_at t i).destination
    pub destination : (row_at t j).destination ≡ (row_at t i).source
    pub coefficients : (row_at t j).coefficients ≡ (row_at t i).coefficients
    pub selector : (row_at t j).selector ≡ exchange (row_at t i).selector

  -- "16 asymmetric: no row j (i allowed)" does.
  abbrev pub Asymmetric : ℕ → Type 0
  Asymmetric i = (j : ℕ) → Answers j i → ⊥

  -- "17 cyclic: root(s), G, root(d) in that order name a root twice."
  abbrev pub Cyclic : ℕ → Type 0
  Cyclic i = Twice (source_root i ∷ ((row_at t i).gateways ++ (destination_root i ∷ [])))

  -- The rows chain from the root a to the root b, "each beginning at the root where the former ends".
  abbrev pub Chains : ℕ → List ℕ → ℕ → Type 0
  Chains a [] b = a ≡ b
  Chains a (j ∷ js) b = IsRow j × ((source_root j ≡ a) × Chains (destination_root j) js b)

  -- "19 alternative path: two to four rows other than i chain from root(si) to root(di), each beginning at the root where the former ends, no root
  -- visited twice, one packet of Si in all their boxes. An internal loop has none."
  pub record AlternativePath (i : ℕ) : Type 0 where
    pub rows : List ℕ
    pub two : 2 ≤ length rows
    pub four : length rows ≤ 4
    pub other : Memᴰ i rows → ⊥
    pub chain : Chains (source_root i) rows (destination_root i)
    pub visited : Twice (source_root i ∷ map destination_root rows) → ⊥
    pub packet : MeetAll (row_at t i).selector (map (λ j. (row_at t j).selector) rows)
    pub no_loop : InternalLoop i → ⊥

  -- ---- of rows i, j with one holder

  -- "same source root, same destination root, boxes overlap"
  pub record Meets (i j : ℕ) : Type 0 where
    pub source : source_root i ≡ source_root j
    pub destination : destination_root i ≡ destination_root j
    pub overlap : Overlap (row_at t i).selector (row_at t j).selector

  -- "si ⪰ sj, di ⪰ dj, Si ⪰ Sj"
  pub record Encloses (i j : ℕ) : Type 0 where
    pub source : AtOrAbove (parent_of t) (row_at t i).source (row_at t j).source
    pub destination : AtOrAbove (parent_of t) (row_at t i).destination (row_at t j).destination
    pub selector : Contains (row_at t i).selector (row_at t j).selector

  abbrev pub Stronger : ℕ → ℕ → Type 0
  Stronger i j = AtLeast (row_at t i).coefficients (row_at t j).coefficients

  -- One holder, i is earlier.
  pub record Earlier (i j : ℕ) : Type 0 where
    pub holder : (row_at t i).holder ≡ (row_at t j).holder
    pub earlier : i < j

  -- "For 5 to 8, i is earlier, and t and G are equal": with one holder, the rows are of one group.
  pub record EarlierInGroup (i j : ℕ) : Type 0 where
    pub group : SameGroup (row_at t i) (row_at t j)
    pub earlier : i < j

  -- "5 shadowing: si ⪰ sj, di ⪰ dj, Si ⪰ Sj, not Ci ⪰ Cj."
  pub record Shadowing (i j : ℕ) : Type 0 where
    pub pair : EarlierInGroup i j
    pub encloses : Encloses i j
    pub weaker : Stronger i j → ⊥

  -- "6 redundancy: the same with Ci ⪰ Cj."
  pub record Redundancy (i j : ℕ) : Type 0 where
    pub pair : EarlierInGroup i j
    pub encloses : Encloses i j
    pub stronger : Stronger i j

  -- Source, destination and selector of the two are equal.
  pub record SameTraffic (i j : ℕ) : Type 0 where
    pub source : (row_at t i).source ≡ (row_at t j).source
    pub destination : (row_at t i).destination ≡ (row_at t j).destination
    pub selector : (row_at t i).selector ≡ (row_at t j).selector

  -- "7 exception: sj ⪰ si, dj ⪰ di, Sj ⪰ Si, not all three equal, not Ci ⪰ Cj."
  pub record Exception (i j : ℕ) : Type 0 where
    pub pair : EarlierInGroup i j
    pub enclosed : Encloses j i
    pub different : SameTraffic i j → ⊥
    pub weaker : Stronger i j → ⊥

  -- "8 correlation: same source root, same destination root, boxes overlap, none of 5 to 7."
  pub record Correlation (i j : ℕ) : Type 0 where
    pub pair : EarlierInGroup i j
    pub meets : Meets i j
    pub no_shadowing : Shadowing i j → ⊥
    pub no_redundancy : Redundancy i j → ⊥
    pub no_exception : Exception i j → ⊥

  -- "9 inclusion (either order): ti ≻ tj, si ⪰ sj, di ⪰ dj, Ci ⪰ Cj, Si ⪰ Sj, G equal."
  pub record Inclusion (i j : ℕ) : Type 0 where
    pub holder : (row_at t i).holder ≡ (row_at t j).holder
    pub dominates : Dominates (row_at t i).technology (row_at t j).technology
    pub encloses : Encloses i j
    pub stronger : Stronger i j
    pub gateways : (row_at t i).gateways ≡ (row_at t j).gateways

  -- "10 affinity (i earlier): t differ, neither NULL, roots as in 8, boxes overlap, no 9 either way."
  pub record Affinity (i j : ℕ) : Type 0 where
    pub pair : Earlier i j
    pub different : (row_at t i).technology ≡ (row_at t j).technology → ⊥
    pub not_null : (row_at t i).technology ≡ 0 → ⊥
    pub other_not_null : (row_at t j).technology ≡ 0 → ⊥
    pub meets : Meets i j
    pub no_inclusion : Inclusion i j → ⊥
    pub no_inclusion_back : Inclusion j i → ⊥

  -- "11 contradiction (i earlier): exactly one NULL, roots as in 8, boxes overlap."
  pub record Contradiction (i j : ℕ) : Type 0 where
    pub pair : Earlier i j
    pub one_null : (((row_at t i).technology ≡ 0) × ((row_at t j).technology ≡ 0 → ⊥)) ⊎ (((row_at t i).technology ≡ 0 → ⊥) × ((row_at t j).technology ≡ 0))
    pub meets : Meets i j

  -- ---- "Of any two different rows, either order, boxes overlapping"

  pub record Crossing (i j : ℕ) : Type 0 where
    pub different : i ≡ j → ⊥
    pub overlap : Overlap (row_at t i).selector (row_at t j).selector

  -- "13 skewed: neither NULL, root(sj) in Gi, root(di) in Gj."
  pub record Skewed (i j : ℕ) : Type 0 where
    pub pair : Crossing i j
    pub not_null : (row_at t i).technology ≡ 0 → ⊥
    pub other_not_null : (row_at t j).technology ≡ 0 → ⊥
    pub source : Memᴰ (source_root j) (row_at t i).gateways
    pub destination : Memᴰ (destination_root i) (row_at t j).gateways

  -- "18 monitorable: root(di) = root(sj), root(si) ≠ root(dj), both confidentialities above 0."
  pub record Monitorable (i j : ℕ) : Type 0 where
    pub pair : Crossing i j
    pub through : destination_root i ≡ source_root j
    pub ends : source_root i ≡ destination_root j → ⊥
    pub confidential : 0 < get_or (row_at t i).coefficients 2 0
    pub other_confidential : 0 < get_or (row_at t j).coefficients 2 0

  -- ---- of filters k and m

  -- "Kind 21: two filters of one root, the earlier box contains the later, actions differ."
  pub record FilterShadowing (k m : ℕ) : Type 0 where
    pub earlier : k < m
    pub root : (filter_at t k).root ≡ (filter_at t m).root
    pub contains : Contains (filter_at t k).selector (filter_at t m).selector
    pub actions : (filter_at t k).action ≡ (filter_at t m).action → ⊥

  -- "Kind 22: two dropping filters of different roots, the first box contains the second, either order."
  pub record FilterRedundancy (k m : ℕ) : Type 0 where
    pub drops : (filter_at t k).action ≡ dropping
    pub other_drops : (filter_at t m).action ≡ dropping
    pub roots : (filter_at t k).root ≡ (filter_at t m).root → ⊥
    pub contains : Contains (filter_at t k).selector (filter_at t m).selector
