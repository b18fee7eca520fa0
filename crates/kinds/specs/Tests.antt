-- The test of each kind, equal to its meaning of `Meanings` in a well-formed table (proofs/Laws).
-- Assumes nothing.
use Rattle.std.specs.Prelude.{ℕ, zero, suc, ◌-◌, ◌/◌, ◌%◌, ◌^◌, Bool, true, false, not, ◌&&◌, ◌||◌, List, [], ◌∷◌, ◌++◌, eqb, ltb, get_or}
use Rattle.policy.specs.Model.{Coefficients, Filter, Row, Selector, Table, dropping, passing, parent_of}
use Rattle.base.specs.Lists.{among, same, some}
use Rattle.relations.specs.Entities.{at_or_above}
use Rattle.relations.specs.Technologies.{layer_of, dominates}
use Rattle.relations.specs.Coefficients.{at_least}
use Rattle.relations.specs.Selectors.{contains, overlaps, inhabited, meet, exchange, same_selector}
use Rattle.relations.specs.Groups.{same_group}
use Rattle.kinds.specs.Views.{Placed, placed_at}
use Rattle.kinds.specs.declared.pair.Pair.{Pair}

-- a stands at some place of the list and b at a later one.
unfoldable pub in_order : ℕ → ℕ → List ℕ → Bool
in_order a b [] = false
in_order a b (x ∷ xs) = (eqb a x && among b xs) || in_order a b xs

-- Some number stands at two places.
unfoldable pub twice : List ℕ → Bool
twice [] = false
twice (x ∷ xs) = among x xs || twice xs

abbrev pub empty : List ℕ → Bool
empty [] = true
empty (x ∷ xs) = false

-- ---- of one row

-- 1, internal loop: root(s) = root(d).
abbrev pub internal_loop : Placed → Bool
internal_loop p = eqb p.from p.to

-- 2, out of place: holder is not root(s).
abbrev pub out_of_place : Placed → Bool
out_of_place p = not (eqb p.row.holder p.from)

-- Bit u of the mask is 0.
unfoldable pub lacks : ℕ → ℕ → Bool
lacks mask u = eqb ((mask / (2 ^ u)) % 2) 0

-- 3, non-enforceable, after the masks of the two roots and the caps.
unfoldable pub non_enforceable : ℕ → ℕ → List Coefficients → Row → Bool
non_enforceable from to caps r =
    not (eqb r.technology 0)
    && (lacks from r.technology
    || (lacks to r.technology || not (at_least (get_or caps (r.technology - 1) []) r.coefficients)))

-- 4, inadequate, after the floor.
abbrev pub inadequate : Coefficients → Row → Bool
inadequate floor r = not (at_least r.coefficients floor)

-- Whether the filter drops, is of a root in G and contains S.
unfoldable pub filters : Row → Filter → Bool
filters r f = eqb f.action dropping && (among f.root r.gateways && contains f.selector r.selector)

-- Whether the filter passes, is of this root and overlaps S.
unfoldable pub excepts : Row → ℕ → Filter → Bool
excepts r root f = eqb f.action passing && (eqb f.root root && overlaps f.selector r.selector)

-- One of the first `count` filters, by number, excepts packets of the row at this root.
unfoldable pub excepted : (ℕ → Filter) → ℕ → ℕ → Row → Bool
excepted at count root r = some count (λ k. excepts r root (at k))

-- Filter k filters the row, and no filter before it excepts.
unfoldable pub filtered_by : (ℕ → Filter) → ℕ → Row → Bool
filtered_by at k r = filters r (at k) && not (excepted at k (at k).root r)

-- 14, filtered, by one of the first `count` filters, by number.
unfoldable pub filtered : (ℕ → Filter) → ℕ → Row → Bool
filtered at count r = some count (λ k. filtered_by at k r)

-- 15, layer two.
unfoldable pub layer_two : Row → Bool
layer_two r = eqb (layer_of r.technology) 2 && not (empty r.gateways)

-- 17, cyclic.
unfoldable pub cyclic : Placed → Bool
cyclic p = twice (p.from ∷ (p.row.gateways ++ (p.to ∷ [])))

-- ---- of one row, among all

-- Row q rides in p, if it is another row.
unfoldable pub rides : Placed → Placed → Bool
rides q p = in_order p.from p.to q.row.gateways && contains p.row.selector q.row.selector

unfoldable pub answers : Row → Row → Bool
answers q r =
    eqb q.source r.destination
    && (eqb q.destination r.source
    && (same q.coefficients r.coefficients && same_selector q.selector (exchange r.selector)))

-- 12, superfluous, of row i of `rows` rows, by number.
unfoldable pub superfluous : (ℕ → Placed) → ℕ → ℕ → Bool
superfluous at rows i =
    some rows (λ j. not (eqb j i) && rides (at j) (at i))
    && not (some rows (λ j. (not (eqb j i) && rides (at j) (at i)) && not (at_least (at j).row.coefficients (at i).row.coefficients)))

-- 16, asymmetric, of row i of `rows` rows.
unfoldable pub asymmetric : (ℕ → Row) → ℕ → ℕ → Bool
asymmetric at rows i = not (some rows (λ j. answers (at j) (at i)))

-- Rows by the roots of source and destination and the selector of each.
module _ (from to : ℕ → ℕ) (selector : ℕ → Selector) where
  -- Row j goes on from the root a to one that is not visited, and shares a packet with s.
  unfoldable pub goes_on : ℕ → ℕ → List ℕ → Selector → Bool
  goes_on j a visited s = eqb (from j) a && (not (among (to j) visited) && inhabited (meet s (selector j)))

  -- Of the first `rows` rows, at most n chain from the root a to the root b, past none that is visited, with a packet of s in all of them. A row
  -- that ends at b is the chain's last; where three more were allowed it is the only one, which is no chain.
  unfoldable pub chains : ℕ → ℕ → ℕ → ℕ → List ℕ → Selector → Bool
  chains rows zero b a visited s = false
  chains rows (suc n) b a visited s =
      some rows
      (λ j.
      goes_on j a visited s
      && elim (eqb (to j) b) [ true ↦ ltb n 3 | false ↦ chains rows n b (to j) (to j ∷ visited) (meet s (selector j)) ])

  -- 19, alternative path, of row i of `rows` rows.
  unfoldable pub alternative_path : ℕ → ℕ → Bool
  alternative_path rows i = chains rows 4 (to i) (from i) (from i ∷ []) (selector i)

-- ---- of two rows

unfoldable pub encloses : (ℕ → ℕ) → Row → Row → Bool
encloses up r q =
    contains r.selector q.selector && (at_or_above up r.source q.source && at_or_above up r.destination q.destination)

unfoldable pub same_traffic : Row → Row → Bool
same_traffic r q =
    eqb r.source q.source && (eqb r.destination q.destination && same_selector r.selector q.selector)

-- What the kinds of two rows look at, of row i, which is p, and row j, which is q.
abbrev pub pair_of : (ℕ → ℕ) → ℕ → ℕ → Placed → Placed → Pair
pair_of up i j p q =
    record {
      holder = eqb p.row.holder q.row.holder;
      earlier = eqb p.row.holder q.row.holder && ltb i j;
      group = same_group p.row q.row && ltb i j;
      gateways = same p.row.gateways q.row.gateways;
      technology = eqb p.row.technology q.row.technology;
      null = eqb p.row.technology 0;
      other_null = eqb q.row.technology 0;
      dominates = dominates p.row.technology q.row.technology;
      dominated = dominates q.row.technology p.row.technology;
      encloses = encloses up p.row q.row;
      enclosed = encloses up q.row p.row;
      same = same_traffic p.row q.row;
      stronger = at_least p.row.coefficients q.row.coefficients;
      weaker = at_least q.row.coefficients p.row.coefficients;
      meets = eqb p.from q.from && (eqb p.to q.to && overlaps p.row.selector q.row.selector);
      crossing = not (eqb i j) && overlaps p.row.selector q.row.selector;
      source_inside = among q.from p.row.gateways;
      destination_inside = among p.to q.row.gateways;
      through = eqb p.to q.from;
      back = eqb p.from q.to;
      confidential = ltb 0 (get_or p.row.coefficients 2 0) && ltb 0 (get_or q.row.coefficients 2 0);
    }

-- 5, shadowing.
abbrev pub shadowing : Pair → Bool
shadowing p = p.group && (p.encloses && not p.stronger)

-- 6, redundancy.
abbrev pub redundancy : Pair → Bool
redundancy p = p.group && (p.encloses && p.stronger)

-- 7, exception.
abbrev pub exception : Pair → Bool
exception p = p.group && (p.enclosed && (not p.same && not p.stronger))

-- 8, correlation.
abbrev pub correlation : Pair → Bool
correlation p = p.group && (p.meets && (not (shadowing p) && (not (redundancy p) && not (exception p))))

-- 9, inclusion.
abbrev pub inclusion : Pair → Bool
inclusion p = p.holder && (p.dominates && (p.encloses && (p.stronger && p.gateways)))

-- 9, inclusion, in the other order.
abbrev pub inclusion_back : Pair → Bool
inclusion_back p = p.holder && (p.dominated && (p.enclosed && (p.weaker && p.gateways)))

-- 10, affinity.
abbrev pub affinity : Pair → Bool
affinity p =
    p.earlier
    && (not p.technology
    && (not p.null && (not p.other_null && (p.meets && (not (inclusion p) && not (inclusion_back p))))))

-- 11, contradiction.
abbrev pub contradiction : Pair → Bool
contradiction p =
    p.earlier && (((p.null && not p.other_null) || (not p.null && p.other_null)) && p.meets)

-- 13, skewed.
abbrev pub skewed : Pair → Bool
skewed p = p.crossing && (not p.null && (not p.other_null && (p.source_inside && p.destination_inside)))

-- 18, monitorable.
abbrev pub monitorable : Pair → Bool
monitorable p = p.crossing && (p.through && (not p.back && p.confidential))

-- ---- of two filters

-- 21, shadowing of filters, of filter k, which is f, and filter m, which is g.
unfoldable pub filter_shadowing : ℕ → ℕ → Filter → Filter → Bool
filter_shadowing k m f g =
    ltb k m && (eqb f.root g.root && (not (eqb f.action g.action) && contains f.selector g.selector))

-- 22, redundancy of filters.
unfoldable pub filter_redundancy : Filter → Filter → Bool
filter_redundancy f g =
    eqb f.action dropping && (eqb g.action dropping && (not (eqb f.root g.root) && contains f.selector g.selector))

-- ---- of a table

abbrev pub pair_at : Table → ℕ → ℕ → Pair
pair_at t i j = pair_of (parent_of t) i j (placed_at t i) (placed_at t j)
