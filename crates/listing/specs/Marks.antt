-- The kinds that hold of a row, of two, or of two filters, as a number: bit k for kind k.
-- Assumes nothing.
use Rattle.std.specs.Prelude.{ℕ, ◌+◌, ◌*◌, ◌≤◌, ◌<◌, ◌≡◌, Bool, ◌&&◌, ◌||◌, List, [], ◌∷◌, ◌++◌, map, ltb, length, get_or, take}
use Rattle.std.specs.Int.Bits.{bit_or}
use Rattle.std.specs.Int.Count.{ones}
use Rattle.std.proofs.lemmas.List.Edits.{sets}
use Rattle.base.specs.Truths.{pick}
use Rattle.base.specs.Bits.{bits_of, marked}
use Rattle.policy.specs.Limits.{most_entities, technologies, most_filters, most_rows}
use Rattle.policy.specs.Model.{Row}
use Rattle.policy.specs.Views.{parent_in, row_in, rows_in, coefficients_of, filter_in}
use Rattle.policy.specs.Wellformed.{Ordered}
use Rattle.policy.specs.declared.table.Table.{Table}
use Rattle.relations.specs.Entities.{Parents}
use Rattle.base.specs.Lists.{tabulate}
use Rattle.verdicts.specs.Verdicts.{verdict_after, is_none}
use Rattle.kinds.specs.Views.{from_in, to_in, placed_in}
use Rattle.kinds.specs.Tests.{pair_of}
use Rattle.kinds.specs.Seen.{Seen}
use Rattle.kinds.specs.Kinds.{kind_count, no_second, row_tests, pair_tests, filter_tests}
use Rattle.kinds.specs.Entries.{Entry, entry, gather, sum, Block}
use Rattle.listing.specs.declared.put.Block.{Block as BlockStruct}

-- ---- what is asked of the rows that are lent

pub record GoodRow (r : Row) : Type 0 where
  pub source : r.source < most_entities
  pub destination : r.destination < most_entities
  pub technology : r.technology ≤ technologies
  pub ordered : Ordered r.selector

abbrev pub GoodRows : List ℕ → List ℕ → ℕ → Type 0
GoodRows heads bounds rows = (i : ℕ) → i < rows → GoodRow (row_in heads bounds i)

-- Row i of a table alone, with its roots.
pub record GoodAlone (t : Table) (roots : List ℕ) (i : ℕ) : Type 0 where
  pub tree : Parents t.parents
  pub row : GoodRow (row_in t.heads t.bounds i)
  pub few : t.rows ≤ most_rows
  pub place : i < most_rows
  pub few_filters : t.filters ≤ most_filters
  pub from : from_in roots i < most_entities
  pub to : to_in roots i < most_entities

-- Row i of `rows` rows.
pub record GoodAmong (parents heads bounds : List ℕ) (rows i : ℕ) : Type 0 where
  pub tree : Parents parents
  pub each : GoodRows heads bounds rows
  pub few : rows ≤ most_rows
  pub row : i < rows

-- ---- the marks

-- What the tests of the kinds look at, of a table that is lent, and the kinds of row i alone.
module _ (t : Table) (roots : List ℕ) (i : ℕ) where
  abbrev pub seen_in : Seen
  seen_in =
      record {
        up = parent_in t.parents;
        mask = λ e. get_or t.masks e 0;
        caps = map coefficients_of (take technologies t.caps);
        floor = coefficients_of t.floor;
        filters = t.filters;
        filter = filter_in t.filter_roots t.filter_actions t.bounds;
        rows = t.rows;
        placed = placed_in t.heads t.bounds roots;
        dead = λ j. is_none (verdict_after (parent_in t.parents) (rows_in t.heads t.bounds j) (row_in t.heads t.bounds j));
      }

  abbrev pub alone_marks : ℕ
  alone_marks = bits_of (row_tests seen_in i)

-- The kinds of rows i and j.
abbrev pub pair_marks : (parents heads bounds roots : List ℕ) (i j : ℕ) → ℕ
pair_marks parents heads bounds roots i j =
    bits_of (pair_tests (pair_of (parent_in parents) i j (placed_in heads bounds roots i) (placed_in heads bounds roots j)))

-- The kinds of filters k and m.
abbrev pub filter_marks : (roots actions bounds : List ℕ) (k m : ℕ) → ℕ
filter_marks roots actions bounds k m =
    bits_of (filter_tests k m (filter_in roots actions bounds k) (filter_in roots actions bounds m))

-- ---- the marks that are kept: a number for each row, and one for each two rows and two filters

-- The number of rows i and j, and of filters i and j; each has room for as many as there can be rows.
abbrev pub mark_at : List ℕ → ℕ → ℕ → ℕ
mark_at pairs i j = get_or pairs (most_rows * i + j) 0

-- The kinds of row i and each row are stored in row i's places; the others stay.
pub record MarkedPairs (parents heads bounds roots : List ℕ) (rows i : ℕ) (before after : List ℕ) : Type 0 where
  pub stored : after ≡ sets before (most_rows * i) (tabulate (pair_marks parents heads bounds roots i) rows)

-- How many kinds are marked of row i: alone, and with each row.
abbrev pub row_count : ℕ → List ℕ → ℕ → ℕ → ℕ
row_count own pairs rows i = ones own + sum rows 0 (λ j. ones (mark_at pairs i j))

-- The kinds of filter k and each filter are added to those in its places, and there are n of them; the others stay.
pub record MarkedFilter (roots actions bounds : List ℕ) (filters k : ℕ) (before after : List ℕ) (n : ℕ) : Type 0 where
  pub stored : after ≡ sets before (most_rows * k) (tabulate (λ m. bit_or (mark_at before k m) (filter_marks roots actions bounds k m)) filters)
  pub count : n ≡ sum filters 0 (λ m. ones (filter_marks roots actions bounds k m))

-- The same of the first `upto` of the filters: the kinds that are marked then are those before, and those of filters i and j.
pub record MarkedFilters (roots actions bounds : List ℕ) (filters upto : ℕ) (before after : List ℕ) (n : ℕ) : Type 0 where
  pub long : length after ≡ length before
  pub marks : (i j kind : ℕ) → i < most_rows → j < most_rows
      → marked (mark_at after i j) kind
      ≡ (marked (mark_at before i j) kind || (ltb i upto && (ltb j filters && marked (filter_marks roots actions bounds i j) kind)))
  pub count : n ≡ sum upto 0 (λ k. sum filters 0 (λ m. ones (filter_marks roots actions bounds k m)))

-- ---- the entries that are marked

abbrev pub listed_if : Bool → ℕ → ℕ → ℕ → List Entry
listed_if b i kind j = pick b (entry i kind j ∷ []) []

-- Of thing i of `things`, whose own kinds are marked in `own`.
abbrev pub pairs_marked : List ℕ → ℕ → ℕ → ℕ → List Entry
pairs_marked pairs things i kind = gather things 0 (λ j. listed_if (marked (mark_at pairs i j) kind) i kind j)

abbrev pub kind_marked : ℕ → List ℕ → ℕ → ℕ → ℕ → List Entry
kind_marked own pairs things i kind = pairs_marked pairs things i kind ++ listed_if (marked own kind) i kind no_second

-- Of each kind of a block.
abbrev pub thing_marked : ℕ → List ℕ → Block → ℕ → List Entry
thing_marked own pairs b i = gather b.kinds b.kind (kind_marked own pairs b.things i)

-- Of each thing, whose own kinds are marked at its place.
abbrev pub block_marked : List ℕ → List ℕ → Block → List Entry
block_marked own pairs b = gather b.things 0 (λ i. thing_marked (get_or own i 0) pairs b i)

-- The block of the code's struct; there is room for its things, and its kinds are among all.
abbrev pub block_of : BlockStruct → Block
block_of b = record { things = b.things; kind = b.kind; kinds = b.kinds }

pub record BlockFits (b : BlockStruct) : Type 0 where
  pub few : b.things ≤ most_rows
  pub among : b.kind + b.kinds ≤ kind_count + 1
