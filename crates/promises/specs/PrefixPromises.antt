-- Document 02, [5], "Prefixes for the branch router": what is promised of the call Prefixes, for every text. Numbers of the documents stand here as they
-- print them.
-- Assumes nothing.
use Rattle.std.specs.Prelude.{ℕ, ◌*◌, ◌-◌, ◌^◌, ◌≤◌, ◌<◌, ◌≡◌, ◌↔◌, List, [], ◌∷◌, ◌++◌, length, drop, Ok, Err}
use Rattle.hexlines.specs.Numbers.{number_of}
use Rattle.policy.specs.Model.{Range, Table, row_at}
use Rattle.policy.specs.Wellformed.{Below}
use Rattle.relations.specs.Ranges.{Within}
use Rattle.prefixes.specs.Prefixes.{Prefix, IsPrefix, InPrefix, block_of, PrefixesOf, prefixes}
use Rattle.prefixes.specs.Bytes.{prefix_bytes}
use Rattle.prefixes.specs.Sides.{side_of}
use Rattle.reader.specs.States.{parse}
use Rattle.analyser.specs.Calls.{row_prefixes, prefixes_written}
use Rattle.analyser.specs.CallAnswers.{Only, PrefixesAnswers}
use Rattle.calls.specs.Views.{refusal}

-- Of addresses of any width:
pub record RangePrefixes : Type 0 where
  -- a prefix has 2 to the power of the bits past its length addresses, from its own on
  pub block : (width : ℕ) (p : Prefix) → IsPrefix width p → (x : ℕ) → InPrefix width p x ↔ Within (block_of width p) x
  -- the list that document 02 describes, of each range with a low at most its high
  pub right : (width : ℕ) (r : Range) → r.low ≤ r.high → r.high < 2 ^ width → PrefixesOf width r (prefixes width r)
  -- "The full range is one prefix of length 0; a single address is one" of all bits.
  pub full : (width : ℕ) → prefixes width (record { low = 0; high = 2 ^ width - 1 }) ≡ record { address = 0; length = 0 } ∷ []
  pub single : (width a : ℕ) → prefixes width (record { low = a; high = a }) ≡ record { address = a; length = width } ∷ []
  -- at most two for each bit but the first
  pub few : (width : ℕ) (r : Range) → r.low ≤ r.high → r.high < 2 ^ width → 2 ≤ width → length (prefixes width r) ≤ 2 * width - 2

-- "four address bytes, all bits past the length 0, and a length": the first bytes of what is written.
pub record FiveBytes (p : Prefix) (ps : List Prefix) : Type 0 where
  pub bytes : List ℕ
  pub four : length bytes ≡ 4
  pub each : Below 256 bytes
  -- most significant first
  pub address : number_of bytes ≡ p.address
  pub all : prefix_bytes 4 (p ∷ ps) ≡ bytes ++ (p.length ∷ prefix_bytes 4 ps)

-- How a side is told, and how prefixes are written:
pub record PrefixForms : Type 0 where
  -- "a side (0 source, 1 destination)": a box has the source addresses first, then the destination addresses
  pub source : (a b c d e : Range) → side_of 0 (a ∷ b ∷ c ∷ d ∷ e ∷ []) ≡ a
  pub destination : (a b c d e : Range) → side_of 1 (a ∷ b ∷ c ∷ d ∷ e ∷ []) ≡ b
  pub none : prefix_bytes 4 [] ≡ []
  pub more : (p : Prefix) (ps : List Prefix) → IsPrefix 32 p → FiveBytes p ps

-- A row and a side of an accepted text, which are there:
pub record SidePrefixes (text : List ℕ) (t : Table) (k side : ℕ) : Type 0 where
  -- "An address is in some written prefix when and only when it is in the range", "in ascending order", none with fewer: of 32 bits
  pub right : PrefixesOf 32 (side_of side (row_at t k).selector) (row_prefixes k side t)
  pub few : length (row_prefixes k side t) ≤ 62
  -- "The full range is one prefix of length 0; a single address is one of length 32."
  pub full : side_of side (row_at t k).selector ≡ record { low = 0; high = 4294967295 } → row_prefixes k side t ≡ record { address = 0; length = 0 } ∷ []
  pub single : (a : ℕ) → side_of side (row_at t k).selector ≡ record { low = a; high = a } → row_prefixes k side t ≡ record { address = a; length = 32 } ∷ []
  -- "write the range's prefixes .., with the count returned": five bytes each, the rest unchanged; 8 where there is no room
  pub written : (out : List ℕ) → 5 * length (row_prefixes k side t) ≤ length out
      → Only (PrefixesAnswers (parse text) k side out) (Ok (length (row_prefixes k side t)))
      × (prefixes_written (parse text) k side out ≡ prefix_bytes 4 (row_prefixes k side t) ++ drop (5 * length (row_prefixes k side t)) out)
  pub short : (out : List ℕ) → length out < 5 * length (row_prefixes k side t)
      → Only (PrefixesAnswers (parse text) k side out) (Err (refusal 8 0)) × (prefixes_written (parse text) k side out ≡ out)

-- Of an accepted text (a refused one's own number and line: `RefusedText`):
pub record PrefixPromise (text : List ℕ) (t : Table) : Type 0 where
  -- "9", whatever the side
  pub no_row : (k side : ℕ) (out : List ℕ) → length t.rows ≤ k
      → Only (PrefixesAnswers (parse text) k side out) (Err (refusal 9 0)) × (prefixes_written (parse text) k side out ≡ out)
  -- "12 when the side is above 1, after 9 and before 8", whatever the output
  pub no_side : (k side : ℕ) (out : List ℕ) → k < length t.rows → 1 < side
      → Only (PrefixesAnswers (parse text) k side out) (Err (refusal 12 0)) × (prefixes_written (parse text) k side out ≡ out)
  pub sides : (k side : ℕ) → k < length t.rows → side ≤ 1 → SidePrefixes text t k side
