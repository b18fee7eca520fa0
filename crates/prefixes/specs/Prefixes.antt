-- Document 02, [5], "Prefixes for the branch router": what a prefix is "as in RFC 4632", which addresses are in it, and the prefixes of a range. An
-- address has any number of bits, its width.
-- Assumes nothing.
use Rattle.std.specs.Prelude.{ℕ, zero, suc, ◌+◌, ◌*◌, ◌-◌, ◌/◌, ◌%◌, ◌^◌, ◌≤◌, ◌<◌, ◌≡◌, Bool, ◌↔◌, eqb, ltb, length}
use mathlib.Core.List.{List, [], ◌∷◌, ◌++◌, map, Memᴰ}
use Rattle.base.specs.Truths.{pick}
use Rattle.base.specs.Lists.{Ascends}
use Rattle.policy.specs.Model.{Range}
use Rattle.relations.specs.Ranges.{Within}

-- ---- what a prefix is

pub record Prefix : Type 0 where
  pub address : ℕ
  pub length : ℕ

-- Bit k of an address, counted from 0: the first is the most significant.
abbrev pub bit_at : (width address k : ℕ) → ℕ
bit_at width address k = (address / 2 ^ (width - suc k)) % 2

-- "all bits past the length 0, and a length from 0 to 32"
pub record IsPrefix (width : ℕ) (p : Prefix) : Type 0 where
  pub address : p.address < 2 ^ width
  pub length : p.length ≤ width
  pub past : (k : ℕ) → p.length ≤ k → k < width → bit_at width p.address k ≡ 0

-- The address x is in the prefix: up to the length its bits are the prefix's.
pub record InPrefix (width : ℕ) (p : Prefix) (x : ℕ) : Type 0 where
  pub address : x < 2 ^ width
  pub bits : (k : ℕ) → k < p.length → bit_at width x k ≡ bit_at width p.address k

-- The same as a range: the addresses from the prefix's own on, as many as the bits past its length can say. That they are those in it is a law.
abbrev pub block_of : ℕ → Prefix → Range
block_of width p = record { low = p.address; high = p.address + (2 ^ (width - p.length) - 1) }

-- ---- lists of prefixes

abbrev pub ArePrefixes : ℕ → List Prefix → Type 0
ArePrefixes width ps = (p : Prefix) → Memᴰ p ps → IsPrefix width p

-- The address is in some prefix of the list.
abbrev pub InSome : ℕ → List Prefix → ℕ → Type 0
InSome width ps x = (p : Prefix) × Memᴰ p ps × InPrefix width p x

-- The list "covers just this range": "An address is in some .. prefix when and only when it is in the range."
abbrev pub CoversJust : ℕ → Range → List Prefix → Type 0
CoversJust width r ps = (x : ℕ) → InSome width ps x ↔ Within r x

-- What document 02 says of the prefixes that are written for a range.
pub record PrefixesOf (width : ℕ) (r : Range) (ps : List Prefix) : Type 0 where
  pub each : ArePrefixes width ps
  pub covers : CoversJust width r ps
  -- "in ascending order", so that each is there once
  pub ascending : Ascends (λ p q. p.address < q.address) ps
  -- "Every other list of prefixes that covers just this range has at least as many entries", in any order, and also if they overlap.
  pub fewest : (qs : List Prefix) → ArePrefixes width qs → CoversJust width r qs → length ps ≤ length qs

-- ---- the prefixes of a range

-- The prefix of one address, if it is to be there.
abbrev pub alone_if : Bool → ℕ → ℕ → List Prefix
alone_if b width a = pick b (record { address = a; length = width } ∷ []) []

-- The prefix of the same bits, where addresses have k bits more.
abbrev pub raised : ℕ → Prefix → Prefix
raised k p = record { address = p.address * 2 ^ k; length = p.length }

-- Whether the address is the first or the second of a pair: of two that differ in their last bit alone.
abbrev pub is_first : ℕ → Bool
is_first a = eqb (a % 2) 0

abbrev pub is_second : ℕ → Bool
is_second a = eqb (a % 2) 1

-- The pairs that lie in a range of more than one address, each by the bits that its two addresses share.
abbrev pub pairs : Range → Range
pairs r = record { low = (r.low + 1) / 2; high = (r.high - 1) / 2 }

-- An address whose pair is not in the range stands alone: the lowest, if it is the second of its pair, and the highest, if it is the first. The others
-- are pairs, and their prefixes are those of the pairs. That the list is `PrefixesOf` the range is a law.
unfoldable pub prefixes : ℕ → Range → List Prefix
prefixes zero r = alone_if (eqb r.low r.high) 0 r.low
prefixes (suc width) r =
    pick (ltb r.low r.high)
    (alone_if (is_second r.low) (suc width) r.low
    ++ (map (raised 1) (prefixes width (pairs r)) ++ alone_if (is_first r.high) (suc width) r.high))
    (alone_if (eqb r.low r.high) (suc width) r.low)
