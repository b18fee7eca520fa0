-- Document 02, [5]: prefixes as bytes in the caller's output, with addresses of any number of bytes.
-- Assumes nothing.
use Rattle.std.specs.Prelude.{ℕ, ◌+◌, ◌*◌, ◌-◌, ◌/◌, ◌^◌, ◌≤◌, ◌<◌, ◌≡◌, Bool, true, List, [], ◌∷◌, ◌++◌, length, Result}
use Rattle.base.specs.Truths.{bit}
use Rattle.base.specs.Outputs.{WritesCounted}
use Rattle.base.specs.declared.Short.{Short}
use Rattle.hexlines.specs.Numbers.{number_bytes}
use Rattle.policy.specs.Model.{Range}
use Rattle.policy.specs.Views.{value, range_of}
use Rattle.policy.specs.declared.number.Number.{Number}
use Rattle.policy.specs.Limits.{number_width}
use Rattle.prefixes.specs.declared.Addresses.{Addresses}
use Rattle.prefixes.specs.Prefixes.{Prefix, prefixes}

-- "four address bytes"
abbrev pub address_bytes : ℕ
address_bytes = 4

-- "four address bytes .. and a length"
abbrev pub prefix_bytes : ℕ → List Prefix → List ℕ
prefix_bytes bytes [] = []
prefix_bytes bytes (p ∷ ps) = number_bytes bytes p.address ++ (p.length ∷ prefix_bytes bytes ps)

-- What becomes of the output, and what is answered, where the range's addresses have `bytes` bytes: "with the count returned".
abbrev pub Puts : ℕ → Range → (before after : List ℕ) → Result ℕ Short → Type 0
Puts bytes r before after w =
    WritesCounted (length (prefixes (8 * bytes) r)) (prefix_bytes bytes (prefixes (8 * bytes) r)) before after w

-- ---- the code's struct

abbrev pub prefixes_in : Addresses → List Prefix
prefixes_in a = prefixes a.bits (range_of a.range)

-- No address needs more bits, and they have room in a number.
pub record Held (a : Addresses) : Type 0 where
  pub high : value a.range.high < 2 ^ a.bits
  pub few : a.bits ≤ 8 * number_width

-- What is asked for a prefix to be written after `at` others, if it is to be there: `n` is the address's number without the bits that are 0.
pub record Room (there : Bool) (n : Number) (bits : ℕ) (whole : Addresses) (out : List ℕ) (at : ℕ) : Type 0 where
  pub fits : there ≡ true → value n * 2 ^ (whole.bits - bits) ≤ value whole.range.high
  pub shorter : bits ≤ whole.bits
  pub few : whole.bits ≤ 8 * number_width
  pub room : (whole.bits / 8 + 1) * (at + bit there) ≤ length out
