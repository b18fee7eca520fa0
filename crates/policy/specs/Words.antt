-- How a table holds numbers in words of 64 bits: a number as two words, and a selector as ten. That a selector's words give it back is a law.
-- Assumes nothing.
use Rattle.std.specs.Prelude.{ℕ, ◌+◌, ◌*◌, ◌/◌, ◌%◌, ◌^◌, ◌≤◌, ◌<◌, List, [], ◌∷◌, ◌++◌, get_or}
use Rattle.policy.specs.Model.{Range, Selector, no_range}

-- How many values a word has.
abbrev pub word_size : ℕ
word_size = 2 ^ 64

-- The number of two words, the more significant first.
abbrev pub of_words : (upper lower : ℕ) → ℕ
of_words upper lower = upper * word_size + lower

abbrev pub two_words : ℕ → List ℕ
two_words n = n / word_size ∷ n % word_size ∷ []

-- A range as one number, and back, where its high is below `size`: `size` times its low, and its high.
abbrev pub packed_range : (size : ℕ) → Range → ℕ
packed_range size r = r.low * size + r.high

abbrev pub unpacked_range : (size : ℕ) → ℕ → Range
unpacked_range size n = record { low = n / size; high = n % size }

-- One word holds the range so.
pub record Packs (size : ℕ) (r : Range) : Type 0 where
  pub low : r.low < size
  pub high : r.high < size
  pub word : size ≤ 2 ^ 32

-- The bounds of a port have 16 bits each in their word, and those of the protocol 32.
abbrev pub port_size : ℕ
port_size = 2 ^ 16

abbrev pub protocol_size : ℕ
protocol_size = 2 ^ 32

-- The ports' word has the source's two bounds above the destination's.
abbrev pub ports_size : ℕ
ports_size = port_size * port_size

-- The words of a selector: two for each of the four bounds of its addresses, one for the four of its ports, one for the two of its protocol.
abbrev pub words_of : Selector → List ℕ
words_of s =
    two_words (get_or s 0 no_range).low
    ++ (two_words (get_or s 0 no_range).high
    ++ (two_words (get_or s 1 no_range).low
    ++ (two_words (get_or s 1 no_range).high
    ++ ((packed_range port_size (get_or s 2 no_range) * ports_size + packed_range port_size (get_or s 3 no_range))
    ∷ packed_range protocol_size (get_or s 4 no_range)
    ∷ []))))

-- The selector of ten words.
abbrev pub selector_of_words : List ℕ → Selector
selector_of_words ws =
    record { low = of_words (get_or ws 0 0) (get_or ws 1 0); high = of_words (get_or ws 2 0) (get_or ws 3 0) }
    ∷ record { low = of_words (get_or ws 4 0) (get_or ws 5 0); high = of_words (get_or ws 6 0) (get_or ws 7 0) }
    ∷ unpacked_range port_size (get_or ws 8 0 / ports_size)
    ∷ unpacked_range port_size (get_or ws 8 0 % ports_size)
    ∷ unpacked_range protocol_size (get_or ws 9 0)
    ∷ []
