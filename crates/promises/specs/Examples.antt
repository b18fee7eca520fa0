-- Document 01, "A table and its edges": the table T, and the items marked ◆ as one table of statements, each with the numbers that it prints.
-- Assumes nothing.
use Rattle.std.specs.Prelude.{ℕ, ◌-◌, ◌≡◌, List, [], ◌∷◌, ◌++◌, map, length, take, replicate}
use Rattle.hexlines.specs.Lines.{line_of}
use Rattle.relations.specs.Examples.{edges}
use Rattle.reader.specs.Lines.{text_of}
use Rattle.reader.specs.States.{parse}
use Rattle.base.specs.Answers.{Answer, returned, refused_by}
use Rattle.covers.specs.Least.{found, none}
use Rattle.analyser.specs.Calls.{TableCounts, check_of, witness_of, list_of, list_written}

-- The text of some frames, given by their bytes.
abbrev pub frames_text : List (List ℕ) → List ℕ
frames_text frames = text_of (map line_of frames)

-- "four entities 01FF007E, 01000300, 01FF007E, 01020300; six caps 0201FFFFFF to 0206FFFFFF; 03000000"
abbrev pub head : List (List ℕ)
head =
    (1 ∷ 255 ∷ 0 ∷ 126 ∷ [])
    ∷ (1 ∷ 0 ∷ 3 ∷ 0 ∷ [])
    ∷ (1 ∷ 255 ∷ 0 ∷ 126 ∷ [])
    ∷ (1 ∷ 2 ∷ 3 ∷ 0 ∷ [])
    ∷ (2 ∷ 1 ∷ 255 ∷ 255 ∷ 255 ∷ [])
    ∷ (2 ∷ 2 ∷ 255 ∷ 255 ∷ 255 ∷ [])
    ∷ (2 ∷ 3 ∷ 255 ∷ 255 ∷ 255 ∷ [])
    ∷ (2 ∷ 4 ∷ 255 ∷ 255 ∷ 255 ∷ [])
    ∷ (2 ∷ 5 ∷ 255 ∷ 255 ∷ 255 ∷ [])
    ∷ (2 ∷ 6 ∷ 255 ∷ 255 ∷ 255 ∷ [])
    ∷ (3 ∷ 0 ∷ 0 ∷ 0 ∷ [])
    ∷ []

-- "050001030303030300000000FFFFFFFF00000000FFFFFFFF0000FFFF", the bytes of low and high destination port, "00FF", the gateways after their number.
abbrev pub row_bytes : List ℕ → List ℕ → List ℕ
row_bytes ports gateways =
    (5 ∷ 0 ∷ 1 ∷ 3 ∷ 3 ∷ 3 ∷ 3 ∷ 3 ∷ [])
    ++ (0 ∷ 0 ∷ 0 ∷ 0 ∷ 255 ∷ 255 ∷ 255 ∷ 255 ∷ [])
    ++ (0 ∷ 0 ∷ 0 ∷ 0 ∷ 255 ∷ 255 ∷ 255 ∷ 255 ∷ [])
    ++ (0 ∷ 0 ∷ 255 ∷ 255 ∷ [])
    ++ ports
    ++ (0 ∷ 255 ∷ [])
    ++ (length gateways ∷ gateways)

-- T's rows end 00007FFF00FF00, 8000FFFF00FF00, 0000FFFF00FF00.
abbrev pub T : List ℕ
T =
    frames_text
    (head
    ++ (row_bytes (0 ∷ 0 ∷ 127 ∷ 255 ∷ []) []
    ∷ row_bytes (128 ∷ 0 ∷ 255 ∷ 255 ∷ []) []
    ∷ row_bytes (0 ∷ 0 ∷ 255 ∷ 255 ∷ []) []
    ∷ []))

-- "000802, 0010FF, 010802, 0110FF, 0210FF, 0214FF"
abbrev pub list_of_t : List ℕ
list_of_t = 0 ∷ 8 ∷ 2 ∷ 0 ∷ 16 ∷ 255 ∷ 1 ∷ 8 ∷ 2 ∷ 1 ∷ 16 ∷ 255 ∷ 2 ∷ 16 ∷ 255 ∷ 2 ∷ 20 ∷ 255 ∷ []

-- The first lines of T and one row.
abbrev pub text_with_row : List ℕ → List ℕ
text_with_row r = frames_text (head ++ (r ∷ []))

-- Four entities, no filter and one row.
abbrev pub accepted_with_row : Answer TableCounts
accepted_with_row = returned (record { entities = 4; filters = 0; rows = 1 })

abbrev pub items : List (Type 0)
items =
    -- "Witness in T: row 0 all fields 0; row 1 destination port 32,768, others 0; row 2 dead."
    (witness_of (parse T) 0 ≡ returned (found (0 ∷ 0 ∷ 0 ∷ 0 ∷ 0 ∷ [])))
    ∷ (witness_of (parse T) 1 ≡ returned (found (0 ∷ 0 ∷ 0 ∷ 32768 ∷ 0 ∷ [])))
    ∷ (witness_of (parse T) 2 ≡ returned none)
    -- "List in 18 bytes fits, 17 gives 8."
    ∷ ((out : List ℕ) → length out ≡ 18 → (list_of (parse T) out ≡ returned 6) × (list_written (parse T) out ≡ list_of_t))
    ∷ ((out : List ℕ) → length out ≡ 17 → (list_of (parse T) out ≡ refused_by 8 0) × (list_written (parse T) out ≡ out))
    -- "Empty text: 3, line 1."
    ∷ (check_of (parse []) ≡ refused_by 3 1)
    -- "T less its last line feed: 1, line 14."
    ∷ (check_of (parse (take (length T - 1) T)) ≡ refused_by 1 14)
    -- "Low = high accepted, low = high + 1 gives 6."
    ∷ (check_of (parse (text_with_row (row_bytes (0 ∷ 80 ∷ 0 ∷ 80 ∷ []) []))) ≡ accepted_with_row)
    ∷ (check_of (parse (text_with_row (row_bytes (0 ∷ 81 ∷ 0 ∷ 80 ∷ []) []))) ≡ refused_by 6 12)
    -- "n of 8 accepted, 9 gives 2."
    ∷ (check_of (parse (text_with_row (row_bytes (0 ∷ 0 ∷ 255 ∷ 255 ∷ []) (replicate 8 0)))) ≡ accepted_with_row)
    ∷ (check_of (parse (text_with_row (row_bytes (0 ∷ 0 ∷ 255 ∷ 255 ∷ []) (replicate 9 0)))) ≡ refused_by 2 12)
    -- the items on ranges and coefficients
    ∷ edges
