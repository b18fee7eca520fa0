-- Document 01, "A table and its edges": the table T, and its anomalies as rowlist prints them.
-- Assumes nothing.
use Rattle.std.specs.Prelude.{ℕ, ◌≡◌, [], ◌∷◌, replicate}
use Rattle.policy.specs.Limits.{technologies}
use Rattle.policy.specs.Model.{Entity, Range, Row, Table, no_parent}
use Rattle.kinds.specs.Kinds.{no_second}
use Rattle.kinds.specs.Entries.{entry, entries}

abbrev pub root : Entity
root = record { parent = no_parent; layer = 0; mask = 126 }

abbrev pub child : ℕ → Entity
child parent = record { parent = parent; layer = 3; mask = 0 }

abbrev pub up_to : ℕ → Range
up_to high = record { low = 0; high = high }

abbrev pub row : Range → Row
row port =
    record {
      holder = 0;
      source = 1;
      destination = 3;
      technology = 3;
      coefficients = 3 ∷ 3 ∷ 3 ∷ [];
      selector = up_to 4294967295 ∷ up_to 4294967295 ∷ up_to 65535 ∷ port ∷ up_to 255 ∷ [];
      gateways = [];
    }

abbrev pub table_t : Table
table_t =
    record {
      entities = root ∷ child 0 ∷ root ∷ child 2 ∷ [];
      caps = replicate technologies (255 ∷ 255 ∷ 255 ∷ []);
      floor = 0 ∷ 0 ∷ 0 ∷ [];
      filters = [];
      rows = row (up_to 32767) ∷ row (record { low = 32768; high = 65535 }) ∷ row (up_to 65535) ∷ [];
    }

-- "000802, 0010FF, 010802, 0110FF, 0210FF, 0214FF"
abbrev pub Printed : Type 0
Printed =
    entries table_t
    ≡ entry 0 8 2 ∷ entry 0 16 no_second ∷ entry 1 8 2 ∷ entry 1 16 no_second ∷ entry 2 16 no_second ∷ entry 2 20 no_second ∷ []
