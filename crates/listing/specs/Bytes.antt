-- Document 01, List: "writes three bytes an entry (first row, kind, second number) in ascending order .., and returns the count. .. The rest
-- of the buffer is unchanged." Those of filters have filter numbers.
-- Assumes nothing.
use Rattle.std.specs.Prelude.{ℕ, ◌+◌, ◌*◌, ◌≤◌, ◌≡◌, List, [], ◌∷◌, length, Result}
use Rattle.std.proofs.lemmas.List.Edits.{sets}
use Rattle.base.specs.Outputs.{WritesCounted}
use Rattle.base.specs.declared.Short.{Short}
use Rattle.kinds.specs.Entries.{Entry, most_entries}
use Rattle.listing.specs.declared.put.Writer.{Writer}

-- "three bytes an entry"
abbrev pub entry_bytes : ℕ
entry_bytes = 3

-- 41,376 bytes
abbrev pub list_bytes : ℕ
list_bytes = entry_bytes * most_entries

unfoldable pub bytes : List Entry → List ℕ
bytes [] = []
bytes (e ∷ es) = e.first ∷ e.kind ∷ e.second ∷ bytes es

-- What becomes of the buffer, and what is answered.
abbrev pub Listing : List Entry → (before after : List ℕ) → Result ℕ Short → Type 0
Listing es before after r = WritesCounted (length es) (bytes es) before after r

-- A buffer of `size` bytes has room for n entries, and es after them.
abbrev pub Room : ℕ → ℕ → List Entry → Type 0
Room size n es = entry_bytes * (n + length es) ≤ size

-- The entries es are written after n others, and there are m then.
pub record Put (before : List ℕ) (n : ℕ) (after : List ℕ) (m : ℕ) (es : List Entry) : Type 0 where
  pub stored : after ≡ sets before (entry_bytes * n) (bytes es)
  pub count : m ≡ n + length es

-- The same by the code's writer, which holds its buffer still.
pub record Appends (before after : Writer) (es : List Entry) : Type 0 where
  pub buffer : after.out.ghost_name ≡ before.out.ghost_name
  pub put : Put before.out.now before.n after.out.now after.n es
