-- Where an entry's bytes stand among those of a list of entries.
-- Assumes nothing.
use Prim.Native.Nat.{ℕ, zero, suc, ◌*◌, ◌<◌}
use mathlib.Core.Path.{◌≡◌, refl, ap, sym, subst, ◌∙◌}
use mathlib.Core.Logic.{◌↔◌}
use mathlib.Core.List.{List, [], ◌∷◌, ◌++◌, Memᴰ}
use native.Mathlib.Omega.{arith}
use lib.ListN.{length, get_or, take, drop}
use Rattle.base.proofs.Laws.Members.{Some, member_at, at_member}
use Rattle.kinds.specs.Entries.{Entry, entry}
use Rattle.listing.specs.Bytes.{entry_bytes, bytes}

abbrev no_entry : Entry
no_entry = entry 0 0 0

-- The bytes of an entry, and the entry of such bytes.
abbrev pub three_of : Entry → List ℕ
three_of e = e.first ∷ e.kind ∷ e.second ∷ []

abbrev entry_of : List ℕ → Entry
entry_of l = entry (get_or l 0 0) (get_or l 1 0) (get_or l 2 0)

-- The bytes at an entry's place.
abbrev pub three_at : List ℕ → ℕ → List ℕ
three_at l k = take entry_bytes (drop (entry_bytes * k) l)

module _ (rest : List ℕ) where
  three_at_lem : (es : List Entry) (k : ℕ) → k < length es → three_at (bytes es ++ rest) k ≡ three_of (get_or es k no_entry)
  unfolding bytes
  three_at_lem [] k h = absurd (omega arith)
  three_at_lem (e ∷ es) zero h = refl
  three_at_lem (e ∷ es) (suc k) h =
      let n : entry_bytes * suc k ≡ suc (suc (suc (entry_bytes * k))) = omega arith in
      rw n (three_at_lem es k (omega arith))

  -- An entry is in the list exactly when its bytes are at some entry's place, whatever follows the list.
  pub listed_bytes : (es : List Entry) (e : Entry) → Memᴰ e es ↔ Some (length es) (λ k. three_at (bytes es ++ rest) k ≡ three_of e)
  listed_bytes es e = (
    λ m. let p = member_at no_entry e es m in (p.0, p.1, three_at_lem es p.0 p.1 ∙ ap three_of p.2),
    λ p. subst (λ x. Memᴰ x es) (ap entry_of (sym (three_at_lem es p.0 p.1) ∙ p.2)) (at_member no_entry es p.0 p.1),
  )
