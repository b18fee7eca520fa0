-- The cover of a row of a well-formed table: the rows whose selectors are its boxes, what it claims, how many fields its boxes have.
-- Assumes nothing.
use Prim.Native.Nat.{ℕ, ◌<◌}
use mathlib.Core.Path.{◌≡◌, refl, sym, ap, ◌∙◌}
use mathlib.Core.Bool.{Bool, ◌&&◌}
use mathlib.Core.List.{List, Memᴰ}
use native.Mathlib.Omega.{arith}
use lib.ListN.{length, take, length-take}
use lib.Seq.{get_or-take}
use Rattle.base.specs.Truths.{Decides}
use Rattle.base.proofs.Laws.Decides.{decides_as, decides_and, decides_holds}
use Rattle.base.proofs.Laws.Members.{member_at, at_member}
use Rattle.base.proofs.Laws.Passing.{passing_of, passing_in}
use Rattle.policy.specs.Model.{Selector, Packet, Row, Table, no_row, row_at, parent_of}
use Rattle.policy.specs.Wellformed.{Wellformed}
use Rattle.policy.proofs.Laws.Words.{five_ranges}
use Rattle.relations.specs.Entities.{at_or_above}
use Rattle.relations.specs.Groups.{same_group, Hides}
use Rattle.relations.proofs.Laws.Entities.{at_or_above_decides}
use Rattle.relations.proofs.Laws.Groups.{same_group_decides}
use Rattle.covers.specs.Least.{Claimed}
use Rattle.covers.specs.Covers.{covers, cover_of, cover_on, CouldCover, CoverExact}
use Rattle.covers.proofs.Laws.Least.{EachSized, sized_listed}

-- ---- the rows that could cover another

-- Of an earlier row the test says whether it could cover row i.
covers_decides : (t : Table) (j i : ℕ) → j < i → Decides (covers (parent_of t) (row_at t i) (row_at t j)) (CouldCover t j i)
unfolding covers
covers_decides t j i h =
    let up = parent_of t in
    let q = row_at t j in
    let r = row_at t i in
    decides_as (λ k. record { earlier = h; group = k.0; source = k.1.0; destination = k.1.1 })
    (λ k. (k.group, (k.source, k.destination)))
    (decides_and (same_group q r) (at_or_above up q.source r.source && at_or_above up q.destination r.destination)
    (same_group_decides q r)
    (decides_and (at_or_above up q.source r.source) (at_or_above up q.destination r.destination)
    (at_or_above_decides up q.source r.source) (at_or_above_decides up q.destination r.destination)))

module _ (t : Table) (i : ℕ) (row : i < length t.rows) where
  -- Whether a row covers row i; and the rows before it.
  abbrev test : Row → Bool
  test = covers (parent_of t) (row_at t i)

  abbrev before : List Row
  before = take i t.rows

  -- The boxes of the cover are the selectors of just the rows that could cover row i.
  pub cover_exact : CoverExact t i
  unfolding cover_of
  cover_exact b = (
    λ m.
        let h = passing_of test (λ q. q.selector) before b m in
        let k = member_at no_row h.0 before h.1 in
        let l : k.0 < i = omega (arith, k.1, length-take i t.rows) in
        let s : h.0 ≡ row_at t k.0 = sym k.2 ∙ get_or-take i t.rows k.0 no_row l in
        (k.0, (covers_decides t k.0 i l).yes (rw s at h.2), h.3 ∙ ap (λ (q : Row). q.selector) s),
    λ h.
        let j = h.0 in
        let l = h.1.earlier in
        let k = at_member no_row before j (omega (arith, length-take i t.rows)) in
        let m : Memᴰ (row_at t j) before = rw (get_or-take i t.rows j no_row l) at k in
        rw h.2 (passing_in test (λ q. q.selector) before (row_at t j) m (decides_holds _ (covers_decides t j i l) h.1)),
  )

  -- ---- what the cover claims

  -- What the cover claims an earlier row hides,
  pub claimed_hidden : (p : Packet) → Claimed (cover_on t i) p → (j : ℕ) × Hides t j i p
  claimed_hidden p c =
      let h = (cover_exact c.box).0 c.listed in
      let k = h.1 in (
        h.0,
        record { earlier = k.earlier; group = k.group; source = k.source; destination = k.destination; packet = rw h.2 at c.holds },
      )

  -- and what an earlier row hides the cover claims.
  pub hidden_claimed : (j : ℕ) (p : Packet) → Hides t j i p → Claimed (cover_on t i) p
  hidden_claimed j p h = record {
    box = (row_at t j).selector;
    listed = (cover_exact (row_at t j).selector).1
        (j, record { earlier = h.earlier; group = h.group; source = h.source; destination = h.destination }, refl);
    holds = h.packet;
  }

-- ---- the cover's boxes

module _ (t : Table) (w : Wellformed t) (i : ℕ) (row : i < length t.rows) where
  -- Every box has as many ranges as row i's selector.
  pub sized_cover : EachSized (length (row_at t i).selector) (cover_on t i)
  sized_cover = sized_listed (length (row_at t i).selector) (cover_on t i) five
    where
      five : (b : Selector) → Memᴰ b (cover_on t i) → length b ≡ length (row_at t i).selector
      five b m =
          let h = (cover_exact t i row b).0 m in
          ap length h.2
          ∙ five_ranges (w.row h.0 (omega (arith, h.1.earlier))).selector
          ∙ sym (five_ranges (w.row i row).selector)
