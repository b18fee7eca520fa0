-- The cells of a row: the intervals between the cuts of a field, the cells of all fields, and the first of them whose least packet is in no box.
-- Assumes nothing.
use Prim.Native.Nat.{ℕ, suc, ◌-◌, ◌≤◌, ◌<◌}
use mathlib.Core.Path.{◌≡◌, refl, sym, ap, subst, ◌∙◌}
use mathlib.Core.Bool.{Bool, true, false}
use mathlib.Core.Logic.{◌↔◌, inl, inr}
use mathlib.Core.List.Memᴰ
use mathlib.Core.List.{List, [], ◌∷◌, map, Memᴰ}
use native.Mathlib.Omega.{arith}
use native.Mathlib.Decide.{dec_lt}
use lib.ListN.{length, get_or, drop, length-drop}
use Rattle.base.specs.Truths.{Decides}
use Rattle.base.specs.Lists.{Ascends}
use Rattle.policy.specs.Model.{Range, Selector, Packet, no_range}
use Rattle.policy.specs.Wellformed.{Ordered}
use Rattle.relations.specs.Ranges.{Within}
use Rattle.relations.specs.Selectors.{lows, Holds, holds}
use Rattle.covers.specs.Least.{SearchResult, found, none, ◌≤ₚ◌, done, less, same, Claimed, Least, Right}
use Rattle.base.proofs.Laws.Decides.{decides_false, decides_as, decides_or, decided}
use Rattle.base.proofs.Laws.Ascending.{one_ascends, append_ascends, map_ascends}
use Rattle.base.proofs.Laws.Lists.{length_none}
use Rattle.relations.proofs.Laws.Selectors.{holds_both, holds_first, holds_rest, not_longer, not_shorter, holds_decides, lows_in}
use Rattle.covers.proofs.Laws.Least.{EachSized, sized_member, antisym}
use Rattle.mesh.specs.Mesh.{cuts, intervals, firsts, rests, each, cells, claimed, first_free, mesh}
use Rattle.mesh.specs.Promises.{Cut, CutInEach, FirstUnclaimed, Cells}
use Rattle.mesh.proofs.Laws.Cuts.{first_least, cuts_laws, cuts_first, same_side}
use Rattle.mesh.proofs.Laws.Corners.{corner_nil, corner_both, corner_first, corner_rest}

-- ---- intervals

-- The one range begins before the other.
abbrev Earlier : Range → Range → Type 0
Earlier v w = v.low < w.low

-- No number of the list is above `high`.
abbrev UpTo : ℕ → List ℕ → Type 0
UpTo high l = (y : ℕ) → Memᴰ y l → y ≤ high

-- Of an interval between numbers up to `high`: it begins with one of them, has a number, ends at `high` or before, and has no other of them.
record Interval (high : ℕ) (l : List ℕ) (v : Range) : Type 0 where
  starts : Memᴰ v.low l
  proper : v.low ≤ v.high
  ends : v.high ≤ high
  free : (y : ℕ) → Memᴰ y l → y ≤ v.high → y ≤ v.low

-- Such is each of the intervals between ascending numbers up to `high`.
interval_of : (high : ℕ) (l : List ℕ) → Ascends ◌<◌ l → UpTo high l → (v : Range) → Memᴰ v (intervals high l)
    → Interval high l v
interval_of high [] a below v m = absurd (Memᴰ.not-nil m)
interval_of high (x ∷ []) a below v m = rw (Memᴰ.eq_of_singleton m) (record {
  starts = Memᴰ.head refl;
  proper = below x (Memᴰ.head refl);
  ends = omega arith;
  free = λ y k h. elim (Memᴰ.cases_cons k) [ inl e ↦ omega arith | inr j ↦ absurd (Memᴰ.not-nil j) ];
})
interval_of high (x ∷ y ∷ l) a below v m =
    let rest = interval_of high (y ∷ l) a.1 (λ z k. below z (Memᴰ.tail k)) v in
    let b = a.0 y (Memᴰ.head refl) in
    elim (Memᴰ.cases_cons m) [
      | inl e ↦ rw e (record {
        starts = Memᴰ.head refl;
        proper = omega arith;
        ends = omega (arith, below y (Memᴰ.tail (Memᴰ.head refl)));
        free = λ z k h. elim (Memᴰ.cases_cons k) [
          | inl e ↦ omega arith
          | inr j ↦ let c = first_least y l a.1 z j in absurd (omega arith)
        ];
      })
      | inr j ↦ let i = rest j in record {
        starts = Memᴰ.tail i.starts;
        proper = i.proper;
        ends = i.ends;
        free = λ z k h. elim (Memᴰ.cases_cons k) [ inl e ↦ omega (arith, a.0 v.low i.starts) | inr g ↦ i.free z g h ];
      }
    ]

-- The intervals ascend.
intervals_ascend : (high : ℕ) (l : List ℕ) → Ascends ◌<◌ l → UpTo high l → Ascends Earlier (intervals high l)
intervals_ascend high [] a below = tt
intervals_ascend high (x ∷ []) a below = one_ascends Earlier true (record { low = x; high = high })
intervals_ascend high (x ∷ y ∷ l) a below =
    let rest : UpTo high (y ∷ l) = λ z k. below z (Memᴰ.tail k) in (
      (λ w m. a.0 w.low (interval_of high (y ∷ l) a.1 rest w m).starts),
      intervals_ascend high (y ∷ l) a.1 rest,
    )

-- Each number from the first one up to `high` is in an interval.
intervals_cover : (high x : ℕ) (l : List ℕ) → 0 < length l → get_or l 0 0 ≤ x → x ≤ high → (v : Range) × Memᴰ v (intervals high l) × Within v x
intervals_cover high x [] b h k = absurd (omega arith)
intervals_cover high x (y ∷ []) b h k = (record { low = y; high = high }, Memᴰ.head refl, record { low = h; high = k })
intervals_cover high x (y ∷ z ∷ l) b h k = elim (dec_lt x z) [
  | yes n ↦ (record { low = y; high = z - 1 }, Memᴰ.head refl, record { low = h; high = omega arith })
  | no n ↦ let rest = intervals_cover high x (z ∷ l) (omega arith) (omega arith) k in (rest.0, Memᴰ.tail rest.1, rest.2)
]

-- ---- one field

-- The intervals into which the ranges cut r.
abbrev parts : Range → List Range → List Range
parts r qs = intervals r.high (cuts r qs)

module _ (r : Range) (qs : List Range) (o : r.low ≤ r.high) where
  -- No cut is above the range.
  below : UpTo r.high (cuts r qs)
  below y m = (((cuts_laws r qs o).exact y).0 m).inside.high

  -- Each part begins with a cut, has a number, ends in the range, and has no other cut.
  part_of : (v : Range) → Memᴰ v (parts r qs) → Interval r.high (cuts r qs) v
  part_of = interval_of r.high (cuts r qs) (cuts_laws r qs o).ascend below

  -- The parts ascend.
  parts_ascend : Ascends Earlier (parts r qs)
  parts_ascend = intervals_ascend r.high (cuts r qs) (cuts_laws r qs o).ascend below

  -- Each number of the range is in a part.
  part_with : (x : ℕ) → Within r x → (v : Range) × Memᴰ v (parts r qs) × Within v x
  part_with x w =
      let f = cuts_first r qs o in
      intervals_cover r.high x (cuts r qs) f.0 (omega (arith, w.low, f.1)) w.high

  -- Each cut begins a part.
  part_at : (x : ℕ) → Cut r qs x → (v : Range) × Memᴰ v (parts r qs) × (x ≡ v.low)
  part_at x c =
      let f = part_with x c.inside in
      let w = f.2 in
      let h = (part_of f.0 f.1).free x (((cuts_laws r qs o).exact x).1 c) w.high in
      (f.0, f.1, omega arith)

  -- Each number of a part is in the range.
  part_inside : (v : Range) (x : ℕ) → Memᴰ v (parts r qs) → Within v x → Within r x
  part_inside v x m w =
      let i = part_of v m in
      let c = (((cuts_laws r qs o).exact v.low).0 i.starts).inside.low in
      record { low = omega (arith, w.low); high = omega (arith, w.high, i.ends) }

  -- All numbers of a part are in the same of the ranges.
  part_alike : (v q : Range) (x y : ℕ) → Memᴰ v (parts r qs) → Memᴰ q qs → Within v x → Within v y → Within q x → Within q y
  part_alike v q x y m k wx wy h = (side y wy).0 ((side x wx).1 h)
    where
      side : (z : ℕ) → Within v z → Within q v.low ↔ Within q z
      side z w =
          let i = part_of v m in
          same_side r qs v.low z (part_inside v v.low m (record { low = omega arith; high = i.proper })) (part_inside v z m w) w.low
          (λ y c b. i.free y (((cuts_laws r qs o).exact y).1 c) (omega (arith, w.high)))
          q k

-- ---- each interval before each cell

-- What holds of each interval before each cell holds of all that are so made.
each_all : (P : Selector → Type 0) (vs : List Range) (cs : List Selector) → ((v : Range) (d : Selector) → Memᴰ v vs → Memᴰ d cs → P (v ∷ d))
    → (c : Selector) → Memᴰ c (each vs cs) → P c
each_all P [] cs f c m = absurd (Memᴰ.not-nil m)
each_all P (v ∷ vs) cs f c m = elim (Memᴰ.append_cases (map (λ d. v ∷ d) cs) m) [
  | inl k ↦ let h = Memᴰ.of_map (λ d. v ∷ d) cs k in subst P h.2 (f v h.0 (Memᴰ.head refl) h.1)
  | inr k ↦ each_all P vs cs (λ w d a b. f w d (Memᴰ.tail a) b) c k
]

-- And each interval before each cell is among them.
each_in : (vs : List Range) (cs : List Selector) (v : Range) (d : Selector) → Memᴰ v vs → Memᴰ d cs → Memᴰ (v ∷ d) (each vs cs)
each_in [] cs v d m k = absurd (Memᴰ.not-nil m)
each_in (w ∷ vs) cs v d m k = elim (Memᴰ.cases_cons m) [
  | inl e ↦ Memᴰ.append_left (each vs cs) (Memᴰ.cast (ap (λ u. u ∷ d) e) (Memᴰ.map (λ c. w ∷ c) k))
  | inr j ↦ Memᴰ.append_right (map (λ c. w ∷ c) cs) (each_in vs cs v d j k)
]

-- The least packet of the one is before that of the other.
abbrev Before : Selector → Selector → Type 0
Before c d = (lows c ≤ₚ lows d) × (lows c ≡ lows d → ⊥)

-- They ascend where the intervals ascend and the cells do.
each_ascends : (vs : List Range) (cs : List Selector) → Ascends Earlier vs → Ascends Before cs → Ascends Before (each vs cs)
each_ascends [] cs a b = tt
each_ascends (v ∷ vs) cs a b =
    append_ascends Before (map (λ c. v ∷ c) cs) (each vs cs)
    (map_ascends Before Before (λ c. v ∷ c) (λ c d h. (same refl h.0, λ e. h.1 (ap (drop 1) e))) cs b)
    (each_ascends vs cs a.1 b)
    (λ c d m k.
    let h = Memᴰ.of_map (λ c. v ∷ c) cs m in
    subst (λ c. Before c d) h.2
    (each_all (Before (v ∷ h.0)) vs cs (λ w e i j. (less (a.0 w i), λ p. differ v.low w.low (lows h.0) (lows e) (a.0 w i) p)) d k))
  where
    differ : (x y : ℕ) (p q : Packet) → x < y → ◌≡◌ {A = Packet} (x ∷ p) (y ∷ q) → ⊥
    differ x y p q h e = let f : x ≡ y = ap (λ l. get_or l 0 0) e in absurd (omega arith)

-- ---- the cells

-- What is left of boxes with a field more has a field less.
sized_rests : (n : ℕ) (bs : List Selector) → EachSized (suc n) bs → EachSized n (rests bs)
sized_rests n [] s = tt
sized_rests n (b ∷ bs) s = (omega (arith, length-drop 1 b, s.0), sized_rests n bs s.1)

-- Each packet of the row is in a cell.
cell_with : (s : Selector) (bs : List Selector) → Ordered s → (p : Packet) → Holds s p → (c : Selector) × Memᴰ c (cells s bs) × Holds c p
unfolding cells
cell_with [] bs o p h = ([], Memᴰ.head refl, h)
cell_with (r ∷ s) bs o [] h = absurd (not_shorter r s h)
cell_with (r ∷ s) bs o (x ∷ p) h =
    let v = part_with r (firsts bs) o.0 x (holds_first r s x p h) in
    let d = cell_with s (rests bs) o.1 p (holds_rest r s x p h) in (
      v.0 ∷ d.0,
      each_in (parts r (firsts bs)) (cells s (rests bs)) v.0 d.0 v.1 d.1,
      holds_both v.0 d.0 x p v.2 d.2,
    )

-- Each corner is the packet of the lows of a cell.
cell_at : (s : Selector) (bs : List Selector) → Ordered s → (p : Packet) → CutInEach s bs p → (c : Selector) × Memᴰ c (cells s bs) × (p ≡ lows c)
unfolding cells
cell_at [] bs o [] k = ([], Memᴰ.head refl, refl)
cell_at [] bs o (x ∷ p) k = absurd (omega (arith, k.count))
cell_at (r ∷ s) bs o [] k = absurd (omega (arith, k.count))
cell_at (r ∷ s) bs o (x ∷ p) k =
    let v = part_at r (firsts bs) o.0 x (corner_first r s bs x p k) in
    let d = cell_at s (rests bs) o.1 p (corner_rest r s bs x p k) in
    (v.0 ∷ d.0, each_in (parts r (firsts bs)) (cells s (rests bs)) v.0 d.0 v.1 d.1, cc (v.2, d.2))

-- Of a cell: no low is above its high, the lows are a corner, its packets are in the row, and all of them are in the same of the boxes.
record Cell (s : Selector) (bs : List Selector) (c : Selector) : Type 0 where
  ordered : Ordered c
  corner : CutInEach s bs (lows c)
  inside : (p : Packet) → Holds c p → Holds s p
  alike : (b : Selector) (p q : Packet) → Memᴰ b bs → Holds c p → Holds c q → Holds b p → Holds b q

-- The cell of no field.
cell_nil : (bs : List Selector) → EachSized 0 bs → Cell [] bs []
cell_nil bs n = record {
  ordered = tt;
  corner = corner_nil bs;
  inside = λ p h. h;
  alike = λ b p q m hp hq h. subst (λ d. Holds d q) (sym (length_none b (sized_member 0 bs n b m))) hq;
}

-- A part of a field before a cell of the further fields.
cell_cons : (r : Range) (s : Selector) (bs : List Selector) (o : r.low ≤ r.high) → EachSized (suc (length s)) bs → (v : Range) (d : Selector)
    → Memᴰ v (parts r (firsts bs)) → Cell s (rests bs) d → Cell (r ∷ s) bs (v ∷ d)
cell_cons r s bs o n v d i rest =
    let part = part_of r (firsts bs) o v i in
    record {
      ordered = (part.proper, rest.ordered);
      corner = corner_both r s bs v.low (lows d) (((cuts_laws r (firsts bs) o).exact v.low).0 part.starts) rest.corner;
      inside = inside;
      alike = λ b p q m. alike b p q (sized_member (suc (length s)) bs n b m) m;
    }
  where
    inside : (p : Packet) → Holds (v ∷ d) p → Holds (r ∷ s) p
    inside [] h = absurd (not_shorter v d h)
    inside (x ∷ p) h = holds_both r s x p (part_inside r (firsts bs) o v x i (holds_first v d x p h)) (rest.inside p (holds_rest v d x p h))

    alike : (b : Selector) (p q : Packet) → length b ≡ suc (length s) → Memᴰ b bs → Holds (v ∷ d) p → Holds (v ∷ d) q → Holds b p → Holds b q
    alike [] p q l m hp hq h = absurd (omega arith)
    alike (t ∷ b) [] q l m hp hq h = absurd (not_shorter v d hp)
    alike (t ∷ b) (x ∷ p) [] l m hp hq h = absurd (not_shorter v d hq)
    alike (t ∷ b) (x ∷ p) (y ∷ q) l m hp hq h =
        holds_both t b y q
        (part_alike r (firsts bs) o v t x y i (Memᴰ.map (λ c. get_or c 0 no_range) m) (holds_first v d x p hp) (holds_first v d y q hq)
        (holds_first t b x p h))
        (rest.alike b p q (Memᴰ.map (drop 1) m) (holds_rest v d x p hp) (holds_rest v d y q hq) (holds_rest t b x p h))

-- Such is each of the cells.
cell_of : (s : Selector) (bs : List Selector) → Ordered s → EachSized (length s) bs → (c : Selector) → Memᴰ c (cells s bs) → Cell s bs c
unfolding cells
cell_of [] bs o n c m = rw (Memᴰ.eq_of_singleton m) (cell_nil bs n)
cell_of (r ∷ s) bs o n c m =
    each_all (Cell (r ∷ s) bs) (parts r (firsts bs)) (cells s (rests bs))
    (λ v d i j. cell_cons r s bs o.0 n v d i (cell_of s (rests bs) o.1 (sized_rests (length s) bs n) d j))
    c m

-- The cells ascend.
cells_ascend : (s : Selector) (bs : List Selector) → Ordered s → Ascends Before (cells s bs)
unfolding cells
cells_ascend [] bs o = one_ascends Before true []
cells_ascend (r ∷ s) bs o =
    each_ascends (parts r (firsts bs)) (cells s (rests bs)) (parts_ascend r (firsts bs) o.0) (cells_ascend s (rests bs) o.1)

-- ---- the least packet

-- The packet of the lows is at most each packet of the selector.
lows_least : (c : Selector) (p : Packet) → Holds c p → lows c ≤ₚ p
lows_least [] [] h = done
lows_least [] (x ∷ p) h = absurd (not_longer x p h)
lows_least (r ∷ c) [] h = absurd (not_shorter r c h)
lows_least (r ∷ c) (x ∷ p) h =
    let w = (holds_first r c x p h).low in
    elim (dec_lt r.low x) [
      | yes k ↦ less k
      | no k ↦ let e : r.low ≡ x = omega arith in same e (lows_least c p (holds_rest r c x p h))
    ]

-- What is at most a packet that is at most another is at most the other.
packets_trans : {p q t : Packet} → p ≤ₚ q → q ≤ₚ t → p ≤ₚ t
packets_trans done done = done
packets_trans (less {x} h) (less {y = z} k) = less {x = x} {y = z} (omega arith)
packets_trans (less {x} h) (same {y = z} e k) = less {x = x} {y = z} (omega arith)
packets_trans (same {x} e h) (less {y = z} k) = less {x = x} {y = z} (omega arith)
packets_trans (same e h) (same f k) = same (e ∙ f) (packets_trans h k)

-- ---- the first cell whose least packet is in no box

-- The test says whether a box has the packet.
pub claimed_decides : (bs : List Selector) (p : Packet) → Decides (claimed bs p) (Claimed bs p)
claimed_decides [] p = decides_false (λ c. Memᴰ.not-nil c.listed)
claimed_decides (b ∷ bs) p =
    decides_as
    (λ s. elim s [
      | inl h ↦ record { box = b; listed = Memᴰ.head refl; holds = h }
      | inr c ↦ record { box = c.box; listed = Memᴰ.tail c.listed; holds = c.holds }
    ])
    (λ c. elim (Memᴰ.cases_cons c.listed) [
      | inl e ↦ inl (subst (λ d. Holds d p) e c.holds)
      | inr m ↦ inr (record { box = c.box; listed = m; holds = c.holds })
    ])
    (decides_or (holds b p) (claimed bs p) (holds_decides b p) (claimed_decides bs p))

module _ (s : Selector) (bs : List Selector) where
  -- The least packet of a cell is in it.
  lows_cell : (c : Selector) → Cell s bs c → Holds c (lows c)
  lows_cell c k = lows_in c k.ordered

  -- Where the least packet of a cell is in a box, so is each of its packets.
  claims_spread : (c : Selector) (p : Packet) → Cell s bs c → Holds c p → Claimed bs (lows c) → Claimed bs p
  claims_spread c p k h m =
      record { box = m.box; listed = m.listed; holds = k.alike m.box (lows c) p m.listed (lows_cell c k) h m.holds }

  -- Each packet of s that is in no box is in one of cs.
  abbrev Left : List Selector → Type 0
  Left cs = (p : Packet) → Holds s p → (Claimed bs p → ⊥) → (c : Selector) × Memᴰ c cs × Holds c p

  -- Where the least packet of a cell is in a box, the packets in no box are in those that follow it.
  left_further : (c : Selector) (cs : List Selector) → Cell s bs c → Left (c ∷ cs) → Claimed bs (lows c) → Left cs
  left_further c cs k left m p h n =
      let f = left p h n in
      elim (Memᴰ.cases_cons f.1) [
        | inl e ↦ absurd (n (claims_spread c p k (subst (λ d. Holds d p) e f.2) m))
        | inr j ↦ (f.0, j, f.2)
      ]

  -- Where it is in no box, it is the least that is in none.
  lows_first : (c : Selector) (cs : List Selector) → Cell s bs c → Ascends Before (c ∷ cs) → Left (c ∷ cs) → (Claimed bs (lows c) → ⊥) → Least s bs (lows c)
  lows_first c cs k a left n = record {
    inside = k.inside (lows c) (lows_cell c k);
    unclaimed = n;
    least = λ q h m.
        let f = left q h m in
        elim (Memᴰ.cases_cons f.1) [
          | inl e ↦ lows_least c q (subst (λ d. Holds d q) e f.2)
          | inr j ↦ packets_trans (a.0 f.0 j).0 (lows_least f.0 q f.2)
        ];
  }

  -- So the answer is right, of ascending cells that have all packets of s that are in no box.
  first_free_right : (cs : List Selector) → Ascends Before cs → ((c : Selector) → Memᴰ c cs → Cell s bs c) → Left cs → Right s bs (first_free bs cs)
  unfolding first_free
  first_free_right [] a cell left = λ p h.
      elim (decided (claimed bs p) (claimed_decides bs p)) [ inl c ↦ c | inr n ↦ absurd (Memᴰ.not-nil (left p h n).1) ]
  first_free_right (c ∷ cs) a cell left =
      go (claimed bs (lows c)) (claimed_decides bs (lows c)) (first_free_right cs a.1 (λ d m. cell d (Memᴰ.tail m)))
    where
      go : (t : Bool) → Decides t (Claimed bs (lows c)) → (Left cs → Right s bs (first_free bs cs))
          → Right s bs (elim t [ true ↦ first_free bs cs | false ↦ found (lows c) ])
      go true d rest = rest (left_further c cs (cell c (Memᴰ.head refl)) left (d.yes refl))
      go false d rest = lows_first c cs (cell c (Memᴰ.head refl)) a left (d.no refl)

-- ---- what is promised of a row and boxes with as many fields

module _ (s : Selector) (bs : List Selector) (o : Ordered s) (n : EachSized (length s) bs) where
  cell : (c : Selector) → Memᴰ c (cells s bs) → Cell s bs c
  cell = cell_of s bs o n

  -- The least packet of a cell is in the row,
  lows_inside : (c : Selector) → Memᴰ c (cells s bs) → Holds s (lows c)
  lows_inside c m = (cell c m).inside (lows c) (lows_cell s bs c (cell c m))

  -- and so is each corner.
  corner_inside : (p : Packet) → CutInEach s bs p → Holds s p
  corner_inside p k = let f = cell_at s bs o p k in rw f.2 (lows_inside f.0 f.1)

  -- A packet of the row that is in no box is in a cell whose least packet is in none.
  free_cell : (p : Packet) → Holds s p → (Claimed bs p → ⊥) → (c : Selector) × Memᴰ c (cells s bs) × Holds c p × (Claimed bs (lows c) → ⊥)
  free_cell p h u = let f = cell_with s bs o p h in (f.0, f.1, f.2, λ m. u (claims_spread s bs f.0 p (cell f.0 f.1) f.2 m))

  -- So the least packet of the row that is in no box is a corner, and a right answer is the first corner that is in none.
  right_first : (a : SearchResult) → Right s bs a → FirstUnclaimed s bs a
  right_first (found p) m =
      let f = free_cell p m.inside m.unclaimed in
      let e : p ≡ lows f.0 = antisym (m.least (lows f.0) (lows_inside f.0 f.1) f.3) (lows_least f.0 p f.2) in
      (rw e (cell f.0 f.1).corner, m.unclaimed, λ q k. m.least q (corner_inside q k))
  right_first none m = λ q k. m q (corner_inside q k)

  mesh_right : Right s bs (mesh s bs)
  unfolding mesh
  mesh_right = first_free_right s bs (cells s bs) (cells_ascend s bs o) cell (λ p h m. cell_with s bs o p h)

  -- All that is promised of the cells.
  pub cells_laws : Cells s bs
  cells_laws = record {
    whole = λ p. (cell_with s bs o p, λ h. (cell h.0 h.1).inside p h.2);
    alike = λ c b p q m. (cell c m).alike b p q;
    least = λ c m. (lows_cell s bs c (cell c m), lows_least c);
    corners = λ p. (λ h. rw h.2 (cell h.0 h.1).corner, cell_at s bs o p);
    ascend = cells_ascend s bs o;
    decides = (
      λ h. let f = free_cell h.0 h.1 h.2 in (f.0, f.1, f.3),
      λ h. (lows h.0, lows_inside h.0 h.1, h.2),
    );
    first = right_first (mesh s bs) mesh_right;
    right = mesh_right;
  }
