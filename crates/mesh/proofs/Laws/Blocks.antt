-- Blocks of cells: which of two cells is earlier, a block cut in two, boxes that have a whole block, and how many intervals a block has.
-- Assumes nothing.
use Prim.Native.Nat.{ℕ, zero, suc, ◌+◌, ◌-◌, ◌^◌, ◌≤◌, ◌<◌}
use mathlib.Core.Path.{◌≡◌, refl, sym, subst, ◌∙◌}
use mathlib.Core.Logic.{◌⊎◌, inl, inr}
use mathlib.Core.List.{List}
use native.Mathlib.Decide.{dec_lt}
use native.Mathlib.Omega.{arith}
use lib.Count.{count_trailing_zeros}
use lib.Dec.{eqb}
use lib.ListN.{length, set, length-set}
use lib.Seq.{get_or-set_same, get_or-set_other}
use Rattle.std.specs.Prelude.{Option, Some, None}
use Rattle.base.proofs.Laws.Bits.{first_bit, within_marked}
use Rattle.base.proofs.Laws.Firsts.{below_more}
use Rattle.base.proofs.Laws.Decides.{decides_eqb, decided}
use Rattle.policy.specs.Limits.{field_count}
use Rattle.covers.specs.Sets.{In}
use Rattle.mesh.specs.Views.{most_cuts, set_at}
use Rattle.mesh.proofs.Laws.Loops.{SameBefore}
use Rattle.mesh.specs.Blocks.{at, Free, Inside, IsBlock, HasCell, Earlier, Before, Better, First, GoOn, Holding}

-- ---- which cell is earlier

pub earlier_trans : {c d e : List ℕ} → Earlier c d → Earlier d e → Earlier c e
earlier_trans {c} {d} {e} a b = elim (dec_lt a.field b.field) [
  | yes h ↦ record {
    field = a.field;
    known = a.known;
    less = omega (arith, a.less, b.same a.field h);
    same = λ f l. a.same f l ∙ b.same f (omega arith);
  }
  | no h ↦ record { field = b.field; known = b.known; less = later h; same = λ f l. a.same f (omega arith) ∙ b.same f l }
]
  where
    later : (a.field < b.field → ⊥) → at c b.field < at e b.field
    later h = elim (dec_lt b.field a.field) [
      | yes k ↦ omega (arith, a.same b.field k, b.less)
      | no k ↦
          let q : a.field ≡ b.field = omega arith in
          let l : at c b.field < at d b.field = subst (λ (f : ℕ). at c f < at d f) q a.less in
          omega (arith, b.less)
    ]

-- Two cells are the same in the first n fields, or differ first in one of them.
pub differ : (c d : List ℕ) (n : ℕ) → SameBefore c d n ⊎ ((f : ℕ) × (f < n) × (at c f ≡ at d f → ⊥) × SameBefore c d f)
differ c d zero = inl (λ f l. absurd (omega arith))
differ c d (suc n) = elim (differ c d n) [
  | inr b ↦ inr (b.0, omega (arith, b.1), b.2, b.3)
  | inl s ↦ elim (decided (eqb (at c n) (at d n)) (decides_eqb (at c n) (at d n))) [
    | inl e ↦ let q : n + 1 ≡ suc n = omega arith in inl (subst (SameBefore c d) q (below_more (λ f. at c f ≡ at d f) n s e))
    | inr e ↦ inr (n, omega arith, e, s)
  ]
]

-- What is at most a cell in each field is earlier where the cell is.
pub below_earlier : (c d e : List ℕ) → ((f : ℕ) → f < field_count → at c f ≤ at d f) → Earlier d e → Earlier c e
below_earlier c d e h a = elim (differ c d a.field) [
  | inl s ↦ record {
    field = a.field;
    known = a.known;
    less = omega (arith, a.less, h a.field a.known);
    same = λ f l. s f l ∙ a.same f l;
  }
  | inr b ↦
      let k : b.0 < field_count = omega (arith, a.known, b.1) in
      record {
        field = b.0;
        known = k;
        less = let n = b.2 in omega (arith, n, h b.0 k, a.same b.0 b.1);
        same = λ f l. b.3 f l ∙ a.same f (omega (arith, b.1));
      }
]

-- The same of a cell that is earlier than the best so far, if there is one.
before_trans : {c d : List ℕ} → Earlier c d → (best : Option (List ℕ)) → Before d best → Before c best
before_trans a (Some e) b = earlier_trans a b
before_trans a None b = tt

below_before : (c d : List ℕ) → ((f : ℕ) → f < field_count → at c f ≤ at d f) → (best : Option (List ℕ)) → Before d best → Before c best
below_before c d h (Some e) b = below_earlier c d e h b
below_before c d h None b = tt

-- ---- a block whose first cell is known

-- A block whose first cell is not earlier than the best has nothing better.
pub first_late : (sets : List (List ℕ)) (lo hi : List ℕ) (best : Option (List ℕ)) → (Before lo best → ⊥) → First sets lo hi best best
first_late sets lo hi best n = record { one = inl refl; first = λ c i f e. n (below_before lo c (λ g l. (i g l).0) best e) }

-- If it is free and earlier it is the first.
pub first_own : (sets : List (List ℕ)) (lo hi : List ℕ) (best : Option (List ℕ)) → HasCell lo hi → Free sets lo → Before lo best → First sets lo hi best (Some lo)
first_own sets lo hi best b f e = record {
  one = inr (record { cell = lo; is = refl; inside = λ g l. (omega arith, b g l); free = f; before = e });
  first = λ c i g d. itself (below_earlier lo c lo (λ h l. (i h l).0) d);
}
  where
    itself : Earlier lo lo → ⊥
    itself d = let h = d.less in omega arith

-- ---- a block in which the boxes go on

module _ (sets : List (List ℕ)) (lo hi : List ℕ) (best : Option (List ℕ)) (boxes : ℕ) where
  -- Where they have all its intervals there is nothing free in it.
  pub first_held : boxes < 2 ^ 64 → (boxes ≡ 0 → ⊥) → Holding sets lo hi boxes 0 → First sets lo hi best best
  first_held small some h = record {
    one = inl refl;
    first = λ c i f e. f (count_trailing_zeros 64 boxes) (λ g l. h.all g (at c g) (omega arith) l (i g l).0 (i g l).1 (count_trailing_zeros 64 boxes) (first_bit 64 boxes small some));
  }

  -- In one field more they have all intervals of the block that ends where they do.
  pub held_next : (f e : ℕ) (short : List ℕ) → (f ≡ 0 → ⊥) → Holding sets lo hi boxes f → GoOn sets (f - 1) (at lo (f - 1)) (at hi (f - 1)) boxes e
      → at short (f - 1) ≡ e → ((j : ℕ) → (j ≡ f - 1 → ⊥) → at short j ≡ at hi j) → Holding sets lo short boxes (f - 1)
  held_next f e short z h g own others = record {
    fields = omega (arith, h.fields);
    first = h.first;
    all = λ j i l k a b m n. elim (dec_lt j f) [
      | no x ↦ h.all j i (omega arith) k a (omega (arith, others j (λ q. omega arith))) m n
      | yes x ↦
          let o : f - 1 ≡ j = omega arith in
          subst (λ (y : ℕ). at lo y ≤ i → i < at short y → In (set_at sets y i) m) o (held i m n) a b
    ];
  }
    where
      held : (i k : ℕ) → In boxes k → at lo (f - 1) ≤ i → i < at short (f - 1) → In (set_at sets (f - 1) i) k
      held i k n a b = elim (dec_lt (at lo (f - 1)) i) [
        | yes l ↦ within_marked boxes (set_at sets (f - 1) i) k (g.have i l (omega (arith, own))) n
        | no l ↦
            let p : at lo (f - 1) ≡ i = omega arith in
            subst (λ (x : ℕ). In (set_at sets (f - 1) x) k) p (h.first k n (f - 1) (omega (arith, h.fields)))
      ]

-- ---- a block cut in two

-- An interval of a cell that is set, and the others: what holds of each holds of all.
set_field : (c : List ℕ) (g e : ℕ) (P : ℕ → ℕ → Type 0) → g < length c → P g e → ((f : ℕ) → (f ≡ g → ⊥) → P f (at c f)) → (f : ℕ) → P f (at (set c g e) f)
set_field c g e P h own others f = elim (decided (eqb f g) (decides_eqb f g)) [
  | inl q ↦ subst (λ (x : ℕ). P x (at (set c g e) x)) (sym q) (subst (P g) (sym (get_or-set_same c g e 0 h)) own)
  | inr q ↦ subst (P f) (sym (get_or-set_other c g f e 0 q)) (others f q)
]

-- From interval e of field g on, and up to it.
module _ (lo hi : List ℕ) (g e : ℕ) (known : g < field_count) (long-lo : length lo ≡ field_count) (long-hi : length hi ≡ field_count)
    (above : at lo g < e) (below : e ≤ at hi g) where
  abbrev past : List ℕ
  past = set lo g e

  abbrev short : List ℕ
  short = set hi g e

  -- Both are blocks, and that up to e has a cell where the whole has one.
  pub past_block : IsBlock lo hi → IsBlock past hi
  past_block b f =
      set_field lo g e (λ f x. f < field_count → (x ≤ at hi f) × (at hi f ≤ most_cuts)) (omega arith) (λ l. (below, (b g l).1)) (λ f q. b f) f

  pub short_block : IsBlock lo hi → IsBlock lo short
  short_block b f =
      set_field hi g e (λ f x. f < field_count → (at lo f ≤ x) × (x ≤ most_cuts)) (omega arith) (λ l. (omega arith, let h = (b g l).1 in omega arith)) (λ f q. b f) f

  pub short_cell : HasCell lo hi → HasCell lo short
  short_cell b f = set_field hi g e (λ f x. f < field_count → at lo f < x) (omega arith) (λ l. above) (λ f q. b f) f

  -- A cell of the block is in the one or in the other,
  to_past : (c : List ℕ) → Inside lo hi c → e ≤ at c g → Inside past hi c
  to_past c i h f =
      set_field lo g e (λ f x. f < field_count → (x ≤ at c f) × (at c f < at hi f)) (omega arith) (λ l. (h, (i g l).1)) (λ f q. i f) f

  to_short : (c : List ℕ) → Inside lo hi c → at c g < e → Inside lo short c
  to_short c i h f =
      set_field hi g e (λ f x. f < field_count → (at lo f ≤ at c f) × (at c f < x)) (omega arith) (λ l. ((i g l).0, h)) (λ f q. i f) f

  -- and theirs are of the block.
  of_past : (c : List ℕ) → Inside past hi c → Inside lo hi c
  of_past c i f l =
      let h = set_field lo g e (λ f x. at lo f ≤ x) (omega arith) (omega arith) (λ f q. omega arith) f in
      let k = i f l in
      (omega (arith, k.0), k.1)

  of_short : (c : List ℕ) → Inside lo short c → Inside lo hi c
  of_short c i f l =
      let h = set_field hi g e (λ f x. x ≤ at hi f) (omega arith) (omega arith) (λ f q. omega arith) f in
      let k = i f l in
      (k.0, omega (arith, k.1))

  -- The first free cell of both, one after the other.
  pub first_halves : (sets : List (List ℕ)) (best r₁ r₂ : Option (List ℕ)) → First sets past hi best r₁ → First sets lo short r₁ r₂ → First sets lo hi best r₂
  first_halves sets best r₁ r₂ a b = record { one = found b.one a.one; first = none }
    where
      found : (r₂ ≡ r₁) ⊎ Better sets lo short r₁ r₂ → (r₁ ≡ best) ⊎ Better sets past hi best r₁ → (r₂ ≡ best) ⊎ Better sets lo hi best r₂
      found (inl q) (inl p) = inl (q ∙ p)
      found (inl q) (inr p) = inr (record { cell = p.cell; is = q ∙ p.is; inside = of_past p.cell p.inside; free = p.free; before = p.before })
      found (inr q) (inl p) = inr (record {
        cell = q.cell;
        is = q.is;
        inside = of_short q.cell q.inside;
        free = q.free;
        before = subst (Before q.cell) p q.before;
      })
      found (inr q) (inr p) = inr (record {
        cell = q.cell;
        is = q.is;
        inside = of_short q.cell q.inside;
        free = q.free;
        before = before_trans (subst (Before q.cell) p.is q.before) best p.before;
      })

      -- what is earlier than the last is earlier than the first
      sooner : (c : List ℕ) → (r₂ ≡ r₁) ⊎ Better sets lo short r₁ r₂ → Before c r₂ → Before c r₁
      sooner c (inl q) d = subst (Before c) q d
      sooner c (inr q) d = before_trans (subst (Before c) q.is d) r₁ q.before

      none : (c : List ℕ) → Inside lo hi c → Free sets c → Before c r₂ → ⊥
      none c i f d = elim (dec_lt (at c g) e) [
        | yes h ↦ b.first c (to_short c i h) f d
        | no h ↦ a.first c (to_past c i (omega arith)) f (sooner c b.one d)
      ]

-- ---- how many intervals a block has

-- The sum of what d says of the first n fields.
abbrev sum : (ℕ → ℕ) → ℕ → ℕ
sum d zero = 0
sum d (suc n) = sum d n + d n

sum_most : (d e : ℕ → ℕ) (n : ℕ) → ((f : ℕ) → d f ≤ e f) → sum d n ≤ sum e n
sum_most d e zero h = omega arith
sum_most d e (suc n) h = let a = sum_most d e n h in let b = h n in omega arith

sum_less : (d e : ℕ → ℕ) (n g : ℕ) → ((f : ℕ) → d f ≤ e f) → g < n → d g < e g → sum d n < sum e n
sum_less d e zero g h l k = absurd (omega arith)
sum_less d e (suc n) g h l k = elim (dec_lt g n) [
  | yes a ↦ let b = sum_less d e n g h a k in let c = h n in omega arith
  | no a ↦
      let q : g ≡ n = omega arith in
      let b : d n < e n = subst (λ (x : ℕ). d x < e x) q k in
      let c = sum_most d e n h in
      omega arith
]

unfoldable pub size : List ℕ → List ℕ → ℕ
size lo hi = sum (λ f. at hi f - at lo f) field_count

module _ (lo hi : List ℕ) (g e : ℕ) (known : g < field_count) (long-lo : length lo ≡ field_count) (long-hi : length hi ≡ field_count)
    (above : at lo g < e) (below : e ≤ at hi g) where
  -- From e on it has fewer, and up to e no more.
  pub past_size : size (set lo g e) hi < size lo hi
  unfolding size
  past_size =
      sum_less (λ f. at hi f - at (set lo g e) f) (λ f. at hi f - at lo f) field_count g
      (λ f. set_field lo g e (λ f x. at hi f - x ≤ at hi f - at lo f) (omega arith) (omega arith) (λ f q. omega arith) f) known
      (omega (arith, get_or-set_same lo g e 0 (omega arith)))

  pub short_size : size lo (set hi g e) ≤ size lo hi
  unfolding size
  short_size =
      sum_most (λ f. at (set hi g e) f - at lo f) (λ f. at hi f - at lo f) field_count
      (λ f. set_field hi g e (λ f x. x - at lo f ≤ at hi f - at lo f) (omega arith) (omega arith) (λ f q. omega arith) f)

-- ---- what the boxes leave, field by field

-- From field f on what they leave of the block is cut off: the first free cell of what is left of it, or the one found, is that of all.
pub record Cutting (sets : List (List ℕ)) (lo hi : List ℕ) (best : Option (List ℕ)) (boxes : ℕ) (short : List ℕ) (found : Option (List ℕ)) (f : ℕ) : Type 0 where
  pub long : length short ≡ field_count
  pub block : IsBlock lo short
  pub cell : HasCell lo short
  pub holding : Holding sets lo short boxes f
  pub small : size lo short ≤ size lo hi
  pub so_far : (r : Option (List ℕ)) → First sets lo short found r → First sets lo hi best r

module _ (sets : List (List ℕ)) (lo hi : List ℕ) (best : Option (List ℕ)) (boxes : ℕ) where
  pub cutting_end : (short : List ℕ) (found : Option (List ℕ)) → boxes < 2 ^ 64 → (boxes ≡ 0 → ⊥) → Cutting sets lo hi best boxes short found 0 → First sets lo hi best found
  cutting_end short found n z c = c.so_far found (first_held sets lo short found boxes n z c.holding)

  -- One field more, in which they go on to the end of the block.
  pub cutting_on : (short : List ℕ) (found : Option (List ℕ)) (f : ℕ) → (f ≡ 0 → ⊥) → Cutting sets lo hi best boxes short found f
      → GoOn sets (f - 1) (at lo (f - 1)) (at short (f - 1)) boxes (at short (f - 1)) → Cutting sets lo hi best boxes short found (f - 1)
  cutting_on short found f some c g = record {
    long = c.long;
    block = c.block;
    cell = c.cell;
    holding = held_next sets lo short found boxes f (at short (f - 1)) short some c.holding g refl (λ j q. refl);
    small = c.small;
    so_far = c.so_far;
  }

  -- One field more, in which they end before.
  module _ (short : List ℕ) (found : Option (List ℕ)) (f e : ℕ) (long : length lo ≡ field_count) (some : f ≡ 0 → ⊥) (c : Cutting sets lo hi best boxes short found f)
      (g : GoOn sets (f - 1) (at lo (f - 1)) (at short (f - 1)) boxes e) where
    known : f - 1 < field_count
    known = let h = c.holding.fields in omega (arith, some)

    pub cut_size : size (set lo (f - 1) e) short < size lo hi
    cut_size = let a = past_size lo short (f - 1) e known long c.long g.after g.most in omega (arith, c.small)

    pub cutting_next : (next : Option (List ℕ)) → First sets (set lo (f - 1) e) short found next → Cutting sets lo hi best boxes (set short (f - 1) e) next (f - 1)
    cutting_next next w = record {
      long = length-set short (f - 1) e ∙ c.long;
      block = short_block lo short (f - 1) e known long c.long g.after g.most c.block;
      cell = short_cell lo short (f - 1) e known long c.long g.after g.most c.cell;
      holding = held_next sets lo short found boxes f e (set short (f - 1) e) some c.holding g
          (get_or-set_same short (f - 1) e 0 (omega (arith, known, c.long))) (λ j q. get_or-set_other short (f - 1) j e 0 q);
      small = let a = short_size lo short (f - 1) e known long c.long g.after g.most in omega (arith, c.small);
      so_far = λ r v. c.so_far r (first_halves lo short (f - 1) e known long c.long g.after g.most sets found next r w v);
    }
