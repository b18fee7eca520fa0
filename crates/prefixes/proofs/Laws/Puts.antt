-- The bytes of prefixes in an output that is written from both ends: what is left, when stored, makes what all makes.
-- Assumes nothing.
use Prim.Native.Nat.{ℕ, suc, ◌+◌, ◌*◌, ◌-◌, ◌/◌, ◌^◌, ◌≤◌, ◌<◌}
use mathlib.Core.Path.{◌≡◌, refl, sym, ap, ◌∙◌}
use mathlib.Core.Bool.{Bool, true}
use mathlib.Core.List.{List, [], ◌∷◌, ◌++◌, map, map-append, append_assoc}
use native.Mathlib.Omega.{arith}
use native.Mathlib.Nat.{mul-add, mul-zero, mul_assoc, mul-le-mul_right, mul-le-mul_left, pow-succ', le_trans}
use lib.Dec.{leb}
use lib.ListN.{length, set, length-append, length-map}
use lib.Seq.{sets, set_comm}
use Rattle.base.specs.Truths.{bit}
use Rattle.base.proofs.Laws.Lists.{sets_append, sets_long}
use Rattle.hexlines.specs.Numbers.{number_bytes}
use Rattle.hexlines.proofs.Laws.Numbers.{length_number_bytes}
use Rattle.policy.specs.Model.{Range}
use Rattle.policy.specs.Views.{value, range_of}
use Rattle.policy.specs.declared.number.Number.{Number}
use Rattle.prefixes.specs.Prefixes.{Prefix, alone_if, raised, is_first, is_second, pairs, prefixes}
use Rattle.prefixes.specs.Bytes.{prefix_bytes, prefixes_in, Held, Room}
use Rattle.prefixes.specs.declared.Addresses.{Addresses}
use Rattle.prefixes.proofs.Laws.Lists.{length_alone, length_parts, prefixes_more}
use Rattle.prefixes.proofs.Laws.Held.{some_bit, held_pairs, prefixes_around, prefixes_left}

-- ---- two runs of stores apart from each other

module _ {A : Type 0} where
  set_apart : (l : List A) (i j : ℕ) (a : A) (vs : List A) → i < j → set (sets l j vs) i a ≡ sets (set l i a) j vs
  set_apart l i j a [] h = refl
  set_apart l i j a (v ∷ vs) h =
      set_apart (set l j v) i (suc j) a vs (omega arith)
      ∙ ap (λ (m : List A). sets m (suc j) vs) (set_comm l j i v a (λ e. omega arith))

  sets_apart : (l : List A) (i j : ℕ) (vs ws : List A) → i + length vs ≤ j → sets (sets l j ws) i vs ≡ sets (sets l i vs) j ws
  sets_apart l i j [] ws h = refl
  sets_apart l i j (v ∷ vs) ws h =
      ap (λ (m : List A). sets m (suc i) vs) (set_apart l i j v ws (omega arith))
      ∙ sets_apart (set l i v) (suc i) j vs ws (omega arith)

-- ---- the bytes of prefixes

module _ (bytes : ℕ) where
  pub length_prefix_bytes : (ps : List Prefix) → length (prefix_bytes bytes ps) ≡ (bytes + 1) * length ps
  length_prefix_bytes [] = sym (mul-zero (bytes + 1))
  length_prefix_bytes (p ∷ ps) =
      let e = length-append (number_bytes bytes p.address) (p.length ∷ prefix_bytes bytes ps) in
      let f = length_number_bytes bytes p.address in
      let g = length_prefix_bytes ps in
      let h = mul-add (bytes + 1) 1 (length ps) in
      let i : 1 + length ps ≡ suc (length ps) = omega arith in
      omega (arith, ap (λ (n : ℕ). (bytes + 1) * n) i)

  bytes_append : (ps qs : List Prefix) → prefix_bytes bytes (ps ++ qs) ≡ prefix_bytes bytes ps ++ prefix_bytes bytes qs
  bytes_append [] qs = refl
  bytes_append (p ∷ ps) qs =
      ap (λ (l : List ℕ). number_bytes bytes p.address ++ (p.length ∷ l)) (bytes_append ps qs)
      ∙ sym (append_assoc (number_bytes bytes p.address) (p.length ∷ prefix_bytes bytes ps) (prefix_bytes bytes qs))

raised_none : (ps : List Prefix) → map (raised 0) ps ≡ ps
raised_none [] = refl
raised_none (p ∷ ps) = let e : p.address * 1 ≡ p.address = omega arith in λ i. record { address = e i; length = p.length } ∷ raised_none ps i

raise : (n k : ℕ) → n * 2 * 2 ^ k ≡ n * 2 ^ suc k
raise n k = mul_assoc n 2 (2 ^ k) ∙ ap (λ (m : ℕ). n * m) (sym (pow-succ' 2 k))

raised_more : (k : ℕ) (ps : List Prefix) → map (raised k) (map (raised 1) ps) ≡ map (raised (suc k)) ps
raised_more k [] = refl
raised_more k (p ∷ ps) = λ i. record { address = raise p.address k i; length = p.length } ∷ raised_more k ps i

-- ---- written from both ends

-- How many bytes a prefix of such addresses has.
abbrev pub size : Addresses → ℕ
size whole = whole.bits / 8 + 1

-- The bytes of prefixes that were found where addresses have `bits` bits.
abbrev pub bytes_at : Addresses → ℕ → List Prefix → List ℕ
bytes_at whole bits ps = prefix_bytes (whole.bits / 8) (map (raised (whole.bits - bits)) ps)

length_bytes_at : (whole : Addresses) (bits : ℕ) (ps : List Prefix) → length (bytes_at whole bits ps) ≡ size whole * length ps
length_bytes_at whole bits ps =
    length_prefix_bytes (whole.bits / 8) (map (raised (whole.bits - bits)) ps) ∙ ap (λ (n : ℕ). size whole * n) (length-map ps (raised (whole.bits - bits)))

at_append : (whole : Addresses) (bits : ℕ) (ps qs : List Prefix) → bytes_at whole bits (ps ++ qs) ≡ bytes_at whole bits ps ++ bytes_at whole bits qs
at_append whole bits ps qs =
    ap (prefix_bytes (whole.bits / 8)) (map-append (raised (whole.bits - bits)) ps qs)
    ∙ bytes_append (whole.bits / 8) (map (raised (whole.bits - bits)) ps) (map (raised (whole.bits - bits)) qs)

-- Of the prefixes of `whole` those of `rest` are to be written still, after `from` that stand, and before those from `to` on.
pub record Left (whole rest : Addresses) (before out : List ℕ) (from to : ℕ) : Type 0 where
  pub held : Held rest
  pub shorter : rest.bits ≤ whole.bits
  pub high : value rest.range.high * 2 ^ (whole.bits - rest.bits) ≤ value whole.range.high
  pub places : to ≡ from + length (prefixes_in rest)
  pub few : to ≤ length (prefixes_in whole)
  pub stored : sets out (size whole * from) (bytes_at whole rest.bits (prefixes_in rest)) ≡ sets before 0 (prefix_bytes (whole.bits / 8) (prefixes_in whole))

pub left_start : (whole : Addresses) (out : List ℕ) → Held whole → Left whole whole out out 0 (length (prefixes_in whole))
left_start whole out h =
    let z : whole.bits - whole.bits ≡ 0 = omega arith in
    record {
      held = h;
      shorter = omega arith;
      high = let e = ap (λ (n : ℕ). value whole.range.high * 2 ^ n) z in omega arith;
      places = omega arith;
      few = omega arith;
      stored =
          ap (λ (n : ℕ). sets out n (bytes_at whole whole.bits (prefixes_in whole))) (mul-zero (size whole))
          ∙ ap (λ (n : ℕ). sets out 0 (prefix_bytes (whole.bits / 8) (map (raised n) (prefixes_in whole)))) z
          ∙ ap (λ (l : List Prefix). sets out 0 (prefix_bytes (whole.bits / 8) l)) (raised_none (prefixes_in whole));
    }

module _ {whole rest : Addresses} {before out : List ℕ} {from to : ℕ} (g : Left whole rest before out from to) where
  pub left_long : length out ≡ length before
  left_long =
      sets_long out before (size whole * from) 0 (bytes_at whole rest.bits (prefixes_in rest)) (prefix_bytes (whole.bits / 8) (prefixes_in whole)) g.stored

  pub left_fits : (n : ℕ) → n ≤ value rest.range.high → n * 2 ^ (whole.bits - rest.bits) ≤ value whole.range.high
  left_fits n h = le_trans (mul-le-mul_right (2 ^ (whole.bits - rest.bits)) h) g.high

  -- There is room for a prefix at a place before those that stand at the end, in an output as long.
  pub left_room : (there : Bool) (n : Number) (o : List ℕ) (at : ℕ) → Held whole → size whole * length (prefixes_in whole) ≤ length before → length o ≡ length before
      → (there ≡ true → value n ≤ value rest.range.high) → at + bit there ≤ to → Room there n rest.bits whole o at
  left_room there n o at h k l f a =
      let m : at + bit there ≤ length (prefixes_in whole) = let q = g.few in omega arith in
      record {
        fits = λ e. left_fits (value n) (f e);
        shorter = g.shorter;
        few = h.few;
        room = omega (arith, mul-le-mul_left (size whole) m, k, l);
      }

  -- Both ends have their place.
  pub left_ends : value rest.range.low < value rest.range.high
      → from + bit (is_second (value rest.range.low)) + bit (is_first (value rest.range.high)) ≤ to
  left_ends l =
      let b = some_bit (value rest.range.high) rest.bits (omega arith) g.held.high in
      let s : rest.bits ≡ suc (rest.bits - 1) = omega arith in
      let r = range_of rest.range in
      let e = ap (λ (n : ℕ). length (prefixes n r)) s ∙ ap length (prefixes_more (rest.bits - 1) r l) in
      omega (arith, g.places, e, length_parts (rest.bits - 1) r (prefixes (rest.bits - 1) (pairs r)))

  -- ---- both ends, and the pairs are left

  module _ (p : Addresses) (l : value rest.range.low < value rest.range.high) (e : range_of p.range ≡ pairs (range_of rest.range)) (b : p.bits + 1 ≡ rest.bits) where
    abbrev first : Bool
    first = is_second (value rest.range.low)

    abbrev last : Bool
    last = is_first (value rest.range.high)

    abbrev lowest : List Prefix
    lowest = alone_if first rest.bits (value rest.range.low)

    abbrev highest : List Prefix
    highest = alone_if last rest.bits (value rest.range.high)

    -- The prefixes are the lowest, the pairs' and the highest.
    parts : prefixes_in rest ≡ lowest ++ (map (raised 1) (prefixes_in p) ++ highest)
    parts =
        let s : suc p.bits ≡ rest.bits = omega arith in
        prefixes_around rest p g.held l e b
        ∙ ap (λ (n : ℕ). alone_if first n (value rest.range.low) ++ (map (raised 1) (prefixes_in p) ++ alone_if last n (value rest.range.high))) s

    counts : to ≡ from + bit first + length (prefixes_in p) + bit last
    counts =
        omega (arith, g.places, ap length (prefixes_around rest p g.held l e b), length_parts p.bits (range_of rest.range) (prefixes_in p))

    deeper : whole.bits - p.bits ≡ suc (whole.bits - rest.bits)
    deeper = let h = g.shorter in omega arith

    inner : bytes_at whole rest.bits (map (raised 1) (prefixes_in p)) ≡ bytes_at whole p.bits (prefixes_in p)
    inner =
        ap (prefix_bytes (whole.bits / 8))
        (raised_more (whole.bits - rest.bits) (prefixes_in p) ∙ ap (λ (n : ℕ). map (raised n) (prefixes_in p)) (sym deeper))

    split : bytes_at whole rest.bits (prefixes_in rest)
        ≡ bytes_at whole rest.bits lowest ++ (bytes_at whole p.bits (prefixes_in p) ++ bytes_at whole rest.bits highest)
    split =
        ap (bytes_at whole rest.bits) parts
        ∙ at_append whole rest.bits lowest (map (raised 1) (prefixes_in p) ++ highest)
        ∙ ap (λ (m : List ℕ). bytes_at whole rest.bits lowest ++ m)
        (at_append whole rest.bits (map (raised 1) (prefixes_in p)) highest ∙ ap (λ (m : List ℕ). m ++ bytes_at whole rest.bits highest) inner)

    -- The places of the pairs' bytes and of the highest's.
    pairs_place : size whole * (from + bit first) ≡ size whole * from + length (bytes_at whole rest.bits lowest)
    pairs_place =
        mul-add (size whole) from (bit first)
        ∙ ap (λ (n : ℕ). size whole * from + n)
        (sym (length_bytes_at whole rest.bits lowest ∙ ap (λ (n : ℕ). size whole * n) (length_alone first rest.bits (value rest.range.low))))

    last_place : size whole * (to - bit last) ≡ size whole * (from + bit first) + length (bytes_at whole p.bits (prefixes_in p))
    last_place =
        let c : to - bit last ≡ from + bit first + length (prefixes_in p) = let h = counts in omega arith in
        ap (λ (n : ℕ). size whole * n) c
        ∙ mul-add (size whole) (from + bit first) (length (prefixes_in p))
        ∙ ap (λ (n : ℕ). size whole * (from + bit first) + n) (sym (length_bytes_at whole p.bits (prefixes_in p)))

    pub left_pairs : (mid after : List ℕ) → mid ≡ sets out (size whole * from) (bytes_at whole rest.bits lowest)
        → after ≡ sets mid (size whole * (to - bit last)) (bytes_at whole rest.bits highest) → Left whole p before after (from + bit first) (to - bit last)
    left_pairs mid after m a =
        let ls = bytes_at whole rest.bits lowest in
        let ps = bytes_at whole p.bits (prefixes_in p) in
        let hs = bytes_at whole rest.bits highest in
        let low = size whole * from in
        record {
          held = held_pairs rest p g.held l e b;
          shorter = let h = g.shorter in omega arith;
          high =
              let q = ap (λ (r : Range). r.high) e in
              let h = left_fits (value p.range.high * 2) (omega (arith, q, l)) in
              omega (arith, h, raise (value p.range.high) (whole.bits - rest.bits), ap (λ (n : ℕ). value p.range.high * 2 ^ n) deeper);
          places = let c = counts in omega arith;
          few = let f = g.few in omega arith;
          stored =
              ap (λ (o : List ℕ). sets o (size whole * (from + bit first)) ps) a
              ∙ sets_apart mid (size whole * (from + bit first)) (size whole * (to - bit last)) ps hs (omega (arith, last_place))
              ∙ ap (λ (n : ℕ). sets (sets mid (size whole * (from + bit first)) ps) n hs) last_place
              ∙ sym (sets_append mid (size whole * (from + bit first)) ps hs)
              ∙ (λ i. sets (m i) (pairs_place i) (ps ++ hs))
              ∙ sym (sets_append out low ls (ps ++ hs))
              ∙ ap (sets out low) (sym split)
              ∙ g.stored;
        }

  -- ---- one address at most

  pub left_last : (after : List ℕ) → value rest.range.high ≤ value rest.range.low
      → after ≡ sets out (size whole * from) (bytes_at whole rest.bits (alone_if (leb (value rest.range.low) (value rest.range.high)) rest.bits (value rest.range.low)))
      → after ≡ sets before 0 (prefix_bytes (whole.bits / 8) (prefixes_in whole))
  left_last after h e = e ∙ ap (λ (l : List Prefix). sets out (size whole * from) (bytes_at whole rest.bits l)) (sym (prefixes_left rest h)) ∙ g.stored
