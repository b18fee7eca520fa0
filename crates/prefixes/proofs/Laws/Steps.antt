-- Being a prefix and being in one, where addresses have one bit more:
--   in_whole, itself_in, alone_prefix: a prefix of all bits, which has one address, and that a prefix has its own
--   in_half, half_in, half_prefix: a prefix of fewer bits, which has a pair exactly when its half has it
--   raised_in, in_raised, raised_prefix: the prefix of the same bits
-- Assumes nothing.
use Prim.Native.Nat.{ℕ, suc, ◌*◌, ◌/◌, ◌^◌, ◌≤◌, ◌<◌}
use mathlib.Core.Path.{◌≡◌, refl, sym, ap, subst, ◌∙◌}
use native.Mathlib.Decide.{dec_lt}
use native.Mathlib.Omega.{arith}
use native.Mathlib.Nat.{pow-suc}
use Rattle.prefixes.specs.Prefixes.{Prefix, bit_at, IsPrefix, InPrefix, raised}
use Rattle.prefixes.proofs.Laws.Bits.{bit_before, bit_last, all_bits}

-- ---- a prefix of all bits

abbrev pub alone : ℕ → ℕ → Prefix
alone width a = record { address = a; length = width }

pub in_whole : (width : ℕ) (p : Prefix) (x : ℕ) → p.address < 2 ^ width → width ≤ p.length → InPrefix width p x → x ≡ p.address
in_whole width p x h l i = all_bits width x p.address i.address h (λ k b. i.bits k (omega arith))

pub itself_in : (width : ℕ) (p : Prefix) → p.address < 2 ^ width → InPrefix width p p.address
itself_in width p h = record { address = h; bits = λ k b. refl }

pub alone_prefix : (width a : ℕ) → a < 2 ^ width → IsPrefix width (alone width a)
alone_prefix width a h = record { address = h; length = omega arith; past = λ k l b. absurd (omega arith) }

-- ---- a prefix of fewer bits

abbrev pub half : Prefix → Prefix
half p = record { address = p.address / 2; length = p.length }

module _ (width : ℕ) (p : Prefix) (h : p.length ≤ width) where
  pub in_half : (x : ℕ) → InPrefix (suc width) p x → InPrefix width (half p) (x / 2)
  in_half x i =
      let e = pow-suc 2 width in
      record {
        address = let a = i.address in omega arith;
        bits = λ k b. sym (bit_before width x k (omega arith)) ∙ i.bits k b ∙ bit_before width p.address k (omega arith);
      }

  pub half_in : (x : ℕ) → InPrefix width (half p) (x / 2) → InPrefix (suc width) p x
  half_in x i =
      let e = pow-suc 2 width in
      record {
        address = let a = i.address in omega arith;
        bits = λ k b. bit_before width x k (omega arith) ∙ i.bits k b ∙ sym (bit_before width p.address k (omega arith));
      }

  pub half_prefix : IsPrefix (suc width) p → IsPrefix width (half p)
  half_prefix i =
      let e = pow-suc 2 width in
      record {
        address = let a = i.address in omega arith;
        length = h;
        past = λ k l b. sym (bit_before width p.address k b) ∙ i.past k l (omega arith);
      }

-- ---- the prefix of the same bits

half_raised : (p : Prefix) → half (raised 1 p) ≡ p
half_raised p = let e : p.address * 2 / 2 ≡ p.address = omega arith in λ i. record { address = e i; length = p.length }

module _ (width : ℕ) (p : Prefix) (h : p.length ≤ width) where
  pub in_raised : (x : ℕ) → InPrefix (suc width) (raised 1 p) x → InPrefix width p (x / 2)
  in_raised x i = subst (λ (q : Prefix). InPrefix width q (x / 2)) (half_raised p) (in_half width (raised 1 p) h x i)

  pub raised_in : (x : ℕ) → InPrefix width p (x / 2) → InPrefix (suc width) (raised 1 p) x
  raised_in x i = half_in width (raised 1 p) h x (subst (λ (q : Prefix). InPrefix width q (x / 2)) (sym (half_raised p)) i)

pub raised_prefix : (width : ℕ) (p : Prefix) → IsPrefix width p → IsPrefix (suc width) (raised 1 p)
raised_prefix width p i =
    let e = pow-suc 2 width in
    let d : p.address * 2 / 2 ≡ p.address = omega arith in
    record {
      address = let a = i.address in omega arith;
      length = let l = i.length in omega arith;
      past = λ k l b. elim (dec_lt k width) [
        | yes m ↦ bit_before width (p.address * 2) k m ∙ ap (λ (a : ℕ). bit_at width a k) d ∙ i.past k l m
        | no m ↦ let q : k ≡ width = omega arith in ap (bit_at (suc width) (p.address * 2)) q ∙ bit_last width (p.address * 2) ∙ omega arith
      ];
    }
