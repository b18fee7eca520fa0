-- Laws of the numbers that pass a test: one number more; that they ascend, and are all of those looked at that pass.
-- Assumes nothing.
use Prim.Native.Nat.{ℕ, zero, suc, ◌+◌, ◌≤◌, ◌<◌}
use mathlib.Core.Path.{◌≡◌, refl, sym, ◌∙◌}
use mathlib.Core.Bool.{Bool, true, false, true≢false}
use mathlib.Core.List.{List, [], ◌∷◌}
use native.Mathlib.Decide.{dec_lt}
use native.Mathlib.Omega.{arith}
use lib.ListN.{length, get_or}
use Rattle.base.specs.Truths.{pick}
use Rattle.base.specs.Lists.{numbers_from}

module _ (test : ℕ → Bool) where
  -- ---- one number more

  pub number_next : (n k : ℕ) → numbers_from test (suc n) k ≡ pick (test k) (k ∷ numbers_from test n (suc k)) (numbers_from test n (suc k))
  unfolding numbers_from
  number_next n k = go (test k) refl
    where
      go : (b : Bool) → test k ≡ b → numbers_from test (suc n) k ≡ pick b (k ∷ numbers_from test n (suc k)) (numbers_from test n (suc k))
      go true e = rw (e, numbers_from)
      go false e = rw (e, numbers_from)

  pub numbers_end : (k : ℕ) → numbers_from test 0 k ≡ []
  unfolding numbers_from
  numbers_end k = refl

  -- ---- which they are

  -- The numbers ks are those of n from k on that pass: they ascend, lie there, pass, and are all such.
  pub record Numbers (n k : ℕ) (ks : List ℕ) : Type 0 where
    pub few : length ks ≤ n
    pub ascending : (j m : ℕ) → j < m → m < length ks → get_or ks j 0 < get_or ks m 0
    pub low : (m : ℕ) → m < length ks → k ≤ get_or ks m 0
    pub high : (m : ℕ) → m < length ks → get_or ks m 0 < k + n
    pub pass : (m : ℕ) → m < length ks → test (get_or ks m 0) ≡ true
    pub all : (i : ℕ) → k ≤ i → i < k + n → test i ≡ true → (m : ℕ) × (m < length ks) × (get_or ks m 0 ≡ i)

  none : (k : ℕ) → Numbers 0 k []
  none k =
      record {
        few = omega arith;
        ascending = λ j m a b. absurd (omega arith);
        low = λ m b. absurd (omega arith);
        high = λ m b. absurd (omega arith);
        pass = λ m b. absurd (omega arith);
        all = λ i a b e. absurd (omega arith);
      }

  skipped : (n k : ℕ) (ks : List ℕ) → test k ≡ false → Numbers n (suc k) ks → Numbers (suc n) k ks
  skipped n k ks d r =
      record {
        few = omega (arith, r.few);
        ascending = r.ascending;
        low = λ m b. omega (arith, r.low m b);
        high = λ m b. omega (arith, r.high m b);
        pass = r.pass;
        all = λ i a b e. elim (dec_lt k i) [
          | yes l ↦ r.all i l (omega arith) e
          | no l ↦ let q : k ≡ i = omega arith in absurd (true≢false (sym e ∙ rw (← q) d))
        ];
      }

  added : (n k : ℕ) (ks : List ℕ) → test k ≡ true → Numbers n (suc k) ks → Numbers (suc n) k (k ∷ ks)
  added n k ks d r =
      record { few = omega (arith, r.few); ascending = ascending; low = low; high = high; pass = pass; all = all }
    where
      ascending : (j m : ℕ) → j < m → m < length (k ∷ ks) → get_or (k ∷ ks) j 0 < get_or (k ∷ ks) m 0
      ascending j zero a b = absurd (omega arith)
      ascending zero (suc m) a b = r.low m (omega arith)
      ascending (suc j) (suc m) a b = r.ascending j m (omega arith) (omega arith)

      low : (m : ℕ) → m < length (k ∷ ks) → k ≤ get_or (k ∷ ks) m 0
      low zero b = omega arith
      low (suc m) b = omega (arith, r.low m (omega arith))

      high : (m : ℕ) → m < length (k ∷ ks) → get_or (k ∷ ks) m 0 < k + suc n
      high zero b = omega arith
      high (suc m) b = omega (arith, r.high m (omega arith))

      pass : (m : ℕ) → m < length (k ∷ ks) → test (get_or (k ∷ ks) m 0) ≡ true
      pass zero b = d
      pass (suc m) b = r.pass m (omega arith)

      all : (i : ℕ) → k ≤ i → i < k + suc n → test i ≡ true → (m : ℕ) × (m < length (k ∷ ks)) × (get_or (k ∷ ks) m 0 ≡ i)
      all i a b e =
          elim (dec_lt k i) [
            | yes l ↦ let h = r.all i l (omega arith) e in (suc h.0, omega (arith, h.1), h.2)
            | no l ↦ (0, omega arith, omega arith)
          ]

  pub numbers : (n k : ℕ) → Numbers n k (numbers_from test n k)
  numbers zero k = rw (numbers_end k) (none k)
  numbers (suc n) k = go (test k) refl (numbers n (suc k))
    where
      go : (c : Bool) → test k ≡ c → Numbers n (suc k) (numbers_from test n (suc k)) → Numbers (suc n) k (numbers_from test (suc n) k)
      go true e r = rw (number_next n k, e) (added n k (numbers_from test n (suc k)) e r)
      go false e r = rw (number_next n k, e) (skipped n k (numbers_from test n (suc k)) e r)
