-- Laws of a list that is given by what stands at each place: its length, what stands at a place, that it goes by its places
-- alone, one place more, and that a list is such a list of its own elements. Laws of what stands at a place: that below the
-- length it does not go by the default, of a thing that is repeated, after a store at the place that follows those filled, and after a run
-- of stores, outside the run, in it, and what holds at every place. Two runs of stores, one after the other, and the length of what they are made to. A map, and the first of a
-- list, place by place. A list of no length.
-- Assumes nothing.
use mathlib.Core.Path.{◌≡◌, refl, sym, ap, subst, ◌∙◌}
use mathlib.Core.List.{List, [], ◌∷◌, ◌++◌, map}
use Prim.Native.Nat.{ℕ, zero, suc, ◌+◌, ◌-◌, ◌≤◌, ◌<◌}
use native.Mathlib.Nat.{add-zero}
use native.Mathlib.Numerals.{add-one}
use native.Mathlib.Decide.{dec_lt}
use native.Mathlib.Omega.{arith}
use lib.ListN.{length, get_or, take, set, replicate, length-set}
use lib.Seq.{sets, length-sets, length-take-le, get_or-take, get_or-set_same, get_or-set_other}
use Rattle.base.specs.Lists.{tabulate_from, tabulate}

module _ {A : Type 0} where
  length_from : (f : ℕ → A) (i n : ℕ) → length (tabulate_from f i n) ≡ n
  length_from f i zero = refl
  length_from f i (suc n) = ap suc (length_from f (suc i) n)

  pub length_tabulate : (f : ℕ → A) (n : ℕ) → length (tabulate f n) ≡ n
  length_tabulate f n = length_from f 0 n

  get_d_from : (f : ℕ → A) (i n k : ℕ) (d : A) → k < n → get_or (tabulate_from f i n) k d ≡ f (i + k)
  get_d_from f i zero k d h = absurd (omega arith)
  get_d_from f i (suc n) zero d h = rw add-zero
  get_d_from f i (suc n) (suc k) d h =
      let e : suc i + k ≡ i + suc k = omega arith in
      get_d_from f (suc i) n k d (omega arith) ∙ ap f e

  pub get_d_tabulate : (f : ℕ → A) (n k : ℕ) (d : A) → k < n → get_or (tabulate f n) k d ≡ f k
  get_d_tabulate f n k d h = let e : 0 + k ≡ k = omega arith in get_d_from f 0 n k d h ∙ ap f e

  from_same : (f g : ℕ → A) (i n : ℕ) → ((k : ℕ) → i ≤ k → k < i + n → f k ≡ g k) → tabulate_from f i n ≡ tabulate_from g i n
  from_same f g i zero h = refl
  from_same f g i (suc n) h =
      rw (h i (omega arith) (omega arith))
      (ap (λ l. g i ∷ l) (from_same f g (suc i) n (λ k a b. h k (omega arith) (omega arith))))

  pub tabulate_same : (f g : ℕ → A) (n : ℕ) → ((k : ℕ) → k < n → f k ≡ g k) → tabulate f n ≡ tabulate g n
  tabulate_same f g n h = from_same f g 0 n (λ k a b. h k (omega arith))

  from_more : (f : ℕ → A) (i n : ℕ) → tabulate_from f i (suc n) ≡ tabulate_from f i n ++ (f (i + n) ∷ [])
  from_more f i zero = rw add-zero
  from_more f i (suc n) =
      let e : suc i + n ≡ i + suc n = omega arith in
      ap (λ l. f i ∷ l) (from_more f (suc i) n ∙ ap (λ k. tabulate_from f (suc i) n ++ (f k ∷ [])) e)

  pub tabulate_more : (f : ℕ → A) (n : ℕ) → tabulate f (suc n) ≡ tabulate f n ++ (f n ∷ [])
  tabulate_more f n =
      let e : 0 + n ≡ n = omega arith in
      from_more f 0 n ∙ ap (λ k. tabulate f n ++ (f k ∷ [])) e

  -- one place more, where the places before it may be given in another way
  pub tabulate_grown : (f g : ℕ → A) (n : ℕ) (x : A) → ((k : ℕ) → k < n → f k ≡ g k) → f n ≡ x → tabulate f (n + 1) ≡ tabulate g n ++ (x ∷ [])
  tabulate_grown f g n x h e = rw (add-one, tabulate_more, tabulate_same f g n h, e)

  from_list : (f : ℕ → A) (i : ℕ) (l : List A) (d : A) → ((k : ℕ) → k < length l → f (i + k) ≡ get_or l k d) → tabulate_from f i (length l) ≡ l
  from_list f i [] d h = refl
  from_list f i (x ∷ l) d h =
      let e : f i ≡ x = ap f (sym (add-zero i)) ∙ h 0 (omega arith) in
      rw e
      (ap (λ m. x ∷ m)
      (from_list f (suc i) l d
      (λ k b. let j : suc i + k ≡ i + suc k = omega arith in ap f j ∙ h (suc k) (omega arith))))

  pub tabulate_list : (f : ℕ → A) (l : List A) (d : A) → ((k : ℕ) → k < length l → f k ≡ get_or l k d) → tabulate f (length l) ≡ l
  tabulate_list f l d h = from_list f 0 l d (λ k b. let e : 0 + k ≡ k = omega arith in ap f e ∙ h k b)

  -- the same, where the list's length is known by an equation
  pub tabulate_counted : (f : ℕ → A) (n : ℕ) (l : List A) (d : A) → length l ≡ n → ((k : ℕ) → k < n → f k ≡ get_or l k d) → tabulate f n ≡ l
  tabulate_counted f n l d e h = subst (λ m. tabulate f m ≡ l) e (tabulate_list f l d (λ k b. h k (omega arith)))

  -- ---- what stands at a place

  pub get_d_default : (l : List A) (k : ℕ) (d e : A) → k < length l → get_or l k d ≡ get_or l k e
  get_d_default [] k d e h = absurd (omega arith)
  get_d_default (x ∷ l) zero d e h = refl
  get_d_default (x ∷ l) (suc k) d e h = get_d_default l k d e (omega arith)

  -- the default is what is repeated, so that it stands past the end too
  pub get_d_replicated : (n : ℕ) (a : A) (k : ℕ) → get_or (replicate n a) k a ≡ a
  get_d_replicated zero a k = refl
  get_d_replicated (suc n) a zero = refl
  get_d_replicated (suc n) a (suc k) = get_d_replicated n a k

  -- At the first n places stands what f says; then it does at one place more.
  pub filled_more : (d : A) (f : ℕ → A) (l : List A) (n : ℕ) (x : A) → n < length l → ((k : ℕ) → k < n → get_or l k d ≡ f k) → x ≡ f n
      → (k : ℕ) → k < n + 1 → get_or (set l n x) k d ≡ f k
  filled_more d f l n x h filled e k b =
      elim (dec_lt k n) [
        | yes m ↦ get_or-set_other l n k x d (λ q. absurd (omega arith)) ∙ filled k m
        | no m ↦ let q : k ≡ n = omega arith in rw q (get_or-set_same l n x d h ∙ e)
      ]

  pub sets_append : (l : List A) (i : ℕ) (vs ws : List A) → sets l i (vs ++ ws) ≡ sets (sets l i vs) (i + length vs) ws
  sets_append l i [] ws = let e : i + 0 ≡ i = omega arith in ap (λ (k : ℕ). sets l k ws) (sym e)
  sets_append l i (v ∷ vs) ws =
      let e : suc i + length vs ≡ i + suc (length vs) = omega arith in
      sets_append (set l i v) (suc i) vs ws ∙ ap (λ (k : ℕ). sets (sets (set l i v) (suc i) vs) k ws) e

  -- What is stored after something else is stored with it.
  pub sets_after : (before : List A) {mid after : List A} (i : ℕ) (vs ws : List A) {k : ℕ} → mid ≡ sets before i vs → after ≡ sets mid k ws → k ≡ i + length vs
      → after ≡ sets before i (vs ++ ws)
  sets_after before {mid} {after} i vs ws {k} e f h =
      f ∙ (λ j. sets (e j) (h j) ws) ∙ sym (sets_append before i vs ws)

  -- What becomes the same by stores is as long.
  pub sets_long : (l m : List A) (i j : ℕ) (vs ws : List A) → sets l i vs ≡ sets m j ws → length l ≡ length m
  sets_long l m i j vs ws e = sym (length-sets l i vs) ∙ ap length e ∙ length-sets m j ws

  pub get_d_sets_outside : (l : List A) (i : ℕ) (vs : List A) (k : ℕ) (d : A) → ((c : ℕ) → c < length vs → k ≡ i + c → ⊥) → get_or (sets l i vs) k d ≡ get_or l k d
  get_d_sets_outside l i [] k d h = refl
  get_d_sets_outside l i (a ∷ vs) k d h =
      get_d_sets_outside (set l i a) (suc i) vs k d (λ c b e. h (suc c) (omega arith) (omega arith))
      ∙ get_or-set_other l i k a d (λ e. h 0 (omega arith) (omega arith))

  pub get_d_sets_inside : (l : List A) (i : ℕ) (vs : List A) (c : ℕ) (d : A) → i + length vs ≤ length l → c < length vs → get_or (sets l i vs) (i + c) d ≡ get_or vs c d
  get_d_sets_inside l i [] c d h b = absurd (omega arith)
  get_d_sets_inside l i (a ∷ vs) zero d h b =
      rw (add-zero, get_d_sets_outside (set l i a) (suc i) vs i d (λ c b e. omega arith)) (get_or-set_same l i a d (omega arith))
  get_d_sets_inside l i (a ∷ vs) (suc c) d h b =
      let e : i + suc c ≡ suc i + c = omega arith in
      rw e (get_d_sets_inside (set l i a) (suc i) vs c d (omega (arith, length-set l i a)) (omega arith))

  -- Where the list has a property at every place, and what is stored in it has it too, so has the list then.
  pub sets_keep : (P : A → Type 0) (d : A) (l : List A) (i : ℕ) (vs : List A) → i + length vs ≤ length l → ((k : ℕ) → P (get_or l k d))
      → ((k : ℕ) → k < length vs → P (get_or vs k d)) → (k : ℕ) → P (get_or (sets l i vs) k d)
  sets_keep P d l i vs room old new k =
      elim (dec_lt k i) [
        | yes b ↦ rw (get_d_sets_outside l i vs k d (λ c f e. omega arith)) (old k)
        | no b ↦ elim (dec_lt k (i + length vs)) [
          | yes f ↦
              let e : k ≡ i + (k - i) = omega arith in
              subst (λ (x : ℕ). P (get_or (sets l i vs) x d)) (sym e) (rw (get_d_sets_inside l i vs (k - i) d room (omega arith)) (new (k - i) (omega arith)))
          | no f ↦ rw (get_d_sets_outside l i vs k d (λ c g e. omega arith)) (old k)
        ]
      ]

module _ {A B : Type 0} where
  map_from : (g : A → B) (f : ℕ → A) (i n : ℕ) → map g (tabulate_from f i n) ≡ tabulate_from (λ k. g (f k)) i n
  map_from g f i zero = refl
  map_from g f i (suc n) = ap (λ l. g (f i) ∷ l) (map_from g f (suc i) n)

  pub map_tabulate : (g : A → B) (f : ℕ → A) (n : ℕ) → map g (tabulate f n) ≡ tabulate (λ k. g (f k)) n
  map_tabulate g f n = map_from g f 0 n

pub tabulate_take : (l : List ℕ) (n : ℕ) → n ≤ length l → tabulate (λ k. get_or l k 0) n ≡ take n l
tabulate_take l n h =
    tabulate_counted (λ k. get_or l k 0) n (take n l) 0 (length-take-le n l h) (λ k b. sym (get_or-take n l k 0 b))

pub length_none : {A : Type 0} (l : List A) → length l ≡ 0 → l ≡ []
length_none [] h = refl
length_none (x ∷ l) h = absurd (omega arith)
