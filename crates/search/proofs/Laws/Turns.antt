-- The fields in another order: boxes hold the packets that they held, so that there is a packet which no box claims in one order exactly if there is in
-- another. For any number of fields; and which fields these are, of five.
-- Assumes nothing.
use Prim.Native.Nat.{ℕ, zero, suc, ◌+◌, ◌-◌, ◌%◌, ◌≤◌, ◌<◌}
use mathlib.Core.Path.{◌≡◌, refl, sym, ap, subst, ◌∙◌}
use mathlib.Core.Bool.{true, false, true≢false}
use mathlib.Core.Logic.{◌↔◌}
use mathlib.Core.List.Memᴰ
use mathlib.Core.List.{List, [], ◌∷◌, ◌++◌, append-nil, map}
use native.Mathlib.Omega.{arith}
use lib.ListN.{length, take, drop, length-take, length-drop, length-append, length-map, take-append-drop}
use lib.Seq.{take-append_seam, drop-append_seam}
use Rattle.base.specs.Truths.{Decides}
use Rattle.base.specs.Lists.{tabulate}
use Rattle.policy.specs.Limits.{field_count}
use Rattle.policy.specs.Model.{Selector, Packet}
use Rattle.policy.specs.Views.{range_in}
use Rattle.relations.specs.Selectors.{Holds}
use Rattle.relations.proofs.Laws.Selectors.{holds_both, holds_first, holds_rest, holds_nothing, not_longer, not_shorter, holds_length}
use Rattle.covers.specs.Least.{SearchResult, found, none, Claimed, Right}
use Rattle.search.specs.Search.{search}
use Rattle.covers.specs.Views.{box_at, boxes_at}
use Rattle.search.specs.Turns.{turned}
use Rattle.covers.specs.declared.Boxes.{Boxes}
use Rattle.covers.proofs.Laws.Least.{EachSized, sized_listed, sized_member}
use Rattle.search.proofs.Laws.Walks.{risen}
use Rattle.search.proofs.Laws.Agrees.{searched_right}
use Rattle.search.proofs.Laws.Levels.{boxes_of}

-- ---- lists

module _ {A : Type 0} where
  turned_length : (n : ℕ) (l : List A) → length (turned n l) ≡ length l
  unfolding turned
  turned_length n l =
      let a = length-append (drop n l) (take n l) in
      let b = length-drop n l in
      let c = length-take n l in
      omega arith

  -- Turned the rest of the way, a list is as it was.
  turned_back : (m n : ℕ) (l : List A) → m + n ≡ length l → turned m (turned n l) ≡ l
  unfolding turned
  turned_back m n l e =
      let b = length-drop n l in
      let q : m ≡ length (drop n l) = omega arith in
      ap (λ (k : ℕ). drop k (drop n l ++ take n l) ++ take k (drop n l ++ take n l)) q
      ∙ (λ i. drop-append_seam (drop n l) (take n l) i ++ take-append_seam (drop n l) (take n l) i)
      ∙ take-append-drop n l

-- ---- packets

holds_take : (n : ℕ) (s : Selector) (p : Packet) → Holds s p → Holds (take n s) (take n p)
holds_take zero s p h = holds_nothing
holds_take (suc n) [] [] h = holds_nothing
holds_take (suc n) [] (x ∷ p) h = absurd (not_longer x p h)
holds_take (suc n) (r ∷ s) [] h = absurd (not_shorter r s h)
holds_take (suc n) (r ∷ s) (x ∷ p) h = holds_both r (take n s) x (take n p) (holds_first r s x p h) (holds_take n s p (holds_rest r s x p h))

holds_drop : (n : ℕ) (s : Selector) (p : Packet) → Holds s p → Holds (drop n s) (drop n p)
holds_drop zero s p h = h
holds_drop (suc n) [] [] h = holds_nothing
holds_drop (suc n) [] (x ∷ p) h = absurd (not_longer x p h)
holds_drop (suc n) (r ∷ s) [] h = absurd (not_shorter r s h)
holds_drop (suc n) (r ∷ s) (x ∷ p) h = holds_drop n s p (holds_rest r s x p h)

holds_then : (s t : Selector) (p q : Packet) → Holds s p → Holds t q → Holds (s ++ t) (p ++ q)
holds_then [] t [] q h k = k
holds_then [] t (x ∷ p) q h k = absurd (not_longer x p h)
holds_then (r ∷ s) t [] q h k = absurd (not_shorter r s h)
holds_then (r ∷ s) t (x ∷ p) q h k = holds_both r (s ++ t) x (p ++ q) (holds_first r s x p h) (holds_then s t p q (holds_rest r s x p h) k)

holds_turned : (n : ℕ) (s : Selector) (p : Packet) → Holds s p → Holds (turned n s) (turned n p)
unfolding turned
holds_turned n s p h = holds_then (drop n s) (take n s) (drop n p) (take n p) (holds_drop n s p h) (holds_take n s p h)

-- ---- the search

map_then : {A B : Type 0} (f : A → B) (l m : List A) → map f (l ++ m) ≡ map f l ++ map f m
map_then f [] m = refl
map_then f (x ∷ l) m = λ i. f x ∷ map_then f l m i

map_taken : {A B : Type 0} (f : A → B) (n : ℕ) (l : List A) → map f (take n l) ≡ take n (map f l)
map_taken f zero l = refl
map_taken f (suc n) [] = refl
map_taken f (suc n) (x ∷ l) = λ i. f x ∷ map_taken f n l i

map_dropped : {A B : Type 0} (f : A → B) (n : ℕ) (l : List A) → map f (drop n l) ≡ drop n (map f l)
map_dropped f zero l = refl
map_dropped f (suc n) [] = refl
map_dropped f (suc n) (x ∷ l) = map_dropped f n l

map_turned : {A B : Type 0} (f : A → B) (n : ℕ) (l : List A) → map f (turned n l) ≡ turned n (map f l)
unfolding turned
map_turned f n l = map_then f (drop n l) (take n l) ∙ (λ i. map_dropped f n l i ++ map_taken f n l i)

module _ (n : ℕ) (s : Selector) (bs : List Selector) (few : n ≤ length s) (sized : EachSized (length s) bs) where
  -- the rest of the way
  abbrev m : ℕ
  m = length s - n

  back : {A : Type 0} (l : List A) → length l ≡ length s → turned m (turned n l) ≡ l
  back l e = turned_back m n l (omega arith)

  claimed_turned : (p : Packet) → Claimed bs p → Claimed (map (turned n) bs) (turned n p)
  claimed_turned p c = record { box = turned n c.box; listed = Memᴰ.map (turned n) c.listed; holds = holds_turned n c.box p c.holds }

  claimed_back : (p : Packet) → length p ≡ length s → Claimed (map (turned n) bs) (turned n p) → Claimed bs p
  claimed_back p e c =
      let i = Memᴰ.of_map (turned n) bs c.listed in
      let h : Holds (turned n i.0) (turned n p) = subst (λ (b : Selector). Holds b (turned n p)) (sym i.2) c.holds in
      record {
        box = i.0;
        listed = i.1;
        holds = rw (back i.0 (sized_member (length s) bs sized i.0 i.1), back p e) at (holds_turned m (turned n i.0) (turned n p) h);
      }

  sized_turned : EachSized (length (turned n s)) (map (turned n) bs)
  sized_turned =
      sized_listed (length (turned n s)) (map (turned n) bs)
      (λ b k.
      let i = Memᴰ.of_map (turned n) bs k in
      sym (ap length i.2) ∙ turned_length n i.0 ∙ sized_member (length s) bs sized i.0 i.1 ∙ sym (turned_length n s))

  -- what the two searches find is right
  abbrev S : Selector
  S = map risen s

  S_length : length S ≡ length s
  S_length = length-map s risen

  right : Right S bs (search s bs)
  right = searched_right s bs sized

  right_turned : Right (turned n S) (map (turned n) bs) (search (turned n s) (map (turned n) bs))
  right_turned = rw (map_turned risen n s) at (searched_right (turned n s) (map (turned n) bs) sized_turned)

  both_none : (o t : SearchResult) → Right S bs o → Right (turned n S) (map (turned n) bs) t → (t ≡ none) ↔ (o ≡ none)
  both_none none none r q = (λ e. refl, λ e. refl)
  both_none (found p) (found x) r q = (λ e. cc, λ e. cc)
  both_none (found p) none r q =
      let e = holds_length S p r.inside in
      absurd (r.unclaimed (claimed_back p (e ∙ S_length) (q (turned n p) (holds_turned n S p r.inside))))
  both_none none (found x) r q =
      let e = holds_length (turned n S) x q.inside ∙ turned_length n S ∙ S_length in
      let h : Holds S (turned m x) = rw (back S S_length) at (holds_turned m (turned n S) x q.inside) in
      let c : Claimed (map (turned n) bs) (turned n (turned m x)) = claimed_turned (turned m x) (r (turned m x) h) in
      let y : turned n (turned m x) ≡ x = turned_back n m x (omega arith) in
      absurd (q.unclaimed (subst (Claimed (map (turned n) bs)) y c))

  -- The search finds nothing in one order of the fields exactly if it finds nothing in the other.
  pub turned_none : (search (turned n s) (map (turned n) bs) ≡ none) ↔ (search s bs ≡ none)
  turned_none = both_none (search s bs) (search (turned n s) (map (turned n) bs)) right right_turned

-- Turned by 0, a list is as it was.
turned_zero : {A : Type 0} (l : List A) → turned 0 l ≡ l
unfolding turned
turned_zero l = append-nil l

-- ---- which fields these are, of five

abbrev pub fields_from : ℕ → List ℕ
fields_from lead = lead ∷ (lead + 1) % field_count ∷ (lead + 2) % field_count ∷ (lead + 3) % field_count ∷ (lead + 4) % field_count ∷ []

pub fields_turned : {A : Type 0} (g : ℕ → A) (lead : ℕ) → lead < field_count → map g (fields_from lead) ≡ turned lead (tabulate g field_count)
unfolding turned
fields_turned g zero h = refl
fields_turned g (suc zero) h = refl
fields_turned g (suc (suc zero)) h = refl
fields_turned g (suc (suc (suc zero))) h = refl
fields_turned g (suc (suc (suc (suc zero)))) h = refl
fields_turned g (suc (suc (suc (suc (suc n))))) h = absurd (omega arith)

pub boxes_turned : (bounds : List ℕ) (cover : Boxes) (lead : ℕ) → lead < field_count → boxes_of bounds cover (fields_from lead) ≡ map (turned lead) (boxes_at bounds cover 0)
boxes_turned bounds cover lead h = go (take cover.count cover.at)
  where
    go : (l : List ℕ) → map (λ k. map (range_in bounds k) (fields_from lead)) l ≡ map (turned lead) (map (box_at bounds 0) l)
    go [] = refl
    go (k ∷ l) = λ i. fields_turned (range_in bounds k) lead h i ∷ go l i

-- ---- what a walk's end tells

-- Turned by 0, the search is as it was.
pub search_unturned : (s : Selector) (bs : List Selector) → search (turned 0 s) (map (turned 0) bs) ≡ search s bs
search_unturned s bs = λ i. search (turned_zero s i) (all bs i)
  where
    all : (l : List Selector) → map (turned 0) l ≡ l
    all [] = refl
    all (b ∷ l) = λ i. turned_zero b i ∷ all l i

-- An answer t that is none exactly if P holds: with a packet P does not hold, and without one it does.
pub free_decides : {P : Type 0} (t : SearchResult) (p : Packet) → found p ≡ t → (t ≡ none) ↔ P → Decides false P
free_decides t p e i = record {
  yes = λ q. absurd (true≢false (sym q));
  no = λ q h. let d : found p ≡ none = e ∙ i.1 h in cc;
}

pub covered_decides : {P : Type 0} (t : SearchResult) → none ≡ t → (t ≡ none) ↔ P → Decides true P
covered_decides t e i = record { yes = λ q. i.0 (sym e); no = λ q. absurd (true≢false q) }
