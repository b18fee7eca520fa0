-- Entries written one after another.
-- Assumes nothing.
use Prim.Native.Nat.{ℕ, suc, ◌+◌, ◌-◌, ◌*◌, ◌≤◌, ◌<◌}
use mathlib.Core.Path.{◌≡◌, refl, sym, ap, ◌∙◌}
use mathlib.Core.List.{List, [], ◌∷◌, ◌++◌, append-nil, append_assoc}
use native.Mathlib.Numerals.{add-one}
use native.Mathlib.Omega.{arith}
use lib.ListN.{length, length-append}
use lib.Seq.{sets, length-sets}
use borrow.Rule.Slice.PartMut.{put_mid}
use mathlib.Core.Bool.{Bool, true, false}
use Rattle.policy.proofs.Laws.Runs.{part_stored}
use Rattle.base.proofs.Laws.Outputs.{writes_not, writes_stored}
use Rattle.base.proofs.Laws.Lists.{sets_append}
use Rattle.kinds.specs.Entries.{Entry, entry, gather}
use Rattle.kinds.proofs.Laws.Entries.{gather_next, gather_end}
use Rattle.listing.specs.Bytes.{entry_bytes, bytes, Room, Put, Appends, Listing}
use Rattle.listing.specs.Marks.{listed_if}
use Rattle.listing.specs.declared.put.Writer.{Writer}
use Rattle.std.specs.Prelude.{Ok, Err}
use Rattle.base.specs.Outputs.{short}

pub bytes_none : bytes [] ≡ []
unfolding bytes
bytes_none = refl

pub bytes_more : (e : Entry) (es : List Entry) → bytes (e ∷ es) ≡ e.first ∷ e.kind ∷ e.second ∷ bytes es
unfolding bytes
bytes_more e es = refl

pub length_bytes : (es : List Entry) → length (bytes es) ≡ entry_bytes * length es
unfolding bytes
length_bytes [] = refl
length_bytes (e ∷ es) = let h = length_bytes es in omega arith

bytes_append : (es fs : List Entry) → bytes (es ++ fs) ≡ bytes es ++ bytes fs
unfolding bytes
bytes_append [] fs = refl
bytes_append (e ∷ es) fs = rw (bytes_append es fs) refl

pub put_none : (l : List ℕ) (n : ℕ) → Put l n l n []
unfolding bytes
put_none l n = record { stored = refl; count = omega arith }

pub put_then : {a b c : List ℕ} {n m k : ℕ} {es fs : List Entry} → Put a n b m es → Put b m c k fs → Put a n c k (es ++ fs)
put_then {a} {b} {c} {n} {m} {k} {es} {fs} p q =
    let h = length_bytes es in
    let d = p.count in
    let e : entry_bytes * m ≡ entry_bytes * n + length (bytes es) = omega arith in
    record {
      stored =
          q.stored
          ∙ ap (λ (l : List ℕ). sets l (entry_bytes * m) (bytes fs)) p.stored
          ∙ ap (λ (j : ℕ). sets (sets a (entry_bytes * n) (bytes es)) j (bytes fs)) e
          ∙ sym (ap (sets a (entry_bytes * n)) (bytes_append es fs) ∙ sets_append a (entry_bytes * n) (bytes es) (bytes fs));
      count = let f = length-append es fs in let g = q.count in omega arith;
    }

-- There is room for the first of two lists; the buffer stays as long, and has room for the second after the first.
pub room_first : (size n : ℕ) (es fs : List Entry) → Room size n (es ++ fs) → Room size n es
room_first size n es fs r = let e = length-append es fs in omega arith

module _ {a b : List ℕ} {n m : ℕ} {es : List Entry} (p : Put a n b m es) where
  pub put_long : length b ≡ length a
  put_long = ap length p.stored ∙ length-sets a (entry_bytes * n) (bytes es)

  pub room_second : (fs : List Entry) → Room (length a) n (es ++ fs) → Room (length b) m fs
  room_second fs r = let l = put_long in let c = p.count in let e = length-append es fs in omega arith

-- ---- the caller's buffer

pub listing_short : (es : List Entry) (out : List ℕ) → length out < entry_bytes * length es → Listing es out out (Err short)
listing_short es out h = writes_not (bytes es) out (omega (arith, h, length_bytes es))

-- by a writer that holds the buffer, and whatever it holds in the end is in it
pub listing_whole : {es : List Entry} {w v : Writer} {after : List ℕ} (n : ℕ) → entry_bytes * length es ≤ length w.out.now → n ≡ length es → w.n ≡ 0 → Appends w v es
    → after ≡ v.out.now → Listing es w.out.now after (Ok n)
listing_whole {es} {w} n h c z p e =
    let s = p.put.stored in
    writes_stored (bytes es) w.out.now (omega (arith, h, length_bytes es)) n c (e ∙ s ∙ ap (λ (k : ℕ). sets w.out.now (entry_bytes * k) (bytes es)) z)

-- ---- entries one after another, by a writer

-- An entry, and one that is listed where a test holds.
pub appends_one : (w v : Writer) (part : List ℕ) (k : ℕ) (e : Entry)
    → part ≡ e.first ∷ e.kind ∷ e.second ∷ [] → k ≡ entry_bytes → Room (length w.out.now) w.n (e ∷ [])
    → v.out.ghost_name ≡ w.out.ghost_name → v.out.now ≡ put_mid (entry_bytes * w.n) k w.out.now part → v.n ≡ w.n + 1 → Appends w v (e ∷ [])
unfolding bytes
appends_one w v part k e f q r g s c =
    record {
      buffer = g;
      put = record {
        stored = s ∙ part_stored (entry_bytes * w.n) k w.out.now part (e.first ∷ e.kind ∷ e.second ∷ []) f q (omega arith);
        count = c;
      };
    }

appends_none : (w : Writer) → Appends w w []
appends_none w = record { buffer = refl; put = put_none w.out.now w.n }

pub appends_then : {a b c : Writer} {es fs : List Entry} → Appends a b es → Appends b c fs → Appends a c (es ++ fs)
appends_then p q = record { buffer = q.buffer ∙ p.buffer; put = put_then p.put q.put }

pub appends_room : {a b : Writer} {es : List Entry} → Appends a b es → (fs : List Entry) → Room (length a.out.now) a.n (es ++ fs) → Room (length b.out.now) b.n fs
appends_room p fs r = room_second p.put fs r

pub appends_listed : {b : Bool} {w v : Writer} {i kind j : ℕ} → b ≡ true → Appends w v (entry i kind j ∷ []) → Appends w v (listed_if b i kind j)
appends_listed e p = rw e p

pub appends_unlisted : {b : Bool} (w : Writer) (i kind j : ℕ) → b ≡ false → Appends w w (listed_if b i kind j)
appends_unlisted w i kind j e = rw e (appends_none w)

-- Of the entries `whole` those left are to be written still.
pub record Going (before after : Writer) (whole left : List Entry) : Type 0 where
  pub done : List Entry
  pub appends : Appends before after done
  pub rest : done ++ left ≡ whole

pub going_start : (w : Writer) (whole : List Entry) → Going w w whole whole
going_start w whole = record { done = []; appends = appends_none w; rest = refl }

-- Those from k on, up to the last: one list more, and none left.
module _ (f : ℕ → List Entry) (last : ℕ) where
  abbrev pub from : ℕ → List Entry
  from k = gather (last - k) k f

  pub from_begun : (k : ℕ) → k < last → from k ≡ f k ++ from (k + 1)
  from_begun k h =
      let e : last - k ≡ suc (last - (k + 1)) = omega arith in
      ap (λ (n : ℕ). gather n k f) e ∙ gather_next f (last - (k + 1)) k ∙ ap (λ (j : ℕ). f k ++ gather (last - (k + 1)) j f) (sym (add-one k))

  pub from_none : (k : ℕ) → last ≤ k → from k ≡ []
  from_none k h = let e : last - k ≡ 0 = omega arith in ap (λ (n : ℕ). gather n k f) e ∙ gather_end f k

  module _ {before after : Writer} {whole : List Entry} (k : ℕ) where
    pub from_room : k < last → Going before after whole (from k) → Room (length before.out.now) before.n whole → Room (length after.out.now) after.n (f k)
    from_room h g r =
        let g' : Going before after whole (f k ++ from (k + 1)) = rw (from_begun k h) at g in
        room_first (length after.out.now) after.n (f k) (from (k + 1)) (appends_room g'.appends (f k ++ from (k + 1)) (rw g'.rest r))

    pub from_next : {next : Writer} → k < last → Going before after whole (from k) → Appends after next (f k) → Going before next whole (from (k + 1))
    from_next h g p =
        let g' : Going before after whole (f k ++ from (k + 1)) = rw (from_begun k h) at g in
        record {
          done = g'.done ++ f k;
          appends = appends_then g'.appends p;
          rest = append_assoc g'.done (f k) (from (k + 1)) ∙ g'.rest;
        }

    pub from_end : last ≤ k → Going before after whole (from k) → Appends before after whole
    from_end h g =
        let g' : Going before after whole [] = rw (from_none k h) at g in
        rw (sym (append-nil g'.done) ∙ g'.rest) at g'.appends
