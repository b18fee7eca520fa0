-- Bytes that are written one after another from the start of an output.
-- Assumes nothing.
use Prim.Native.Nat.{ℕ, ◌+◌, ◌≤◌, ◌<◌}
use mathlib.Core.Path.{◌≡◌, refl, sym, ap, ◌∙◌}
use mathlib.Core.List.{List, [], ◌∷◌, ◌++◌, append-nil, append_assoc}
use native.Mathlib.Omega.{arith}
use lib.ListN.{length, set, length-append}
use lib.Seq.{sets, length-sets}
use Rattle.base.proofs.Laws.Lists.{sets_append}

-- Of the bytes `whole`, n stand at the output's start, and those left are to be written still.
pub record Copying (before out : List ℕ) (n : ℕ) (whole left : List ℕ) : Type 0 where
  pub done : List ℕ
  pub stored : out ≡ sets before 0 done
  pub count : n ≡ length done
  pub rest : done ++ left ≡ whole

pub copying_start : (out whole : List ℕ) → Copying out out 0 whole whole
copying_start out whole = record { done = []; stored = refl; count = refl; rest = refl }

-- Some bytes more, stored after those that stand.
pub copying_more : {before out next : List ℕ} {n m : ℕ} {whole left : List ℕ} (more : List ℕ)
    → Copying before out n whole (more ++ left) → next ≡ sets out n more → m ≡ n + length more → Copying before next m whole left
copying_more {before} {out} {next} {n} {m} {whole} {left} more g e q =
    let k = g.count in
    let z : n ≡ 0 + length g.done = omega arith in
    record {
      done = g.done ++ more;
      stored =
          e
          ∙ ap (λ (l : List ℕ). sets l n more) g.stored
          ∙ ap (λ (j : ℕ). sets (sets before 0 g.done) j more) z
          ∙ sym (sets_append before 0 g.done more);
      count = let f = length-append g.done more in omega arith;
      rest = append_assoc g.done more left ∙ g.rest;
    }

module _ {before out : List ℕ} {n : ℕ} {whole : List ℕ} where
  pub copying_room : {left : List ℕ} (c : ℕ) → Copying before out n whole (c ∷ left) → length whole ≤ length before → n < length out
  copying_room {left} c g h =
      let e = ap length g.rest in
      let f = length-append g.done (c ∷ left) in
      let k = g.count in
      let l = ap length g.stored ∙ length-sets before 0 g.done in
      omega arith

  pub copying_next : {left : List ℕ} (c : ℕ) → Copying before out n whole (c ∷ left) → Copying before (set out n c) (n + 1) whole left
  copying_next c g = copying_more (c ∷ []) g refl refl

  pub copying_end : Copying before out n whole [] → out ≡ sets before 0 whole
  copying_end g = g.stored ∙ ap (sets before 0) (sym (append-nil g.done) ∙ g.rest)
