-- What holds of everything that has been read so far:
--   NoneLater, Early, Sequenced, early, whole: what has been read stands in its place of the sequence, before the floor or after it
--   Growing, growing_start, growing_nothing: besides, each thing that has been read keeps its rules
--   no_floor, few_so_far, few_lines: before the sixth cap there is no floor; how many entities and lines there are at most
--   Lawful: what a kind of frame owes, so that what has been read with it keeps them
-- Assumes nothing.
use Prim.Native.Nat.{ℕ, suc, ◌<◌, ◌≤◌}
use mathlib.Core.Path.{◌≡◌, refl}
use mathlib.Core.Bool.{true}
use mathlib.Core.List.{List, []}
use native.Mathlib.Omega.{arith}
use lib.ListN.{length, get_or}
use Rattle.base.specs.Checks.{refusal}
use Rattle.base.proofs.Laws.Checks.{Numbered, Rising}
use Rattle.hexlines.specs.Lines.{bytes_of}
use Rattle.policy.specs.Limits.{most_entities, technologies}
use Rattle.policy.specs.Model.{Table, no_filter, row_at}
use Rattle.policy.specs.Wellformed.{EntityRule, IsEntity, CoefficientsRule, FilterRule, RowRule, Counts}
use Rattle.frames.specs.Refusals.{out_of_sequence, last_of_text}
use Rattle.frames.specs.Progress.{Progress, nothing, lines_read, FrameKind}
use Rattle.frames.proofs.Laws.Claims.{Judges}

-- ---- what has been read

-- There is nothing of what follows the floor.
abbrev pub NoneLater : Table → Type 0
NoneLater t = (length t.filters ≡ 0) × (length t.rows ≡ 0)

-- How many of each there may be before the floor, caps after an entity.
pub record Early (t : Table) : Type 0 where
  pub few_entities : length t.entities ≤ most_entities
  pub few_caps : length t.caps ≤ technologies
  pub entities_first : 0 < length t.caps → 1 ≤ length t.entities
  pub none_later : NoneLater t

-- How many of each there are so far: after the floor, as many as a whole table may have.
pub data Sequenced (p : Progress) : Type 0 where
  before_floor : p.floored ≡ 0 → Early p.table → Sequenced p
  after_floor : p.floored ≡ 1 → Counts p.table → Sequenced p

-- They keep the sequence, and each keeps its rules.
pub record Growing (p : Progress) : Type 0 where
  pub sequenced : Sequenced p
  pub entity : (k : ℕ) → IsEntity p.table k → EntityRule p.table k
  pub cap : (k : ℕ) → k < length p.table.caps → CoefficientsRule (get_or p.table.caps k [])
  pub floor : p.floored ≡ 1 → CoefficientsRule p.table.floor
  pub filter : (k : ℕ) → k < length p.table.filters → FilterRule p.table (get_or p.table.filters k no_filter)
  pub row : (i : ℕ) → i < length p.table.rows → RowRule p.table (row_at p.table i)

-- Where there is nothing of what follows the floor, entities, caps and floor alone have rules to keep.
pub growing_start : {p : Progress} → Sequenced p → NoneLater p.table → ((k : ℕ) → IsEntity p.table k → EntityRule p.table k)
    → ((k : ℕ) → k < length p.table.caps → CoefficientsRule (get_or p.table.caps k [])) → (p.floored ≡ 1 → CoefficientsRule p.table.floor)
    → Growing p
growing_start q none entity cap floor =
    record {
      sequenced = q;
      entity = entity;
      cap = cap;
      floor = floor;
      filter = λ k h. absurd (omega arith);
      row = λ k h. absurd (omega arith);
    }

pub growing_nothing : Growing nothing
growing_nothing =
    growing_start
    (before_floor refl
    (record { few_entities = omega arith; few_caps = omega arith; entities_first = λ h. absurd (omega arith); none_later = (refl, refl) }))
    (refl, refl) (λ k h. absurd (omega arith)) (λ k h. absurd (omega arith)) (λ h. absurd (omega arith))

module _ {p : Progress} where
  pub early : Sequenced p → p.floored ≡ 0 → Early p.table
  early (before_floor z e) h = e
  early (after_floor f c) h = absurd (omega arith)

  pub whole : Sequenced p → p.floored ≡ 1 → Counts p.table
  whole (before_floor z e) h = absurd (omega arith)
  whole (after_floor f c) h = c

  -- Before the sixth cap there is no floor.
  pub no_floor : Sequenced p → length p.table.caps < technologies → p.floored ≡ 0
  no_floor (before_floor z e) h = z
  no_floor (after_floor f c) h = absurd (omega (arith, c.six_caps))

  pub few_so_far : Sequenced p → length p.table.entities ≤ most_entities
  few_so_far (before_floor z e) = e.few_entities
  few_so_far (after_floor f c) = c.few_entities

  pub few_lines : Sequenced p → lines_read p < 255
  few_lines (before_floor z e) = omega (arith, e.few_entities, e.few_caps, e.none_later)
  few_lines (after_floor f c) = omega (arith, c.few_entities, c.six_caps, c.few_filters, c.few_rows)

-- ---- a kind of frame

-- What a kind owes, of values whose numbers are in range.
pub record Lawful {A : Type 0} (InRange : A → Type 0) (k : FrameKind A) : Type 0 where
  -- bytes of the kind's length say the value that is read from them, and what says a value has that length and is read so
  pub said : (bs : List ℕ) → k.long bs ≡ true → k.says bs (k.value bs)
  pub read : (bs : List ℕ) (v : A) → k.says bs v → (k.long bs ≡ true) × (k.value bs ≡ v)
  -- the numbers of a line are
  pub in_range : (l : List ℕ) → k.long (bytes_of l) ≡ true → InRange (k.value (bytes_of l))
  -- its conditions stand by ascending number, after that of the sequence and up to the last of a text's, and judge what it claims
  pub numbered : (t : Table) (v : A) → Rising out_of_sequence (k.content t v) × Numbered last_of_text (k.content t v)
  pub judges : (t : Table) (v : A) → length t.entities ≤ most_entities → Judges t (k.content t v) (k.judged v)
  -- a frame is one line
  pub one_line : (p : Progress) (v : A) → k.placed p v ≡ true → lines_read (k.grown v p) ≡ suc (lines_read p)
  -- what has been read keeps the sequence with a frame that has its place,
  pub sequenced : (p : Progress) (v : A) → k.placed p v ≡ true → Sequenced p → Sequenced (k.grown v p)
  -- and the rules with a frame that is not refused
  pub growing : (p : Progress) (v : A) → InRange v → Growing p → k.placed p v ≡ true → refusal (k.content p.table v) ≡ 0
      → Growing (k.grown v p)
