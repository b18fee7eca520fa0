-- Document 01's table of returns, 4 to 7: the faults of what a frame says, by their numbers. What they are judged by is the table so far.
-- A further sort of claim is a constructor of `Claim`, and each way to break it one of `Broken`.
-- Assumes nothing.
use Rattle.std.specs.Prelude.{ℕ, ◌<◌, ◌≡◌, length}
use mathlib.Core.List.{List, Memᴰ}
use Rattle.policy.specs.Model.{Entity, Coefficients, Range, Table}
use Rattle.policy.specs.Views.{with_entity}
use Rattle.policy.specs.Wellformed.{EntityRule, IsEntity, IsRoot}

-- What a frame says that is judged.
pub data Claim : Type 0 where
  -- an entity, which has its rules
  an_entity : Entity → Claim
  -- the number of a "holder, filter root or gateway"
  a_root : ℕ → Claim
  -- "s or d"
  an_end : ℕ → Claim
  -- "t"
  a_technology : ℕ → Claim
  -- low and high of a field
  a_range : Range → Claim
  -- a technology, with coefficients
  a_protection : ℕ → Coefficients → Claim

-- The claim is broken, and by which number.
pub data Broken (t : Table) : Claim → ℕ → Type 0 where
  -- "entity breaks its rules"
  entity_rule_broken : (e : Entity) → (EntityRule (with_entity e t) (length t.entities) → ⊥) → Broken t (an_entity e) 4
  -- "holder, filter root or gateway isn't a root"
  no_root : (e : ℕ) → (IsRoot t e → ⊥) → Broken t (a_root e) 5
  -- "s or d no entity"
  no_entity : (e : ℕ) → (IsEntity t e → ⊥) → Broken t (an_end e) 5
  -- "t above 6"
  no_technology : (u : ℕ) → 6 < u → Broken t (a_technology u) 5
  -- "a low above its high"
  low_above_high : (r : Range) → r.high < r.low → Broken t (a_range r) 6
  -- "NULL with a coefficient above 0"
  null_above_0 : (u : ℕ) (cs : Coefficients) (c : ℕ) → u ≡ 0 → Memᴰ c cs → 0 < c → Broken t (a_protection u cs) 7

-- Some claim of these is broken, by the number n.
abbrev pub ContentFault : Table → List Claim → ℕ → Type 0
ContentFault t claims n = (c : Claim) × Memᴰ c claims × Broken t c n
