-- The cases of what calls answer: each answer is of one case.
--   answer_refused, answer_passed, answer_told: of a result
--   witness_refused, witness_dead, witness_packet: of the enum that Witness and Mesh answer
-- Assumes nothing.
use Prim.Native.Nat.{ℕ}
use native.Mathlib.Omega.{arith}
use mathlib.Core.Path.{◌≡◌, refl}
use Rattle.base.specs.Answers.{returned, refused_by}
use Rattle.policy.specs.Model.{Packet}
use Rattle.policy.specs.Views.{PacketStruct, packet_of}
use Rattle.covers.specs.Least.{found, none}
use Rattle.std.specs.Prelude.{Result, Ok, Err, IsErrAnd}
use Rattle.frames.specs.declared.refusals.Refusal.{Refusal}
use Rattle.calls.specs.Views.{answer_of, refusal, witness_answer}
use Rattle.calls.specs.declared.Witness.{Witness}
use Rattle.calls.specs.declared.Witness.TheVariants.{Dead, Packet as OfPacket, Refused}

module _ {A B : Type 0} (value : A → B) where
  pub answer_refused : (number line : ℕ) (r : Result A Refusal) → answer_of value r ≡ refused_by number line → r ≡ Err (refusal number line)
  answer_refused number line (Ok a) e = let z : ◌≡◌ {A = ℕ} 0 1 = cc in absurd (omega arith)
  answer_refused number line (Err q) e =
      let n : q.number ≡ number = cc in
      let l : q.line ≡ line = cc in
      λ i. Err (record { number = n i; line = l i })

  -- A refusal that is handed on.
  pub answer_passed : (r : Result A Refusal) (q : Refusal) → IsErrAnd r (λ e. e ≡ q) → answer_of value r ≡ refused_by q.number q.line
  answer_passed (Ok a) q h = absurd h
  answer_passed (Err e) q h = rw h

  -- Where the value is told, it is that of a value's struct.
  pub answer_told : (b : B) (r : Result A Refusal) → answer_of value r ≡ returned b → (a : A) × (r ≡ Ok a) × (value a ≡ b)
  answer_told b (Ok a) e = (a, refl, cc)
  answer_told b (Err q) e = let z : ◌≡◌ {A = ℕ} 0 1 = cc in absurd (omega arith)

pub witness_refused : (number line : ℕ) (r : Witness) → witness_answer r ≡ refused_by number line → r ≡ Refused number line
witness_refused number line Dead e = let z : ◌≡◌ {A = ℕ} 0 1 = cc in absurd (omega arith)
witness_refused number line (OfPacket p) e = let z : ◌≡◌ {A = ℕ} 0 1 = cc in absurd (omega arith)
witness_refused number line (Refused n l) e = cc

pub witness_dead : (r : Witness) → witness_answer r ≡ returned none → r ≡ Dead
witness_dead Dead e = refl
witness_dead (OfPacket p) e = let z : ◌≡◌ {A = ℕ} 0 1 = cc in absurd (omega arith)
witness_dead (Refused n l) e = let z : ◌≡◌ {A = ℕ} 0 1 = cc in absurd (omega arith)

pub witness_packet : (q : Packet) (r : Witness) → witness_answer r ≡ returned (found q) → (p : PacketStruct) × (r ≡ OfPacket p) × (packet_of p ≡ q)
witness_packet q Dead e = let z : ◌≡◌ {A = ℕ} 0 1 = cc in absurd (omega arith)
witness_packet q (OfPacket p) e = (p, refl, cc)
witness_packet q (Refused n l) e = let z : ◌≡◌ {A = ℕ} 0 1 = cc in absurd (omega arith)
