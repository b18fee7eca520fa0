-- Demand 3 holds of dead rows, witnesses, striking and winners, for every accepted text.
-- Assumes nothing.
use Prim.Native.Nat.{ℕ, ◌<◌}
use native.Mathlib.Decide.{dec_lt}
use native.Mathlib.Omega.{arith}
use mathlib.Core.Path.{◌≡◌, refl, sym, ap, ◌∙◌}
use mathlib.Core.Logic.{◌⊎◌, inl, inr}
use mathlib.Core.List.{List}
use lib.ListN.{length, get_or}
use Rattle.std.specs.Prelude.{Option, Some, None, Result, Ok}
use Rattle.base.specs.Answers.{returned}
use Rattle.base.proofs.Laws.Decides.{decided, decides_and, decides_ltb}
use Rattle.policy.specs.Model.{Packet, Table, row_at}
use Rattle.policy.specs.Wellformed.{Wellformed}
use Rattle.policy.specs.Views.{PacketStruct, packet_of}
use Rattle.relations.specs.Groups.{SameGroup, Wins, Dead, winner}
use Rattle.relations.proofs.Laws.Groups.{group_wins, wins_group, winner_wins, winner_nobody, winner_named}
use Rattle.reader.specs.States.{Parsed, parse}
use Rattle.reader.proofs.Laws.Wellformed.{accepted_wellformed}
use Rattle.covers.specs.Least.{SearchResult, found, none, ◌≤ₚ◌}
use Rattle.verdicts.specs.Verdicts.{verdict_on}
use Rattle.verdicts.proofs.Laws.Verdicts.{verdicts}
use Rattle.kinds.proofs.Laws.Entries.{entries_exact}
use Rattle.striking.specs.Striking.{kept, struck, SameWinner}
use Rattle.striking.proofs.Laws.Kept.{kept_rows, kept_exactly}
use Rattle.striking.proofs.Laws.Struck.{struck_keeps}
use Rattle.striking.proofs.Laws.Texts.{struck_parses}
use Rattle.striking.proofs.Laws.Bytes.{struck_shorter}
use Rattle.calls.specs.Views.{witness_answer}
use Rattle.calls.specs.declared.Witness.{Witness}
use Rattle.calls.specs.declared.Witness.TheVariants.{Packet as PacketCase}
use Rattle.calls.proofs.Laws.Cases.{witness_dead, witness_packet}
use Rattle.analyser.specs.Calls.{outcome_of, winner_of}
use Rattle.analyser.specs.Views.{winner_answer}
use Rattle.analyser.specs.CallAnswers.{WitnessAnswers}
use Rattle.frames.specs.declared.refusals.Refusal.{Refusal}
use Rattle.analyser.proofs.Laws.Calls.{witness_verdict, winner_no_entity, winner_found, winner_row, winner_none}
use Rattle.analyser.proofs.Laws.Cases.{winner_a_row, winner_nobody as winner_nobody_case}
use Rattle.analyser.proofs.Laws.Outputs.{strike_whole}
use Rattle.promises.specs.RowPromises.{WitnessPromise, StrikePromise, WinnerPromise}
use Rattle.promises.proofs.Laws.AnswerPromises.{told_count}

pub witness_promise : (r : Parsed) → Wellformed r.table → WitnessPromise r
witness_promise r well = record {
  listed = λ i h. let x = entries_exact t well i 20 255 in (λ m. (x.0 m).1.1, λ d. x.1 (h, (refl, d)));
  witnessed = λ i w h a.
      let v = (verdicts t well i h).dead in
      let said : witness_answer w ≡ returned (verdict_on t i) = a ∙ witness_verdict (returned r) t refl i h in
      (λ d. let e = ap witness_answer d in v.0 (cc), λ d. witness_dead w (said ∙ ap returned (v.1 d)));
  others = λ i w h a n. other i w h a n (verdict_on t i) refl;
}
  where
    t : Table
    t = r.table

    other : (i : ℕ) (w : Witness) → i < length t.rows → WitnessAnswers (returned r) i w → (Dead t i → ⊥) → (o : SearchResult) → verdict_on t i ≡ o
        → (p : PacketStruct)
        × (w ≡ PacketCase p)
        × Wins t i (row_at t i).source (row_at t i).destination (packet_of p)
        × ((a b : ℕ) (q : Packet) → Wins t i a b q → packet_of p ≤ₚ q)
    other i w h a n none o = absurd (n ((verdicts t well i h).dead.0 o))
    other i w h a n (found q) o =
        let v = verdicts t well i h in
        let s = witness_packet q w (a ∙ witness_verdict (returned r) t refl i h ∙ ap returned o) in
        let same : verdict_on t i ≡ found (packet_of s.0) = o ∙ ap found (sym s.2) in
        (s.0, s.1, v.wins (packet_of s.0) same, v.least (packet_of s.0) same)

-- ---- striking

-- What `SameWinner` says of two winners: the one that won before is kept, the one that wins now is it, and the other way round.
won_kept : (t : Table) (o u : Option ℕ) → SameWinner (kept t) o u → (i : ℕ) → o ≡ Some i
    → (k : ℕ) × (k < length (kept t)) × (get_or (kept t) k 0 ≡ i) × (u ≡ Some k)
won_kept t (Some j) (Some k) s i e = let q : j ≡ i = cc in (k, s.0, s.1 ∙ q, refl)
won_kept t (Some j) None s i e = absurd s
won_kept t None u s i e = let z : ◌≡◌ {A = ℕ} 0 1 = cc in absurd (omega arith)

wins_kept : (t : Table) (o u : Option ℕ) → SameWinner (kept t) o u → (k : ℕ) → u ≡ Some k → o ≡ Some (get_or (kept t) k 0)
wins_kept t (Some i) (Some j) s k e = let q : j ≡ k = cc in ap Some (sym s.1 ∙ ap (λ (m : ℕ). get_or (kept t) m 0) q)
wins_kept t None (Some j) s k e = absurd s
wins_kept t o None s k e = let z : ◌≡◌ {A = ℕ} 0 1 = cc in absurd (omega arith)

-- Kept rows at two places are different.
kept_once : (t : Table) (j k : ℕ) → j < length (kept t) → k < length (kept t) → get_or (kept t) j 0 ≡ get_or (kept t) k 0 → j ≡ k
kept_once t j k h l e =
    elim (dec_lt j k) [
      | yes m ↦ let a = (kept_rows t).ascending j k m l in absurd (omega arith)
      | no m ↦ elim (dec_lt k j) [ yes n ↦ let a = (kept_rows t).ascending k j n h in absurd (omega arith) | no n ↦ omega arith ]
    ]

pub strike_promise : (text : List ℕ) (r : Parsed) → parse text ≡ returned r → StrikePromise r text
strike_promise text r e =
    let t = r.table in
    let well = accepted_wellformed text t e in
    let keeps = struck_keeps t well in
    record {
      written = λ out h. told_count (strike_whole text (returned r) out t refl h);
      shorter = struck_shorter text t e;
      taken = struck_parses text t e;
      alive = keeps.alive;
      all_kept = kept_exactly t well;
      in_order = (kept_rows t).ascending;
      rows = refl;
      others = (refl, refl, refl, refl);
      winners = λ g a b p k x y h.
          let same = keeps.winners g a b p x y in (
            λ w. group_wins t g a b p (get_or (kept t) k 0) (wins_kept t _ _ same k (wins_group (struck t) g a b p k w)),
            λ w.
                let m = won_kept t _ _ same (get_or (kept t) k 0) (wins_group t g a b p (get_or (kept t) k 0) w) in
                group_wins (struck t) g a b p k (m.3 ∙ ap Some (kept_once t m.0 k m.1 h m.2)),
          );
      winner_kept = λ g a b p i x y w. let m = won_kept t _ _ (keeps.winners g a b p x y) i (wins_group t g a b p i w) in (m.0, m.1, m.2);
    }

-- ---- Winner

-- An outcome is told as a row or as nobody.
told_case : (r : Result (Option ℕ) Refusal) (o : Option ℕ) → winner_answer r ≡ returned (outcome_of o) → ((i : ℕ) × (r ≡ Ok (Some i))) ⊎ (r ≡ Ok None)
told_case r (Some i) a = inl (i, winner_a_row i r a)
told_case r None a = inr (winner_nobody_case r a)

pub winner_promise : (r : Parsed) → WinnerPromise r
winner_promise r = record {
  told = λ g p w h a. told_case w (winner t g p.source p.destination (packet_of p.packet))
      (a ∙ winner_found (returned r) t refl g p.source p.destination (packet_of p.packet) h.0 h.1 h.2);
  first = λ g p i h.
      let s = winner_row (returned r) t refl g p.source p.destination (packet_of p.packet) h.0 h.1 h.2 i in
      let v = winner_wins t g p.source p.destination (packet_of p.packet) i in
      (λ w. v.0 (s.0 (sym w)), λ o. sym (s.1 (v.1 o)));
  unmatched = λ g p h.
      let s = winner_none (returned r) t refl g p.source p.destination (packet_of p.packet) h.0 h.1 h.2 in
      let v = winner_nobody t g p.source p.destination (packet_of p.packet) in
      (λ w. v.0 (s.0 (sym w)), λ o. sym (s.1 (v.1 o)));
  named = λ g h p j k s w.
      let same = named g h p.source p.destination (packet_of p.packet) j k s in
      (λ a. a ∙ same, λ a. a ∙ sym same);
}
  where
    t : Table
    t = r.table

    named : (g h a b : ℕ) (p : Packet) → g < length t.rows → h < length t.rows → SameGroup (row_at t g) (row_at t h)
        → winner_of (returned r) g a b p ≡ winner_of (returned r) h a b p
    named g h a b p j k s = elim (decided _ (decides_and _ _ (decides_ltb a (length t.entities)) (decides_ltb b (length t.entities)))) [
      | inl x ↦ winner_found (returned r) t refl g a b p j x.0 x.1
          ∙ ap (λ o. returned (outcome_of o)) (winner_named t g h a b p s)
          ∙ sym (winner_found (returned r) t refl h a b p k x.0 x.1)
      | inr x ↦ winner_no_entity (returned r) t refl g a b p j x ∙ sym (winner_no_entity (returned r) t refl h a b p k x)
    ]
