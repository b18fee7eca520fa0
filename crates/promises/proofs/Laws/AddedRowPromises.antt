-- Document 02, [6], holds of the calls, for every accepted text and every run of row lines that may follow it in an accepted text.
-- Assumes nothing.
use Prim.Native.Nat.{ℕ, ◌<◌}
use native.Mathlib.Omega.{arith}
use mathlib.Core.Path.{◌≡◌, refl, sym, ap, subst, subst⁻¹, ◌∙◌}
use mathlib.Core.Logic.{◌↔◌, inl, inr}
use mathlib.Core.List.{List, ◌++◌, Memᴰ}
use lib.ListN.{length, drop, length-append}
use Rattle.std.specs.Prelude.{Ok, Some}
use Rattle.base.specs.Answers.{returned}
use Rattle.policy.specs.Model.{Packet, Row, Table, extended, row_at, parent_of}
use Rattle.policy.specs.Wellformed.{IsEntity}
use Rattle.policy.specs.Views.{packet_of}
use Rattle.relations.specs.declared.group.Probe.{Probe}
use Rattle.relations.specs.Groups.{SameGroup, winner_from}
use Rattle.relations.proofs.Laws.Groups.{winner_group}
use Rattle.relations.proofs.Laws.Extended.{row_extended}
use Rattle.reader.specs.States.{table_read, parse}
use Rattle.reader.proofs.Laws.Wellformed.{accepted_wellformed}
use Rattle.reader.proofs.Laws.Texts.{accepted_text_extended}
use Rattle.verdicts.proofs.Laws.Extended.{old_rows_keep}
use Rattle.kinds.specs.Entries.{entry, entries}
use Rattle.kinds.specs.Extended.{MayChange, OfOldThings}
use Rattle.kinds.proofs.Laws.Entries.{entries_exact}
use Rattle.kinds.proofs.Laws.Extended.{anomalies_stand}
use Rattle.listing.specs.Bytes.{bytes}
use Rattle.listing.proofs.Laws.Places.{listed_bytes}
use Rattle.calls.specs.Views.{witness_answer}
use Rattle.mesh_call.specs.Calls.{mesh_of}
use Rattle.analyser.specs.Calls.{witness_of, winning_row, list_of, list_written}
use Rattle.analyser.specs.CallAnswers.{WinnerAnswers}
use Rattle.promises.specs.AddedRowPromises.{Lists, BothList, AnswersStand, AddedRows}
use Rattle.analyser.proofs.Laws.Calls.{witness_verdict, winner_told, winner_row}
use Rattle.analyser.proofs.Laws.Outputs.{list_told, list_wrote}
use Rattle.promises.proofs.Laws.AnswerPromises.{same_answers}
use Rattle.promises.proofs.Laws.RowPromises.{winner_promise}
use Rattle.promises.proofs.Laws.MeshPromises.{same_answer}

-- ---- the entries that List writes

module _ (text : List ℕ) (t : Table) (e : parse text ≡ returned (table_read t)) (out : List ℕ) (n : ℕ) (told : list_of (parse text) out ≡ returned n) where
  -- What List tells of the text is told of t.
  list_tells : (n ≡ length (entries t)) × (list_written (parse text) out ≡ bytes (entries t) ++ drop (length (bytes (entries t))) out)
  list_tells =
      let w = list_told (parse text) out n told in
      let same : w.of ≡ table_read t = cc w.read in
      subst (λ v. (n ≡ length (entries v.table)) × (list_written (parse text) out ≡ bytes (entries v.table) ++ drop (length (bytes (entries v.table))) out)) same
      (w.tells, list_wrote (parse text) out w)

  lists_exactly : (i kind j : ℕ) → Lists text out i kind j ↔ Memᴰ (entry i kind j) (entries t)
  lists_exactly i kind j =
      let s = list_tells in
      let at = listed_bytes (drop (length (bytes (entries t))) out) (entries t) (entry i kind j) in (
        λ l.
            let same : l.count ≡ n = cc (l.counted, told) in
            at.1 (l.place, omega (arith, l.inside, s.0), rw s.1 at l.three),
        λ m.
            let p = at.0 m in
            record { count = n; counted = sym told; place = p.0; inside = omega (arith, p.1, s.0); three = rw s.1 p.2 },
      )

-- ---- rows added at the end

-- Of a text and a longer one that gives its table with these rows more.
module _ (text longer : List ℕ) (t : Table) (added : List Row) (e : parse text ≡ returned (table_read t)) (f : parse longer ≡ returned (table_read (extended added t))) where
  inside : (i : ℕ) → i < length t.rows → i < length (extended added t).rows
  inside i h = omega (arith, length-append t.rows added)

  entry_kept : (i kind j : ℕ) → OfOldThings t i kind j → (MayChange kind → ⊥) → BothList text longer i kind j
  entry_kept i kind j old stays out lent n m p q =
      let w = accepted_wellformed text t e in
      let v = accepted_wellformed longer (extended added t) f in
      let a = lists_exactly text t e out n (sym p) i kind j in
      let b = lists_exactly longer (extended added t) f lent m (sym q) i kind j in
      let x = entries_exact t w i kind j in
      let y = entries_exact (extended added t) v i kind j in
      let same = anomalies_stand t added w v i kind j old stays in
      (λ l. b.1 (y.1 (same.0 (x.0 (a.0 l)))), λ l. a.1 (x.1 (same.1 (y.0 (b.0 l)))))

  witness_kept : (i : ℕ) → i < length t.rows → witness_of (parse longer) i ≡ witness_of (parse text) i
  witness_kept i h =
      witness_verdict (parse longer) (extended added t) f i (inside i h)
      ∙ ap returned ((old_rows_keep t added).verdict i h)
      ∙ sym (witness_verdict (parse text) t e i h)

  mesh_kept : (i : ℕ) → i < length t.rows → mesh_of (parse longer) i ≡ mesh_of (parse text) i
  mesh_kept i h = same_answer longer i ∙ witness_kept i h ∙ sym (same_answer text i)

  module _ (g : ℕ) (p : Probe) (i : ℕ) (won : WinnerAnswers (parse text) g p (Ok (Some i))) where
    abbrev a : ℕ
    a = p.source

    abbrev b : ℕ
    b = p.destination

    abbrev q : Packet
    q = packet_of p.packet

    named_before : (g < length t.rows) × IsEntity t a × IsEntity t b
    named_before = winner_told (parse text) t e g a b q (winning_row i) (sym won)

    winner_kept : WinnerAnswers (parse longer) g p (Ok (Some i))
    winner_kept =
        let x = named_before in
        let old = (winner_row (parse text) t e g a b q x.0 x.1 x.2 i).0 (sym won) in
        sym
        ((winner_row (parse longer) (extended added t) f g a b q (inside g x.0) x.1 x.2 i).1
        (winner_group (extended added t) g a b q
        ∙ ap (λ r. winner_from (parent_of t) r a b q 0 (t.rows ++ added)) (row_extended t added g x.0)
        ∙ (old_rows_keep t added).winner (row_at t g) a b q i (sym (winner_group t g a b q) ∙ old)))

    winner_named_newly : (h : ℕ) → h < length (extended added t).rows → SameGroup (row_at (extended added t) h) (row_at t g)
        → WinnerAnswers (parse longer) h p (Ok (Some i))
    winner_named_newly h l s =
        subst⁻¹ (λ x. WinnerAnswers x h p (Ok (Some i))) f
        (((winner_promise (table_read (extended added t))).named h g p l (inside g named_before.0)
        (subst (SameGroup (row_at (extended added t) h)) (sym (row_extended t added g named_before.0)) s) (Ok (Some i))).1
        (subst (λ x. WinnerAnswers x g p (Ok (Some i))) f winner_kept))

-- Kind 20 is none that may change.
dead_stays : MayChange 20 → ⊥
dead_stays (inl e) = omega arith
dead_stays (inr (inl e)) = omega arith
dead_stays (inr (inr e)) = omega arith

pub added_rows : AddedRows
added_rows text more added t u e run f =
    let table = accepted_text_extended text t e more added u run f in
    let g : parse (text ++ more) ≡ returned (table_read (extended added t)) = f ∙ ap (λ v. returned (table_read v)) table in
    subst⁻¹ (AnswersStand text more added t) table
    (record {
      table = refl;
      dead_mark = λ i h. entry_kept text (text ++ more) t added e g i 20 255 (inl (h, inr refl)) dead_stays;
      witness = λ i h. same_answers witness_answer (witness_kept text (text ++ more) t added e g i h);
      mesh = λ i h. same_answers witness_answer (mesh_kept text (text ++ more) t added e g i h);
      winner = winner_kept text (text ++ more) t added e g;
      named = λ k h p i l s w. winner_named_newly text (text ++ more) t added e g k p i w h l s;
      others = entry_kept text (text ++ more) t added e g;
    })
