-- Demands 2 and 3 hold of the list, for every text.
-- Assumes nothing.
use Prim.Native.Nat.{ℕ, ◌<◌}
use native.Mathlib.Omega.{arith}
use mathlib.Core.Path.{◌≡◌, refl, sym, ap, ◌∙◌}
use mathlib.Core.Logic.{◌↔◌, inl, inr}
use mathlib.Core.List.{List, ◌++◌}
use lib.ListN.{length, drop}
use Rattle.base.specs.Answers.{returned}
use Rattle.policy.specs.Model.{Table}
use Rattle.policy.specs.Wellformed.{Wellformed}
use Rattle.relations.specs.Groups.{Dead}
use Rattle.reader.specs.States.{Parsed, parse}
use Rattle.reader.proofs.Laws.Wellformed.{accepted_wellformed, refused_line}
use Rattle.kinds.specs.Meanings.{InternalLoop, OutOfPlace, NonEnforceable, Inadequate, Shadowing, Redundancy, Exception, Correlation, Inclusion, Affinity, Contradiction, Superfluous, Skewed, Filtered, LayerTwo, Asymmetric, Cyclic, Monitorable, AlternativePath, FilterShadowing, FilterRedundancy}
use Rattle.kinds.specs.Entries.{entry, entries}
use Rattle.kinds.proofs.Laws.Blocks.{anomaly_within}
use Rattle.kinds.proofs.Laws.Entries.{entries_exact}
use Rattle.kinds.proofs.Laws.Ascending.{entries_ascend}
use Rattle.kinds.proofs.Laws.Few.{entries_few}
use Rattle.listing.specs.Bytes.{bytes}
use Rattle.listing.proofs.Laws.Puts.{bytes_none, bytes_more, length_bytes}
use Rattle.analyser.specs.Calls.{packed}
use Rattle.analyser.proofs.Laws.Outputs.{no_room, list_whole, list_told, list_refused}
use Rattle.promises.specs.ListPromises.{KindNumbers, ListPromise, PackedPromise}
use Rattle.promises.proofs.Laws.AnswerPromises.{told_count}

-- Of each kind, what `Anomaly` says at its number.
module _ (t : Table) where
  of_one_lem : (P : ℕ → Type 0) (i j : ℕ)
      → ((i < length t.rows) × ((j ≡ 255) × P i)) ↔ ((i < length t.rows) × (j ≡ 255) × P i)
  of_one_lem P i j = (λ h. (h.0, h.1.0, h.1.1), λ h. (h.0, (h.1, h.2)))

  of_two : (P : ℕ → ℕ → Type 0) (i j : ℕ)
      → ((i < length t.rows) × ((j < length t.rows) × P i j)) ↔ ((i < length t.rows) × (j < length t.rows) × P i j)
  of_two P i j = (λ h. (h.0, h.1.0, h.1.1), λ h. (h.0, (h.1, h.2)))

  of_two_filters_lem : (P : ℕ → ℕ → Type 0) (k m : ℕ)
      → ((k < length t.filters) × ((m < length t.filters) × P k m)) ↔ ((k < length t.filters) × (m < length t.filters) × P k m)
  of_two_filters_lem P k m = (λ h. (h.0, h.1.0, h.1.1), λ h. (h.0, (h.1, h.2)))

  pub kind_numbers : KindNumbers t
  kind_numbers =
      record {
        internal_loop = of_one_lem (InternalLoop t);
        out_of_place = of_one_lem (OutOfPlace t);
        non_enforceable = of_one_lem (NonEnforceable t);
        inadequate = of_one_lem (Inadequate t);
        shadowing = of_two (Shadowing t);
        redundancy = of_two (Redundancy t);
        exception = of_two (Exception t);
        correlation = of_two (Correlation t);
        inclusion = of_two (Inclusion t);
        affinity = of_two (Affinity t);
        contradiction = of_two (Contradiction t);
        superfluous = of_one_lem (Superfluous t);
        skewed = of_two (Skewed t);
        filtered = of_one_lem (Filtered t);
        layer_two = of_one_lem (LayerTwo t);
        asymmetric = of_one_lem (Asymmetric t);
        cyclic = of_one_lem (Cyclic t);
        monitorable = of_two (Monitorable t);
        alternative_path = of_one_lem (AlternativePath t);
        dead = of_one_lem (Dead t);
        filter_shadowing = of_two_filters_lem (FilterShadowing t);
        filter_redundancy = of_two_filters_lem (FilterRedundancy t);
        no_other = λ i kind j h. elim (anomaly_within t i j kind h) [
          | inl r ↦ (omega (arith, r.from), omega (arith, r.to))
          | inr f ↦ (omega (arith, f.from), omega (arith, f.to))
        ];
      }

pub list_promise : (r : Parsed) → Wellformed r.table → ListPromise r
list_promise r well =
    let t = r.table in
    let long = length_bytes (entries t) in
    record {
      written = λ out h.
          let w = list_whole (returned r) out t refl (omega arith) in
          told_count (w.0, w.1 ∙ ap (λ (n : ℕ). bytes (entries t) ++ drop n out) long);
      three = (bytes_none, λ i kind j l. bytes_more (entry i kind j) l);
      exact = entries_exact t well;
      kinds = kind_numbers t;
      ascending = entries_ascend t well;
      few = entries_few t well;
    }

-- ---- List for C

pub packed_promise : (text out : List ℕ) → PackedPromise text out
packed_promise text out = record {
  count = λ n a. let w = list_told (parse text) out n (sym a) in
      (ap packed (sym a), omega (arith, w.tells, entries_few w.of.table (accepted_wellformed text w.of.table w.read)));
  refusals = λ number line a. elim (list_refused (parse text) out number line (sym a)) [
    | inl h ↦ let small = refused_line text number line h in (ap packed (sym a), omega arith, omega arith, omega arith)
    | inr h ↦ let short = no_room (bytes (entries h.0.table)) out number h.2 in
        let none = h.3 in (ap packed (sym a), omega arith, omega arith, omega arith)
  ];
}
