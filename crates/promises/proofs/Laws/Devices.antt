-- Entities of one device, and paths from device to device.
-- Assumes nothing.
use Prim.Native.Nat.{ℕ, zero, suc, ◌≤◌, ◌<◌}
use mathlib.Core.Path.{◌≡◌, refl, sym, ap, ◌∙◌}
use mathlib.Core.Logic.{◌↔◌}
use mathlib.Core.List.Memᴰ
use mathlib.Core.List.{List, [], ◌∷◌, ◌++◌, map}
use native.Mathlib.Omega.{arith}
use lib.ListN.{length, get_or, length-append, length-map}
use lib.Seq.{get_or-append_seam}
use Rattle.policy.specs.Model.{Table, row_at, parent_of}
use Rattle.policy.specs.Wellformed.{Wellformed}
use Rattle.base.proofs.Laws.Members.{member_at, at_member}
use Rattle.relations.specs.Entities.{AtOrAbove, root_of}
use Rattle.relations.proofs.Laws.Entities.{above_same_root, root_above}
use Rattle.relations.proofs.Laws.Tables.{table_tree}
use Rattle.kinds.specs.Meanings.{IsRow, source_root, destination_root, Chains, AlternativePath}
use Rattle.promises.specs.KindPromises.{ByDevices}

-- The root of both is ⪰ both; what is ⪰ both has their root.
pub one_device : (t : Table) → Wellformed t → (e f : ℕ)
    → (root_of (parent_of t) e ≡ root_of (parent_of t) f) ↔ ((x : ℕ) × AtOrAbove (parent_of t) x e × AtOrAbove (parent_of t) x f)
one_device t w e f =
    let tree = table_tree t w in (
      λ q. (root_of (parent_of t) e, root_above (parent_of t) tree e, rw q (root_above (parent_of t) tree f)),
      λ h. sym (above_same_root (parent_of t) tree h.0 e h.1) ∙ above_same_root (parent_of t) tree h.0 f h.2,
    )

module _ (t : Table) where
  -- Rows lead from a by these devices: each begins where the former ends, the first at a.
  abbrev Leads : ℕ → List ℕ → List ℕ → Type 0
  Leads a js ds = (k : ℕ) → k < length js
      → IsRow t (get_or js k 0) × (source_root t (get_or js k 0) ≡ get_or (a ∷ ds) k 0) × (destination_root t (get_or js k 0) ≡ get_or ds k 0)

  -- A chain leads by the ends of its rows.
  chain_leads : (a b : ℕ) (js : List ℕ) → Chains t a js b → Leads a js (map (destination_root t) js)
  chain_leads a b [] c k h = absurd (omega arith)
  chain_leads a b (j ∷ js) c zero h = (c.0, c.1.0, refl)
  chain_leads a b (j ∷ js) c (suc k) h = chain_leads (destination_root t j) b js c.1.1 k (omega arith)

  -- The last of them is where the chain ends.
  chain_end : (a b : ℕ) (js : List ℕ) → 1 ≤ length js → Chains t a js b → (via : List ℕ) × (map (destination_root t) js ≡ via ++ (b ∷ []))
  chain_end a b [] h c = absurd (omega arith)
  chain_end a b (j ∷ []) h c = ([], ap (λ x. x ∷ []) c.1.1)
  chain_end a b (j ∷ k ∷ js) h c =
      let r = chain_end (destination_root t j) b (k ∷ js) (omega arith) c.1.1 in (destination_root t j ∷ r.0, ap (λ l. destination_root t j ∷ l) r.1)

  -- Rows that lead by some devices are a chain, and end at these.
  leads_chain : (a : ℕ) (js ds : List ℕ) → length ds ≡ length js → Leads a js ds
      → Chains t a js (get_or (a ∷ ds) (length js) 0) × (map (destination_root t) js ≡ ds)
  leads_chain a [] [] n s = (refl, refl)
  leads_chain a [] (d ∷ ds) n s = absurd (omega arith)
  leads_chain a (j ∷ js) [] n s = absurd (omega arith)
  leads_chain a (j ∷ js) (d ∷ ds) n s =
      let f = s 0 (omega arith) in
      let r = leads_chain d js ds (omega arith) (λ k h. s (suc k) (omega arith)) in
      ((f.0, (f.1, rw f.2 r.0)), λ i. f.2 i ∷ r.1 i)

  module _ (i : ℕ) where
    -- The rows of a path lead by their ends, of which the last is root(di).
    path_devices : AlternativePath t i → (via : List ℕ) × (1 ≤ length via) × (length via ≤ 3) × ByDevices t i via
    path_devices p =
        let e = chain_end (source_root t i) (destination_root t i) p.rows (omega (arith, p.two)) p.chain in
        let n : length p.rows ≡ suc (length e.0) =
        omega (arith, length-map p.rows (destination_root t), simp length-append at (ap length e.1)) in (
          e.0,
          omega (arith, n, p.two),
          omega (arith, n, p.four),
          record {
            devices = source_root t i ∷ map (destination_root t) p.rows;
            all = ap (λ l. source_root t i ∷ l) e.1;
            rows = p.rows;
            count = n;
            each = λ k h.
                let s = chain_leads (source_root t i) (destination_root t i) p.rows p.chain k h in
                (s.0, λ q. p.other (rw q at (at_member 0 p.rows k h)), s.1, s.2);
            different = λ k m o h q. p.visited (_, record { place = k; later = m; order = o; last = h; first = q; second = refl });
            packet = (p.packet.0, p.packet.1, λ k h. p.packet.2 _ (Memᴰ.map (λ j. (row_at t j).selector) (at_member 0 p.rows k h)));
          },
        )

    -- Rows that lead so are a path; root(si) and root(di) are two of the devices, which differ, so that i is no internal loop.
    devices_path : (via : List ℕ) → 1 ≤ length via → length via ≤ 3 → ByDevices t i via → AlternativePath t i
    devices_path via one three b =
        let ds = via ++ (destination_root t i ∷ []) in
        let n : length ds ≡ length b.rows = omega (arith, b.count, length-append via (destination_root t i ∷ [])) in
        let last = get_or-append_seam via (destination_root t i) [] 0 in
        let d = rw b.all at b.different in
        let c = leads_chain (source_root t i) b.rows ds n (λ k h. let s = rw b.all at (b.each k h) in (s.0, s.2, s.3)) in
        record {
          rows = b.rows;
          two = omega (arith, b.count);
          four = omega (arith, b.count);
          other = λ m. let k = member_at 0 i b.rows m in (b.each k.0 k.1).1 k.2;
          chain = rw (b.count, last) at c.0;
          visited = rw c.1 (λ v. d v.1.place v.1.later v.1.order v.1.last (v.1.first ∙ sym v.1.second));
          packet = (
            b.packet.0,
            b.packet.1,
            λ q m.
                let r = Memᴰ.of_map (λ j. (row_at t j).selector) b.rows m in
                let k = member_at 0 r.0 b.rows r.1 in
                rw (← r.2, ← k.2) (b.packet.2 k.0 k.1),
          );
          no_loop = λ e. d 0 (suc (length via)) (omega arith) (omega (arith, n, b.count)) (e ∙ sym last);
        }

    pub by_devices : AlternativePath t i ↔ ((via : List ℕ) × (1 ≤ length via) × (length via ≤ 3) × ByDevices t i via)
    by_devices = (path_devices, λ h. devices_path h.0 h.1 h.2 h.3)
