-- The kinds of two filters, said a second way.
-- Assumes nothing.
use Rattle.policy.specs.Model.{Table}
use Rattle.promises.specs.KindPromises.{FilterLaws}

pub filter_laws : (t : Table) → FilterLaws t
filter_laws t =
    record {
      shadowing = λ k m. (
        λ s. (s.earlier, s.root, s.actions, s.contains),
        λ h. record { earlier = h.0; root = h.1; actions = h.2; contains = h.3 },
      );
      -- the earlier filter has the packet before it
      shadowed = λ k m p s d. d.first k s.earlier s.root (s.contains p d.has);
      redundancy = λ k m. (
        λ r. (r.drops, r.other_drops, r.roots, r.contains),
        λ h. record { drops = h.0; other_drops = h.1; roots = h.2; contains = h.3 },
      );
    }
