-- What kinds look at in technologies: which have layer 2, which have a layer, and which has the smaller one.
-- Assumes nothing.
use Prim.Native.Nat.{ℕ, zero, suc, ◌≤◌, ◌<◌}
use mathlib.Core.Path.{◌≡◌, refl}
use mathlib.Core.Logic.{◌↔◌, ◌⊎◌, inl, inr}
use native.Mathlib.Omega.{arith}
use Rattle.relations.specs.Technologies.{HasLayer, wpa2, macsec, ipsec, tls, ssh, ws_security, Dominates}
use Rattle.relations.proofs.Laws.Technologies.{has_layer, null_no_layer}

-- Technologies 1 and 2 have layer 2, and no others.
has_two : (u l : ℕ) → HasLayer u l → l ≡ 2 → (u ≡ 1) ⊎ (u ≡ 2)
has_two u l wpa2 e = inl refl
has_two u l macsec e = inr refl
has_two u l ipsec e = absurd (omega arith)
has_two u l tls e = absurd (omega arith)
has_two u l ssh e = absurd (omega arith)
has_two u l ws_security e = absurd (omega arith)

pub layer_two : (u : ℕ) → HasLayer u 2 ↔ ((u ≡ 1) ⊎ (u ≡ 2))
layer_two u = (λ h. has_two u 2 h refl, λ h. elim h [ inl e ↦ rw e wpa2 | inr e ↦ rw e macsec ])

-- Every technology but NULL has a layer.
has_some : (u : ℕ) → (u ≡ 0 → ⊥) → u ≤ 6 → (l : ℕ) × HasLayer u l
has_some zero n h = absurd (n refl)
has_some (suc zero) n h = (2, wpa2)
has_some (suc (suc zero)) n h = (2, macsec)
has_some (suc (suc (suc zero))) n h = (3, ipsec)
has_some (suc (suc (suc (suc zero)))) n h = (5, tls)
has_some (suc (suc (suc (suc (suc zero))))) n h = (5, ssh)
has_some (suc (suc (suc (suc (suc (suc zero)))))) n h = (7, ws_security)
has_some (suc (suc (suc (suc (suc (suc (suc u))))))) n h = absurd (omega arith)

pub not_null : (u : ℕ) → u ≤ 6 → (u ≡ 0 → ⊥) ↔ ((l : ℕ) × HasLayer u l)
not_null u h = (λ n. has_some u n h, λ s z. null_no_layer s.0 (rw z at s.1))

-- ≻ is a smaller layer.
pub by_layers : (u v : ℕ) → u ≤ 6 → v ≤ 6 → Dominates u v ↔ ((l : ℕ) × (m : ℕ) × HasLayer u l × HasLayer v m × (l < m))
by_layers u v hu hv = (
  λ d.
      let x = (not_null u hu).0 d.upper in
      let y = (not_null v hv).0 d.lower in
      (x.0, y.0, x.1, y.1, omega (arith, d.layer, ((has_layer u x.0).0 x.1).0, ((has_layer v y.0).0 y.1).0)),
  λ h. record {
    upper = (not_null u hu).1 (h.0, h.2);
    lower = (not_null v hv).1 (h.1, h.3);
    layer = omega (arith, h.4, ((has_layer u h.0).0 h.2).0, ((has_layer v h.1).0 h.3).0);
  },
)
