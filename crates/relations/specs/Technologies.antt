-- Document 01, "Relations": technologies, "0 NULL; 1 WPA2, 2 MACsec (layer 2); 3 IPsec (3); 4 TLS, 5 SSH (5); 6 WS-Security (7)".
-- Assumes nothing.
use Rattle.std.specs.Prelude.{ℕ, ◌<◌, ◌≡◌, Bool, not, ◌&&◌, ◌⊎◌, [], ◌∷◌, eqb, ltb, get_or}
use Rattle.relations.specs.Relations.{relation_by}
use Rattle.relations.specs.declared.relation.Relation.{Relation}
use Rattle.relations.specs.declared.relation.Relation.TheVariants.{Equal, Above, Below, Kin, Disjoint}

-- The technology t has the layer l. NULL has none.
pub data HasLayer : ℕ → ℕ → Type 0 where
  wpa2 : HasLayer 1 2
  macsec : HasLayer 2 2
  ipsec : HasLayer 3 3
  tls : HasLayer 4 5
  ssh : HasLayer 5 5
  ws_security : HasLayer 6 7

-- The layer of a technology, as a number: 0 where there is none, of NULL and of numbers above 6, which are no technologies and stand in no table.
unfoldable pub layer_of : ℕ → ℕ
layer_of t = get_or (0 ∷ 2 ∷ 2 ∷ 3 ∷ 5 ∷ 5 ∷ 7 ∷ []) t 0

-- "A smaller layer dominates (≻)", between technologies that are not NULL. Of numbers above 6, which are no technologies, nothing is claimed.
pub record Dominates (t u : ℕ) : Type 0 where
  pub upper : t ≡ 0 → ⊥
  pub lower : u ≡ 0 → ⊥
  pub layer : layer_of t < layer_of u

unfoldable pub dominates : ℕ → ℕ → Bool
dominates t u = not (eqb t 0) && (not (eqb u 0) && ltb (layer_of t) (layer_of u))

-- "two different ones of equal layer are kin"
pub record KinTechnologies (t u : ℕ) : Type 0 where
  pub one : t ≡ 0 → ⊥
  pub other : u ≡ 0 → ⊥
  pub different : t ≡ u → ⊥
  pub layer : layer_of t ≡ layer_of u

-- "NULL and any other are disjoint"
abbrev pub DisjointTechnologies : ℕ → ℕ → Type 0
DisjointTechnologies t u = ((t ≡ 0) × (u ≡ 0 → ⊥)) ⊎ ((t ≡ 0 → ⊥) × (u ≡ 0))

unfoldable pub technology_relation : ℕ → ℕ → Relation
technology_relation t u = relation_by (eqb t u) (dominates t u) (dominates u t) (not (eqb t 0) && not (eqb u 0))

-- What each of the five says of t and u.
abbrev pub TechnologiesStand : ℕ → ℕ → Relation → Type 0
TechnologiesStand t u Equal = t ≡ u
TechnologiesStand t u Above = Dominates t u
TechnologiesStand t u Below = Dominates u t
TechnologiesStand t u Kin = KinTechnologies t u
TechnologiesStand t u Disjoint = DisjointTechnologies t u
