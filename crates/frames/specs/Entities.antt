-- Document 01, "The table text": entities. `layers` are those of the entities read so far, by number.
-- Assumes nothing.
use Rattle.std.specs.Prelude.{ℕ, ◌%◌, ◌^◌, ◌≡◌, Bool, ◌&&◌, List, [], ◌∷◌, eqb, ltb, length, get_or}
use Rattle.base.specs.Checks.{Check, or_else}
use Rattle.base.specs.Lists.{among}
use Rattle.base.specs.Truths.{pick}
use Rattle.policy.specs.Limits.{most_entities}
use Rattle.policy.specs.Model.{Entity, no_parent, layers_of}
use Rattle.policy.specs.Views.{with_entity}
use Rattle.frames.specs.Refusals.{bad_entity}
use Rattle.frames.specs.Faults.{an_entity}
use Rattle.frames.specs.Progress.{FrameKind}

-- "01 entity, 4 bytes: kind, parent, layer, mask."
abbrev pub entity_length : List ℕ → Bool
entity_length bs = eqb (length bs) 3

abbrev pub entity_from : List ℕ → Entity
entity_from bs = record { parent = get_or bs 0 0; layer = get_or bs 1 0; mask = get_or bs 2 0 }

-- "Sequence: 1 to 128 entities", before the caps.
abbrev pub entity_place : (caps entities : ℕ) → Bool
entity_place caps entities = eqb caps 0 && ltb entities most_entities

-- "A root has parent FF and layer 0 .. bits 0 and 7 are 0."
abbrev pub root_rule : Entity → Bool
root_rule e = eqb e.layer 0 && (eqb (e.mask % 2) 0 && ltb e.mask (2 ^ 7))

-- "Any other entity has layer 2, 3, 5 or 7, a parent that is an earlier entity of smaller layer, and mask 00."
abbrev pub other_layers : List ℕ
other_layers = 2 ∷ 3 ∷ 5 ∷ 7 ∷ []

abbrev pub other_rule : List ℕ → Entity → Bool
other_rule layers e =
    among e.layer other_layers
    && (ltb e.parent (length layers) && (ltb (get_or layers e.parent 0) e.layer && eqb e.mask 0))

unfoldable pub entity_rule : List ℕ → Entity → Bool
entity_rule layers e = pick (eqb e.parent no_parent) (root_rule e) (other_rule layers e)

-- "entity breaks its rules"
abbrev pub entity_content : List ℕ → Entity → List Check
entity_content layers e = or_else (entity_rule layers e) bad_entity ∷ []

abbrev pub entity_kind : FrameKind Entity
entity_kind =
    record {
      byte = 1;
      long = entity_length;
      value = entity_from;
      says = λ bs e. bs ≡ e.parent ∷ e.layer ∷ e.mask ∷ [];
      placed = λ p e. entity_place (length p.table.caps) (length p.table.entities);
      content = λ t e. entity_content (layers_of t) e;
      judged = λ e. an_entity e ∷ [];
      grown = λ e p. record { table = with_entity e p.table; floored = p.floored };
    }
