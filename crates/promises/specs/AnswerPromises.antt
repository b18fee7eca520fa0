-- Demand 1 on the calls, for every text: the cases of their answers that tell refusals and counts. Numbers of the documents stand here as they print them.
-- Assumes nothing.
use Rattle.std.specs.Prelude.{ℕ, ◌*◌, ◌≤◌, ◌<◌, ◌≡◌, List, [], ◌∷◌, length, Ok, Err}
use Rattle.base.specs.Checks.{Check}
use Rattle.base.specs.Answers.{returned, refused_by, call_on}
use Rattle.policy.specs.Model.{Table, parent_of}
use Rattle.policy.specs.Wellformed.{IsEntity}
use Rattle.policy.specs.Views.{PacketStruct as Packet, value, packet_of}
use Rattle.relations.specs.Entities.{Tree}
use Rattle.relations.specs.declared.group.Probe.{Probe}
use Rattle.reader.specs.States.{Parsed}
use Rattle.kinds.specs.Entries.{entries}
use Rattle.striking.specs.Texts.{struck_text}
use Rattle.calls.specs.declared.Witness.TheVariants.{Refused as WitnessRefused}
use Rattle.mesh_call.specs.Calls.{MeshAnswers}
use Rattle.analyser.specs.Calls.{line_part, list_written, strike_written, join_written, prefixes_written}
use Rattle.analyser.specs.CallAnswers.{Only, CheckAnswers, WitnessAnswers, WinnerAnswers, ListAnswers, StrikeAnswers, JoinAnswers, PrefixesAnswers}
use Rattle.calls.specs.Views.{refusal}

-- "Every other text .. gets its number from document 01 (Line, which returns none, gives its empty part), and lent output stays
-- unchanged." Where reading the text refuses it, each call's answer is the refusal with this number and line:
pub record RefusedText (number at : ℕ) : Type 1 where
  -- whatever a call asks of what was read, and whatever it answers
  pub every : {A : Type 0} (conditions : Parsed → List Check) (value : Parsed → A) → call_on conditions value (refused_by number at) ≡ refused_by number at
  pub check : Only (CheckAnswers (refused_by number at)) (Err (refusal number at))
  pub line : (text : List ℕ) (k : ℕ) → line_part text (refused_by number at) k ≡ []
  pub witness : (k : ℕ) → Only (WitnessAnswers (refused_by number at) k) (WitnessRefused number at)
  pub mesh : (k : ℕ) → Only (MeshAnswers (refused_by number at) k) (WitnessRefused number at)
  pub winner : (k : ℕ) (p : Probe) → Only (WinnerAnswers (refused_by number at) k p) (Err (refusal number at))
  pub list : (out : List ℕ) → Only (ListAnswers (refused_by number at) out) (Err (refusal number at)) × (list_written (refused_by number at) out ≡ out)
  pub strike : (text out : List ℕ)
      → Only (StrikeAnswers text (refused_by number at) out) (Err (refusal number at)) × (strike_written text (refused_by number at) out ≡ out)
  pub join : (i j : ℕ) (out : List ℕ)
      → Only (JoinAnswers (refused_by number at) i j out) (Err (refusal number at)) × (join_written (refused_by number at) i j out ≡ out)
  pub prefixes : (k side : ℕ) (out : List ℕ)
      → Only (PrefixesAnswers (refused_by number at) k side out) (Err (refusal number at)) × (prefixes_written (refused_by number at) k side out ≡ out)

-- Of what was read of an accepted text:
module _ (r : Parsed) where
  abbrev t : Table
  t = r.table

  -- "Every .. row number, entity number or short output buffer": of what was read of a text that is accepted, 9, then 10, and 8. (Of Join and Prefixes,
  -- `JoinPromise` and `PrefixPromise`.)
  pub record AcceptedText : Type 0 where
    -- "Check: counts of entities, filters and rows", in this order
    pub check : Only (CheckAnswers (returned r)) (Ok (record { entities = length t.entities; filters = length t.filters; rows = length t.rows }))
    -- its parents are earlier entities, as the promises on ⪰ ask
    pub parents : Tree (parent_of t)
    pub no_row : (k : ℕ) → length t.rows ≤ k
        → ((text : List ℕ) → line_part text (returned r) k ≡ [])
        × Only (WitnessAnswers (returned r) k) (WitnessRefused 9 0)
        × Only (MeshAnswers (returned r) k) (WitnessRefused 9 0)
        × ((p : Probe) → Only (WinnerAnswers (returned r) k p) (Err (refusal 9 0)))
    pub no_entity : (k : ℕ) (p : Probe) → k < length t.rows → (IsEntity t p.source × IsEntity t p.destination → ⊥)
        → Only (WinnerAnswers (returned r) k p) (Err (refusal 10 0))
    pub short_list : (out : List ℕ) → length out < 3 * length (entries t)
        → Only (ListAnswers (returned r) out) (Err (refusal 8 0)) × (list_written (returned r) out ≡ out)
    pub short_strike : (text out : List ℕ) → length out < length (struck_text text t)
        → Only (StrikeAnswers text (returned r) out) (Err (refusal 8 0)) × (strike_written text (returned r) out ≡ out)

-- "A packet is five such numbers": the fields of the struct that calls take and give, in the order in which packets are compared. (A field's number is
-- its `value`, as the contracts of `policy::number` hand it out.)
abbrev pub PacketFields : Type 0
PacketFields = (p : Packet)
    → packet_of p
    ≡ value p.source_address ∷ value p.destination_address ∷ value p.source_port ∷ value p.destination_port ∷ value p.protocol ∷ []
