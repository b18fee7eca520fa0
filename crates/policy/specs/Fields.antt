-- Things of the fields, field by field, as the code holds them.
-- Assumes nothing.
use Rattle.policy.specs.declared.selector.Fields.{Fields}

-- In each field, what `gives` says of the things of both.
abbrev pub OfEach : {X Y : Type 0} → (X → Y → Type 0) → Fields X → Fields Y → Type 0
OfEach gives a b =
    gives a.source_address b.source_address
    × gives a.destination_address b.destination_address
    × gives a.source_port b.source_port
    × gives a.destination_port b.destination_port
    × gives a.protocol b.protocol

-- In each field, what `gives` says of the things of all three.
abbrev pub OfBoth : {X Y Z : Type 0} → (X → Y → Z → Type 0) → Fields X → Fields Y → Fields Z → Type 0
OfBoth gives a b c =
    gives a.source_address b.source_address c.source_address
    × gives a.destination_address b.destination_address c.destination_address
    × gives a.source_port b.source_port c.source_port
    × gives a.destination_port b.destination_port c.destination_port
    × gives a.protocol b.protocol c.protocol
