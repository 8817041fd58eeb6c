-- Faults of what a command uses, as its own.
-- Source: this project's own.
use Rattle.byte_fields.specs.declared.faults.DecodeFault.{DecodeFault}
use Rattle.byte_fields.specs.declared.faults.DecodeFault.TheVariants as decode
use Rattle.load_places.specs.declared.places.PlaceFault.{PlaceFault}
use Rattle.load_places.specs.declared.places.PlaceFault.TheVariants as place
use Rattle.node_commands.specs.declared.faults.CommandFault.{CommandFault}
use Rattle.node_commands.specs.declared.faults.CommandFault.TheVariants.{Bytes, Memory, NoEdit, Node, Place, Read, Write}

abbrev pub fault_of_bytes : DecodeFault → CommandFault
fault_of_bytes decode.Memory = Memory
fault_of_bytes (decode.Fault fault) = Bytes fault

abbrev pub fault_of_place : PlaceFault → CommandFault
fault_of_place place.Memory = Memory
fault_of_place other = Place other

-- one of those that a value's reading has
abbrev pub IsReadFault : CommandFault → Type 0
IsReadFault Memory = Unit {0}
IsReadFault Read = Unit {0}
IsReadFault (Bytes fault) = Unit {0}
IsReadFault other = ⊥

-- one of those that an answer from the log has
abbrev pub IsAnswerFault : CommandFault → Type 0
IsAnswerFault Memory = Unit {0}
IsAnswerFault Write = Unit {0}
IsAnswerFault (Node fault) = Unit {0}
IsAnswerFault other = ⊥

-- one of those that the bytes of an edit have
abbrev pub IsContentFault : CommandFault → Type 0
IsContentFault NoEdit = Unit {0}
IsContentFault Write = Unit {0}
IsContentFault (Node fault) = Unit {0}
IsContentFault other = ⊥
