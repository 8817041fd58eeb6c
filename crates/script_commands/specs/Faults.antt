-- The refusal for each fault of a lower layer.
-- Source: this project's own.
use Rattle.script_commands.specs.Prelude.{ContentFault, EditFault, HostFault, NameFault, PlaceFault}
use Rattle.script_commands.specs.declared.commands.{Fault.{Fault, TheVariants.{Memory, Refused}}, LineRefusal.TheVariants.{BadByte, BadLink, Component, Depth, Directory, EmptyPrefix, FileTooLarge, HostName, Kind, Length, Nothing, VersionsSpent}}
use Rattle.edit_sums.specs.declared.contents.ContentFault.TheVariants as content
use Rattle.load_places.specs.declared.hosts.HostFault.TheVariants as host
use Rattle.load_places.specs.declared.places.PlaceFault.TheVariants as place
use Rattle.replica_store.specs.declared.replicas.EditFault.TheVariants as edit
use Rattle.unit_name.specs.declared.names.NameFault.TheVariants as name

abbrev pub fault_of_place : PlaceFault → Fault
fault_of_place place.HostName = Refused HostName
fault_of_place place.Directory = Refused Directory
fault_of_place place.Depth = Refused Depth
fault_of_place place.Component = Refused Component
fault_of_place place.Memory = Memory

abbrev pub fault_of_host : HostFault → Fault
fault_of_host host.HostName = Refused HostName
fault_of_host host.Memory = Memory

abbrev pub fault_of_content : ContentFault → Fault
fault_of_content content.FileTooLarge = Refused FileTooLarge
fault_of_content content.BadLink = Refused BadLink
fault_of_content content.Memory = Memory

abbrev pub fault_of_edit : EditFault → Fault
fault_of_edit edit.VersionsSpent = Refused VersionsSpent
fault_of_edit edit.Nothing = Refused Nothing
fault_of_edit edit.Memory = Memory

abbrev pub fault_of_name : NameFault → Fault
fault_of_name name.Length = Refused Length
fault_of_name name.Kind = Refused Kind
fault_of_name name.EmptyPrefix = Refused EmptyPrefix
fault_of_name (name.BadByte place) = Refused (BadByte place)
fault_of_name name.Memory = Memory
