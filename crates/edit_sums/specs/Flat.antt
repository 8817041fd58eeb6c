-- Edits of stores without hosts.
-- Source: this project's own.
use Rattle.edit_sums.specs.{declared.entries.{Edit.{Edit}, FlatEdit.{FlatEdit}}, Prelude.{Fleet}}

-- such an edit is for the whole fleet
abbrev pub at_fleet : FlatEdit → Edit
at_fleet e = record { place = record { scope = Fleet; path = e.path }; version = e.version; content = e.content }
