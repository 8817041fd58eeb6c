-- What the remaining lines give a reader in some state.
-- Source: this project's own.
use Rattle.std.proofs.Common.{◌++◌, ◌∷◌}
use Rattle.section_reader.specs.Prelude.{[], flat_map, List, map, None, Some, ℕ}
use Rattle.section_reader.specs.{declared.{assignments.{Assignment.{Assignment}, Note.{Note}, NoteKind.TheVariants.{BadHeader, OutsideSection}}, places.Place.{Place, TheVariants.{Inside, Outside, PassedOver}}}, Lines.{Line}, Parts.{header_name}, Sections.{assigned, assignments_in, note, notes_following, unassigned, up_to_bracket}}

-- what lines assign in this state, if none of them begins with a bracket
unfoldable pub items_at : Place → List Line → List Assignment
items_at Outside lines = []
items_at (Inside section) lines = flat_map (assigned section) lines
items_at PassedOver lines = []

-- the notes on such lines
unfoldable pub notes_at : Place → List Line → List Note
notes_at Outside lines = map (note OutsideSection) lines
notes_at (Inside section) lines = flat_map unassigned lines
notes_at PassedOver lines = []

-- the state after a line that begins with a bracket
unfoldable pub place_following : List ℕ → Place
place_following text = elim (header_name text) [ None ↦ PassedOver | Some name ↦ Inside name ]

-- the note on a line that begins with a bracket, if it isn't a good header
unfoldable pub header_notes : Line → List Note
header_notes line = elim (header_name line.text) [ None ↦ note BadHeader line ∷ [] | Some name ↦ [] ]

-- what logical lines assign, read from this state
unfoldable pub items_from : Place → List Line → List Assignment
items_from place lines = items_at place (up_to_bracket lines) ++ assignments_in lines

-- the notes on these lines
unfoldable pub notes_from : Place → List Line → List Note
notes_from place lines = notes_at place (up_to_bracket lines) ++ notes_following lines
