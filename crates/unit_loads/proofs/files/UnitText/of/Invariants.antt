use Rattle.std.proofs.Common.{◌++◌, ◌≡◌}
use Rattle.std.specs.Option.{option_copied}
use Rattle.unit_loads.proofs.Prelude.{[], borrowed_items, borrowed_notes, take}
use Rattle.unit_loads.specs.Units.{file_notes, files_with, items_of}
use Rattle.unit_loads.proofs.files.UnitText.of.Given as goal

abbrev pub invariant-loop-placed : goal.invariant-loop-placed
invariant-loop-placed l =
    (l.text.items ≡ items_of l.view (files_with (option_copied l.fragment) []) ++ borrowed_items (take l.placed-index l.dropins))
    × (l.text.notes ≡ file_notes l.view (files_with (option_copied l.fragment) []) ++ borrowed_notes l.view (take l.placed-index l.dropins))
