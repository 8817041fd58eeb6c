use Rattle.std.proofs.Common.{◌≡◌}
use Rattle.dropins.proofs.Prelude.{[], flat_map, fold, folders_of, IsKept, take, with_name}
use Rattle.dropins.proofs.folder_lists.folders.Given as goal

abbrev pub invariant-loop-name : goal.invariant-loop-name
invariant-loop-name l = (l.all.names.items ≡ fold with_name [] (flat_map folders_of (take l.name-index l.names))) × IsKept l.all
