use Rattle.std.proofs.Common.{◌++◌, ◌≡◌}
use Rattle.implied_names.proofs.Prelude.{map, paths_in, take}
use Rattle.implied_names.proofs.needed_paths.NeededPaths.add_texts.Given as goal

abbrev pub invariant-loop-text : goal.invariant-loop-text
invariant-loop-text l = l.self ≡ l.initial.self ++ paths_in (map (λ text. text.now) (take l.text-index l.texts))
