use Rattle.std.proofs.Common.{◌++◌, ◌≡◌}
use Rattle.setting_rules.proofs.Prelude.{faults_by, flat_map, key_for, map, names_by, note_on, take, words_of}
use Rattle.setting_rules.proofs.dependency_lists.Dependencies.add_kind.Given as goal

abbrev pub invariant-loop-value : goal.invariant-loop-value
invariant-loop-value l =
    let words = flat_map words_of (take l.value-index l.values) in
    (l.names.items ≡ names_by l.unit words) × (l.self.notes ≡ l.initial.self.notes ++ map (note_on (key_for l.kind)) (faults_by l.unit words)) × (l.self.lists ≡ l.initial.self.lists)
