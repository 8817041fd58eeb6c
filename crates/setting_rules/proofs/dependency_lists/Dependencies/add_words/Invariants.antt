use Rattle.std.proofs.Common.{◌++◌, ◌≡◌}
use Rattle.setting_rules.proofs.Prelude.{faults_by, key_for, map, names_by, note_on, take}
use Rattle.setting_rules.proofs.dependency_lists.Dependencies.add_words.Given as goal

abbrev pub invariant-loop-word : goal.invariant-loop-word
invariant-loop-word l =
    let words = map (λ word. word.now) (take l.word-index l.words) in
    (l.names.items ≡ l.initial.names.items ++ names_by l.unit words) × (l.self.notes ≡ l.initial.self.notes ++ map (note_on (key_for l.kind)) (faults_by l.unit words)) × (l.self.lists ≡ l.initial.self.lists)
