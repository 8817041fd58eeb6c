use Rattle.std.proofs.Common.{◌++◌, ◌≡◌}
use Rattle.setting_rules.proofs.Prelude.{escape_notes_at, rows_at, take}
use Rattle.setting_rules.proofs.rows.Values.add_key.Given as goal

abbrev pub invariant-loop-text : goal.invariant-loop-text
invariant-loop-text l =
    (l.self.rows ≡ l.initial.self.rows ++ rows_at l.unit l.key (take l.text-index l.texts)) × (l.self.notes ≡ l.initial.self.notes ++ escape_notes_at l.unit l.key (take l.text-index l.texts))
