use Rattle.std.proofs.Common.{◌≡◌}
use Rattle.setting_rules.proofs.Prelude.{escape_notes, rows_of, take}
use Rattle.setting_rules.proofs.expansions.values.Given as goal

abbrev pub invariant-loop-place : goal.invariant-loop-place
invariant-loop-place l =
    (l.values.rows ≡ rows_of l.settings.profile (take l.place l.settings.map) l.unit) × (l.values.notes ≡ escape_notes l.settings.profile (take l.place l.settings.map) l.unit)
