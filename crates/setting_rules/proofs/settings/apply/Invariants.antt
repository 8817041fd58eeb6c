use Rattle.std.proofs.Common.{◌≡◌}
use Rattle.setting_rules.proofs.{Firsts.{pairs}, Kept.{kept}, Prelude.{boolean_notes, keys_of, take}}
use Rattle.setting_rules.proofs.settings.apply.Given as goal

-- the values after the assignments so far
abbrev pub invariant-loop-index : goal.invariant-loop-index
invariant-loop-index l =
    let so_far = take l.index l.assignments in
    (l.settings.map ≡ pairs (kept l.profile l.starts.conditions l.starts.assertions so_far) (keys_of l.profile so_far)) × (l.settings.notes ≡ boolean_notes l.profile so_far) × (l.settings.profile ≡ l.profile)
