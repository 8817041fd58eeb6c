use Rattle.std.proofs.Common.{◌≡◌}
use Rattle.setting_rules.proofs.Prelude.{drop, values_at}
use Rattle.setting_rules.proofs.maps.SettingMap.values_of.Given as goal

-- the key isn't among the entries visited so far
abbrev pub invariant-loop-place : goal.invariant-loop-place
invariant-loop-place l =
    values_at l.self (record { section = l.section; key = l.key }) ≡ values_at (drop l.place l.self) (record { section = l.section; key = l.key })
