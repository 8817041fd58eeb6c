use Rattle.std.proofs.Common.{◌≡◌, ◌≤◌}
use Rattle.setting_rules.proofs.Prelude.{drop, following_last, resets_family, take}
use Rattle.setting_rules.proofs.settings.family_start.Given as goal

abbrev pub invariant-loop-index : goal.invariant-loop-index
invariant-loop-index l =
    (l.start ≤ l.index) × (drop l.start (take l.index l.assignments) ≡ following_last (resets_family l.profile l.family) (take l.index l.assignments))
