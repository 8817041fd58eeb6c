use Rattle.std.proofs.Common.{◌≡◌}
use Rattle.implied_names.proofs.Prelude.{filter, last_of, map, option_copied, says_failing, take}
use Rattle.implied_names.proofs.mount_roles.last_failing.Given as goal

abbrev pub invariant-loop-option : goal.invariant-loop-option
invariant-loop-option l = option_copied l.last ≡ last_of (filter says_failing (map (λ option. option.now) (take l.option-index l.options)))
