use Rattle.std.proofs.Common.{◌-◌, ◌≡◌}
use Rattle.fragment_choice.proofs.Prelude.{follow, resolution}
use Rattle.fragment_choice.proofs.resolutions.follow_aliases.Given as goal

abbrev pub invariant-loop-step : goal.invariant-loop-step
invariant-loop-step g l = follow (g.C.Chooses.in_view l.chooser) (9 - l.step) l.name l.main ≡ resolution (g.C.Chooses.in_view l.chooser) l.name
