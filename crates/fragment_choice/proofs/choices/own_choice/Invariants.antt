use Rattle.std.proofs.Common.{◌<◌, ◌≡◌}
use Rattle.fragment_choice.proofs.Prelude.{drop, first_said, IsName, levels, own_choice, says}
use Rattle.fragment_choice.proofs.choices.own_choice.Given as goal

abbrev pub invariant-loop-level : goal.invariant-loop-level
invariant-loop-level l = record {
  said : first_said (says l.view l.name l.own) (drop l.level levels) ≡ own_choice l.view l.name l.own;
  well_formed : 0 < l.level → IsName l.own;
}
