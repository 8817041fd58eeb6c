use Rattle.std.proofs.Common.{◌++◌, ◌≡◌}
use Rattle.fragment_choice.proofs.Prelude.{drop, levels, link_targets, map, Some, targets_in, words_of}
use Rattle.fragment_choice.proofs.link_targets.LinkTargets.of.Given as goal

abbrev pub invariant-loop-level : goal.invariant-loop-level
invariant-loop-level l = map (λ target. Some target) l.links ++ words_of (targets_in l.view l.name (drop l.level levels)) ≡ link_targets l.view l.name
