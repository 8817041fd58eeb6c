use Rattle.std.proofs.Common.{◌≡◌}
use Rattle.fragment_choice.proofs.{OwnLinks.{by_links_from}, Prelude.{own_alias}}
use Rattle.fragment_choice.proofs.link_targets.LinkTargets.alias.Given as goal

abbrev pub invariant-loop-target : goal.invariant-loop-target
invariant-loop-target l = by_links_from l.name l.target-items l.target-index ≡ own_alias l.name l.self
