use Rattle.fragment_choice.proofs.{Indexing.{IsOwnBelow}, Prelude.{All, Collects, HasOwnLinkTargets, keys_of}}
use Rattle.fragment_choice.proofs.aliases.linked_targets.Given as goal

abbrev pub invariant-loop-level : goal.invariant-loop-level
invariant-loop-level l = record {
  linked : Collects (IsOwnBelow l.view l.level) (keys_of l.initial.targets.items) (keys_of l.targets.items);
  own : All (HasOwnLinkTargets l.view) l.targets.items;
}
