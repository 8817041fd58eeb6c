use Rattle.fragment_choice.proofs.{Indexing.{Collecting}, Prelude.{All, HasOwnLinkTargets, IsOwnAt, keys_of, length}}
use Rattle.fragment_choice.proofs.aliases.add_linked.Given as goal

abbrev pub invariant-loop-placed : goal.invariant-loop-placed
invariant-loop-placed l = record {
  added : Collecting (IsOwnAt l.view l.level) l.entries (keys_of l.initial.targets.items) (keys_of l.targets.items);
  own : All (HasOwnLinkTargets l.view) l.initial.targets.items → All (HasOwnLinkTargets l.view) l.targets.items;
}

abbrev pub decreases-loop-placed : goal.decreases-loop-placed
decreases-loop-placed l = length l.entries
