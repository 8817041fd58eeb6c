use Rattle.std.proofs.Common.{◌≡◌}
use Rattle.dropins.proofs.Prelude.{entry_name, filter, is_name}
use Rattle.dropins.proofs.folder_lists.named_like_units.Given as goal

abbrev pub invariant-loop-placed : goal.invariant-loop-placed
invariant-loop-placed l = l.named.items ≡ filter (λ p. is_name (entry_name p)) l.yielded
