use Rattle.std.proofs.Common.{◌+◌, ◌≡◌}
use Rattle.path_maps.proofs.Prelude.{all_listed, greatest_counter, length, max}
use Rattle.path_maps.proofs.counts.count_entries.Given as goal

abbrev pub invariant-loop-placed : goal.invariant-loop-placed
invariant-loop-placed l =
    (l.counts.len + length l.entries ≡ length (all_listed l.scopes)) ×
    (max l.counts.high (greatest_counter l.entries) ≡ greatest_counter (all_listed l.scopes))

abbrev pub decreases-loop-placed : goal.decreases-loop-placed
decreases-loop-placed l = length l.entries
