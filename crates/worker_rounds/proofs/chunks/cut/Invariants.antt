use Rattle.std.proofs.Common.{◌++◌, ◌-◌, ◌<◌, ◌≡◌, ◌≤◌}
use Rattle.worker_rounds.proofs.Prelude.{All, flat_map, length, map, range_with_len}
use Rattle.worker_rounds.proofs.chunks.cut.Given as goal

abbrev pub invariant-loop-done : goal.invariant-loop-done
invariant-loop-done g l = record {
  whole : l.rest.items ++ flat_map (λ chunk. chunk.nodes.items) l.chunks.items ≡ l.fn.nodes.items;
  count : length l.chunks.items ≡ l.done;
  filled : All (λ chunk. 0 < length chunk.nodes.items) l.chunks.items;
  numbered : map (λ chunk. chunk.number) l.chunks.items ≡ range_with_len (l.count - l.done) l.done;
  enough : l.count - l.done ≤ length l.rest.items;
  last : l.count ≤ l.done → length l.rest.items ≡ 0;
}
