use Rattle.std.proofs.Common.{◌*◌, ◌≡◌, ◌≤◌}
use Rattle.chunked_pairs.proofs.Prelude.{later, length, take, viewed}
use Rattle.chunked_pairs.proofs.chunks.len_behind.Given as goal

abbrev pub invariant-loop-behind : goal.invariant-loop-behind
invariant-loop-behind g l = record {
  len : l.len ≡ length (later (viewed (take l.behind-index l.more)));
  small : l.len ≤ l.behind-index * 128;
}
