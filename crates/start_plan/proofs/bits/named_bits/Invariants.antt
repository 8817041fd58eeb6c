use Rattle.std.proofs.Common.{◌↔◌, ◌≡◌}
use Rattle.start_plan.proofs.Prelude.{count_of, IsAmong, IsIndexFor, IsMember, length, Name, take, ℕ}
use Rattle.start_plan.proofs.bits.named_bits.Given as goal

abbrev pub invariant-loop-name : goal.invariant-loop-name
invariant-loop-name l = record {
  units : length l.bits.items ≡ count_of l.graph.load;
  bits : (i : ℕ) → IsMember l.bits.items i ↔ ((n : Name) × IsAmong n (take l.name-index l.names) × IsIndexFor l.graph.load n i);
}
