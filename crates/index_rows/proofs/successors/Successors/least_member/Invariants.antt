use Rattle.index_rows.proofs.Prelude.{IsAmong, IsLeastOrNone, IsMember, successors_from, take}
use Rattle.index_rows.proofs.successors.Successors.least_member.Given as goal

abbrev pub invariant-loop-adjacency : goal.invariant-loop-adjacency
invariant-loop-adjacency l = IsLeastOrNone (λ v. IsAmong v (successors_from (take l.adjacency-index l.self) l.node) × IsMember l.bits v) l.least
