use Rattle.std.proofs.Common.{◌≡◌}
use Rattle.exchange_session.specs.Joined.{joined}
use Rattle.exchange_session.proofs.replies.take_all.Given as goal

abbrev pub invariant-loop-piece : goal.invariant-loop-piece
invariant-loop-piece l = record {
  taken : l.node.store ≡ joined l.initial.node.store l.yielded;
  writer : l.node.writer ≡ l.initial.node.writer;
}
