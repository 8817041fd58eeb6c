use Rattle.std.proofs.Common.{[], false, ◌≡◌}
use Rattle.node_exchange.specs.Later.{IsLater}
use Rattle.node_exchange.proofs.Talking.{Hearing}
use Rattle.node_exchange.proofs.hearing.hear.Given as goal

abbrev pub invariant-loop : goal.invariant-loop
invariant-loop g l = record {
  hearing : Hearing l.fn.first l.frame l.fn.node.replica.store l.node.replica.store l.heard.prints.items l.heard.asks.items (g.S.Source.remaining l.fn.source) (g.S.Source.remaining l.source);
  later : IsLater g.L.EditLog.is_honest g.L.EditLog.head g.L.EditLog.may_leave l.initial.node l.node;
  peers : g.L.EditLog.is_honest l.node.log → g.L.EditLog.peers l.node.log ≡ g.L.EditLog.peers l.fn.node.log;
  whole : l.node.is_spent ≡ false;
  saved : l.node.unsaved ≡ [];
}
