use Rattle.std.proofs.Common.{[], false, ◌≡◌}
use Rattle.node_exchange.specs.Later.{IsLater}
use Rattle.node_exchange.proofs.Talking.{Talking}
use Rattle.node_exchange.proofs.turns.converse.Given as goal

abbrev pub invariant-loop : goal.invariant-loop
invariant-loop g l = record {
  talking : Talking l.seed l.fn.node.replica.store (record { prints = l.fn.heard.prints.items; asks = l.fn.heard.asks.items; pieces = [] }) l.fn.hello
      l.node.replica.store (record { prints = l.heard.prints.items; asks = l.heard.asks.items; pieces = [] }) l.hello
      (g.K.Sink.contents l.fn.sink) (g.K.Sink.contents l.sink) (g.S.Source.remaining l.fn.source) (g.S.Source.remaining l.source);
  later : IsLater g.L.EditLog.is_honest g.L.EditLog.head g.L.EditLog.may_leave l.initial.node l.node;
  peers : g.L.EditLog.is_honest l.node.log → g.L.EditLog.peers l.node.log ≡ g.L.EditLog.peers l.fn.node.log;
  whole : l.node.is_spent ≡ false;
  saved : l.node.unsaved ≡ [];
}
