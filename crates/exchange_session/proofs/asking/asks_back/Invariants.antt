use Rattle.std.proofs.Common.{[], All, ◌≡◌}
use Rattle.exchange_session.proofs.Prelude.{digest_of, PlaceParts, versions_of}
use Rattle.exchange_session.specs.Told.{IsAskedAt, IsAskedBack, IsNewerAt, IsNothingNew, IsOwnAsk}
use Rattle.exchange_session.proofs.asking.asks_back.Given as goal

abbrev pub invariant-loop-ask : goal.invariant-loop-ask
invariant-loop-ask l = record {
  own : All (IsOwnAsk (versions_of l.node.store)) l.back.items;
  back : All (IsAskedBack (digest_of l.node.store) l.back.items) l.yielded;
  stays : (p : PlaceParts) → IsAskedAt l.back.items p → IsNewerAt (digest_of l.node.store) l.yielded p;
  none : All (IsNothingNew (digest_of l.node.store)) l.yielded → l.back.items ≡ [];
}
