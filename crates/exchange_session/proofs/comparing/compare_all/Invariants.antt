use Rattle.std.proofs.Common.{[], All, ◌≡◌}
use Rattle.exchange_session.specs.Told.{IsOwnAsk, IsOwnPrint, IsPursued, StaysUnequal}
use Rattle.exchange_session.proofs.comparing.compare_all.Given as goal

abbrev pub invariant-loop-print : goal.invariant-loop-print
invariant-loop-print l = record {
  prints : All (IsOwnPrint l.seed l.own) l.all.prints.items;
  asks : All (IsOwnAsk l.own) l.all.asks.items;
  pursued : All (IsPursued l.seed l.own l.all.prints.items l.all.asks.items) l.yielded;
  stays : StaysUnequal l.seed l.own l.yielded l.all.prints.items l.all.asks.items;
  agreed : All (IsOwnPrint l.seed l.own) l.yielded → (l.all.prints.items ≡ []) × (l.all.asks.items ≡ []);
}
