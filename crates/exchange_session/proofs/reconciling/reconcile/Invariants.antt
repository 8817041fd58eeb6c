use Rattle.std.proofs.Common.{◌≡◌}
use Rattle.edit_sums.specs.Sums.{IsStoreBelow}
use Rattle.exchange_session.specs.Runs.{Run, said_of}
use Rattle.exchange_session.proofs.reconciling.reconcile.Given as goal

abbrev pub invariant-loop : goal.invariant-loop
invariant-loop l = record {
  run : Run l.seed l.initial.one.store l.initial.other.store l.one.store l.other.store (said_of l.message);
  kept : IsStoreBelow l.initial.one.store l.one.store;
  others_kept : IsStoreBelow l.initial.other.store l.other.store;
  writer : l.one.writer ≡ l.initial.one.writer;
  others_writer : l.other.writer ≡ l.initial.other.writer;
}
