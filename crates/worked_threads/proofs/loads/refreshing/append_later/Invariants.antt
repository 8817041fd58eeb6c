use Rattle.worked_threads.proofs.Prelude.{host_view_of, IsLoad}
use Rattle.worked_threads.proofs.loads.refreshing.append_later.Given as goal

abbrev pub invariant-loop-count : goal.invariant-loop-count
invariant-loop-count l = IsLoad (host_view_of l.held.store l.held.load.viewer) l.held.load.extra l.held.load
