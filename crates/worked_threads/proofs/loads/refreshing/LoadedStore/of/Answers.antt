use Rattle.worked_threads.proofs.Loading.{own_load}
use Rattle.worked_threads.proofs.loads.refreshing.LoadedStore.of.Goals as goal

pub returns : goal.returns
returns c = record { load = own_load c.args.store c.args.viewer.now c.args.names.now c.in_ok-load.load c.in_ok-load.ensures.load }
