use Rattle.worked_threads.proofs.Loading.{before_changed, own_load}
use Rattle.worked_threads.proofs.loads.refreshing.LoadedStore.refreshed.Goals as goal

pub refresh-requires : goal.refresh-requires
refresh-requires c =
    record { before = before_changed c.args.self.now.store c.args.store.now c.args.self.now.load c.args.changed.now c.requires.load c.requires.changed }

pub returns : goal.returns
returns c = record { load = own_load c.args.store.now c.args.self.now.load.viewer c.args.self.now.load.extra c.in_ok-load.load c.in_ok-load.ensures.load }
