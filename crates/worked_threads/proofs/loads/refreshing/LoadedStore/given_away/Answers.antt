use Rattle.worked_threads.proofs.Loading.{before_changed}
use Rattle.worked_threads.proofs.loads.refreshing.LoadedStore.given_away.Goals as goal

pub refresh_in_place-requires : goal.refresh_in_place-requires
refresh_in_place-requires c =
    record { before = before_changed c.args.self.store c.args.store.now c.args.self.load c.args.changed.now c.requires.load c.requires.changed }
