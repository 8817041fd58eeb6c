use Rattle.parallel_load.proofs.UnitsPut.{put_is}
use Rattle.parallel_load.proofs.loaded.put_unit.Goals as goal

pub returns : goal.returns
returns c = record { put = put_is c.args.names.now.items c.args.index c.index_mut.result.now c.args.unit c.requires.within c.index_mut.ensures.value }
