use Rattle.script_homes.proofs.Prefixes.{all_is_prefix}
use Rattle.script_homes.proofs.writing.give_up.Goals as goal

pub returns-in-Ok-clause-prefix : goal.returns-in-Ok-clause-prefix
returns-in-Ok-clause-prefix g c = all_is_prefix (g.K.Sink.contents c.args.writer.now) (g.K.Sink.contents c.write_all.new.sink) c.args.pending.now c.in-Ok.ensures.ok
