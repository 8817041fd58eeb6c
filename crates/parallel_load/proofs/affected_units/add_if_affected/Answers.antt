use Rattle.parallel_load.proofs.{Prelude.{length}, Seeking.{grown_one, one_there}}
use Rattle.parallel_load.proofs.affected_units.add_if_affected.Goals as goal

pub returns-in_ok-push-clause-grows : goal.returns-in_ok-push-clause-grows
returns-in_ok-push-clause-grows c = grown_one (length c.args.names.now) c.args.affected.now.items c.push.new.self.items c.args.index c.requires.within c.in_ok-push.ensures.items

pub returns-in_ok-push-clause-noted : goal.returns-in_ok-push-clause-noted
returns-in_ok-push-clause-noted c = λ p h. one_there c.args.affected.now.items c.push.new.self.items c.args.index c.in_ok-push.ensures.items
