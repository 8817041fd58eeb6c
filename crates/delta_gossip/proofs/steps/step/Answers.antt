use Rattle.std.proofs.Common.{rules}
use Rattle.delta_gossip.proofs.steps.step.Goals as goal

pub returns-in-Put-clause-model : goal.returns-in-Put-clause-model
returns-in-Put-clause-model c = search rules
