use Rattle.fleet_answers.proofs.tracked.TrackedReplica.drop_snapshot.Goals as goal

pub invariant_of-self : goal.invariant_of-self
invariant_of-self c = c.forget.ensures.kept c.self.inside.replica.store c.self.invariant
