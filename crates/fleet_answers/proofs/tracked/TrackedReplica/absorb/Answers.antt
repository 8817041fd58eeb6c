use Rattle.fleet_answers.proofs.Touched.{between_joined}
use Rattle.fleet_answers.proofs.tracked.TrackedReplica.absorb.Goals as goal

pub invariant_of-self : goal.invariant_of-self
invariant_of-self c =
    let lies = between_joined c.absorb.result c.self.inside.replica c.absorb.new.self c.args.other c.absorb.ensures.ok c.absorb.ensures.kept c.absorb.ensures.within in
    (rw c.store.ensures.store at c.note_news.ensures.noted) c.absorb.new.self.store lies.0 lies.1 c.self.invariant
