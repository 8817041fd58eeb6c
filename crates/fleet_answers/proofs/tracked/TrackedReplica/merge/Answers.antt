use Rattle.fleet_answers.proofs.Touched.{between_joined}
use Rattle.fleet_answers.proofs.tracked.TrackedReplica.merge.Goals as goal

pub invariant_of-self : goal.invariant_of-self
invariant_of-self c =
    let lies = between_joined c.merge.result c.self.inside.replica c.merge.new.self c.args.other.now c.merge.ensures.ok c.merge.ensures.kept c.merge.ensures.within in
    (rw c.store.ensures.store at c.note_news.ensures.noted) c.merge.new.self.store lies.0 lies.1 c.self.invariant
