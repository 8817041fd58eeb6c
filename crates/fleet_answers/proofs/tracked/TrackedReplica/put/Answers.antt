use Rattle.fleet_answers.proofs.{Prelude.{next_version}, Touched.{touched_by_edit}}
use Rattle.fleet_answers.proofs.tracked.TrackedReplica.put.Goals as goal

pub invariant_of-self : goal.invariant_of-self
invariant_of-self c =
    let old = c.self.inside.replica in
    c.note.ensures.noted old.store c.put.new.self.store
    (touched_by_edit c.put.result old c.put.new.self (record { place = c.args.place; version = next_version old; content = c.args.content }) c.from_ref.result.now
    c.from_ref.ensures.value c.put.ensures.joined c.put.ensures.err)
    c.self.invariant
