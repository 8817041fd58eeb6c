use Rattle.fleet_answers.proofs.{Prelude.{Gone, next_version}, Touched.{touched_by_edit}}
use Rattle.fleet_answers.proofs.tracked.TrackedReplica.remove.Goals as goal

pub invariant_of-self : goal.invariant_of-self
invariant_of-self c =
    let old = c.self.inside.replica in
    c.note.ensures.noted old.store c.remove.new.self.store
    (touched_by_edit c.remove.result old c.remove.new.self (record { place = c.args.place; version = next_version old; content = Gone }) c.from_ref.result.now
    c.from_ref.ensures.value c.remove.ensures.joined c.remove.ensures.err)
    c.self.invariant
