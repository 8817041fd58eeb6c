use Rattle.fleet_answers.proofs.{Fleets.{agrees, by_events, holds_least, holds_same_later, IsOfReplica, of_store, of_sum}, Held.{got}, Prelude.{EntryMap, IsAnswer, length, subst}, worlds.answer_in_world.Given.{Over}}
use Rattle.fleet_answers.proofs.worlds.answer_in_world.Goals as goal

of_replica : (g : Over) (c : goal.After-drop-world-in-Some g) → IsOfReplica c.in-Ok.world c.args.node c.args.extra.now c.args.question.now c.in_ok-answer_question-in-Some.field-0
of_replica g c = record {
  replica = c.in-Some.replica.now;
  here = got (λ r. r.now) c.in-Ok.world.replicas.items c.args.node c.in-Some.replica (rw c.deref.ensures.value at c.in-Some.ensures.lookup);
  answers = subst (λ (s : EntryMap). IsAnswer s c.args.extra.now c.args.question.now c.in_ok-answer_question-in-Some.field-0) c.store-store.ensures.store
      c.in_ok-answer_question-in-Some.ensures.answer;
}

pub returns-in-Some-clause-model : goal.returns-in-Some-clause-model
returns-in-Some-clause-model g c = of_store (length c.args.writers.now) c.args.events.now (of_replica g c) c.in-Ok.ensures.model

pub returns-in-Some-clause-sum : goal.returns-in-Some-clause-sum
returns-in-Some-clause-sum g c = of_sum (length c.args.writers.now) c.args.events.now (of_replica g c) c.in-Ok.ensures.sums

pub returns-in-Some-clause-by_events : goal.returns-in-Some-clause-by_events
returns-in-Some-clause-by_events g c = by_events (length c.args.writers.now) c.args.events.now (of_replica g c) c.in-Ok.ensures.by_events

pub returns-in-Some-clause-same : goal.returns-in-Some-clause-same
returns-in-Some-clause-same g c = agrees (length c.args.writers.now) c.args.events.now (of_replica g c) c.in-Ok.ensures.same

pub returns-in-Some-clause-least : goal.returns-in-Some-clause-least
returns-in-Some-clause-least g c = holds_least (length c.args.writers.now) c.args.events.now c.args.node (c.converges.ensures.least (length c.args.writers.now) c.args.events.now)

pub returns-in-Some-clause-stores : goal.returns-in-Some-clause-stores
returns-in-Some-clause-stores g c = λ later. holds_same_later (length c.args.writers.now) c.args.events.now later c.args.node (c.converges.ensures.same (length c.args.writers.now) c.args.events.now later)
