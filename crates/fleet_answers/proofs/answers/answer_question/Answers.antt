use Rattle.fleet_answers.proofs.{Prelude.{IsAnswer, IsReturned}, Returned.{answers, of_mapped, own_viewer, own_known}}
use Rattle.fleet_answers.proofs.answers.answer_question.Goals as goal

pub answer-requires : goal.answer-requires
answer-requires g c = record {
  viewer = own_viewer c.args.store.now c.args.extra.now c.args.question.now c.in-Ok.names c.in-Some.names c.in-Some.is c.in-Ok.ensures.names c.deref.result.now
      c.deref.ensures.value c.viewer.result.now c.viewer.ensures.viewer c.in-Ok-by_workers.snapshot c.in-Ok-by_workers.ensures.snapshot;
  known = own_known c.args.store.now c.args.extra.now c.args.question.now c.in-Ok.names c.in-Some.names c.in-Some.is c.in-Ok.ensures.names c.deref.result.now
      c.deref.ensures.value c.viewer.result.now c.viewer.ensures.viewer c.in-Ok-by_workers.snapshot c.in-Ok-by_workers.ensures.snapshot;
}

pub returns-in-Ok-by_workers-clause-answer : goal.returns-in-Ok-by_workers-clause-answer
returns-in-Ok-by_workers-clause-answer g c =
    of_mapped (IsReturned c.in-Ok-by_workers.snapshot c.args.question.now) (IsAnswer c.args.store.now c.args.extra.now c.args.question.now) _ c.answer.result c.map_err.result
    (answers c.args.store.now c.args.extra.now c.args.question.now c.in-Ok.names c.in-Some.names c.in-Some.is c.in-Ok.ensures.names c.deref.result.now c.deref.ensures.value
    c.viewer.result.now c.viewer.ensures.viewer c.in-Ok-by_workers.snapshot c.in-Ok-by_workers.ensures.snapshot c.in-Ok.ensures.template)
    c.map_err.ensures.cases c.map_err.ensures.variant c.answer.ensures.returned
