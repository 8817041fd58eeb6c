use Rattle.fleet_answers.proofs.{Prelude.{IfOk-weaker, IsAnswer, IsReturned}, Returned.{answers, own_viewer, own_known}}
use Rattle.fleet_answers.proofs.answers.answer_here.Goals as goal

pub answer-requires : goal.answer-requires
answer-requires c = record {
  viewer = own_viewer c.args.store.now c.args.extra.now c.args.question.now c.in_ok-names.field-0 c.in-Some.names c.in-Some.is c.in_ok-names.ensures.names c.deref.result.now
      c.deref.ensures.value c.viewer.result.now c.viewer.ensures.viewer c.in-Ok.snapshot c.in-Ok.ensures.snapshot;
  known = own_known c.args.store.now c.args.extra.now c.args.question.now c.in_ok-names.field-0 c.in-Some.names c.in-Some.is c.in_ok-names.ensures.names c.deref.result.now
      c.deref.ensures.value c.viewer.result.now c.viewer.ensures.viewer c.in-Ok.snapshot c.in-Ok.ensures.snapshot;
}

pub returns-in-Ok : goal.returns-in-Ok
returns-in-Ok c = record {
  answer = IfOk-weaker c.answer.result (IsReturned c.in-Ok.snapshot c.args.question.now) (IsAnswer c.args.store.now c.args.extra.now c.args.question.now)
      (answers c.args.store.now c.args.extra.now c.args.question.now c.in_ok-names.field-0 c.in-Some.names c.in-Some.is c.in_ok-names.ensures.names c.deref.result.now
      c.deref.ensures.value c.viewer.result.now c.viewer.ensures.viewer c.in-Ok.snapshot c.in-Ok.ensures.snapshot c.in_ok-names.ensures.template) c.answer.ensures.returned;
}
