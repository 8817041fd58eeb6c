use Rattle.fleet_answers.proofs.Prelude.{[], Answer, get_or, IfOk-weaker, IsAnswer, List, Replicated, subst, ◌∙◌}
use Rattle.fleet_answers.proofs.limits.SnapshotLimit.answer.Goals as goal

pub returns-in-Err-Memory-clause-answer : goal.returns-in-Err-Memory-clause-answer
returns-in-Err-Memory-clause-answer g c =
    let question = c.args.question.now in
    IfOk-weaker c.answer_of.result (λ (answer : Answer). (d : Replicated) → IsAnswer (get_or c.clear.new.replicas c.args.at d).store [] question answer)
    (λ (answer : Answer). (d : Replicated) → IsAnswer (get_or c.args.replicas.now c.args.at d).store [] question answer)
    (λ answer h d. subst (λ (rs : List Replicated). IsAnswer (get_or rs c.args.at d).store [] question answer) (c.clear.ensures.same ∙ c.answer_of-answered.ensures.same) (h d))
    c.answer_of.ensures.answer
