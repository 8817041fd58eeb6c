use Rattle.fleet_answers.proofs.{Prelude.{[], IfOk-weaker, IsAnswer, get_or, Replicated, subst}, Touched.{found_alike}}
use Rattle.fleet_answers.proofs.limits.answer_of.Goals as goal

pub returns-clause-answer : goal.returns-clause-answer
returns-clause-answer g c =
    let found : Replicated → Replicated = get_or c.args.replicas.now c.args.at in
    let r : Replicated = c.index-replicas-at.result in
    IfOk-weaker c.answer.result (IsAnswer (found r).store [] c.args.question.now) (λ answer. (d : Replicated) → IsAnswer (found d).store [] c.args.question.now answer)
    (λ answer h d. subst (λ (x : Replicated). IsAnswer x.store [] c.args.question.now answer) (found_alike c.args.replicas.now c.args.at r d c.requires.within) h)
    c.answer.ensures.answer
