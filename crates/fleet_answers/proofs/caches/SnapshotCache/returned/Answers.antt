use Rattle.fleet_answers.proofs.Prelude.{IsSnapshotOf, LoadMap, subst, sym}
use Rattle.fleet_answers.proofs.caches.SnapshotCache.returned.Goals as goal

pub returns-in_err-answer-clause-kept : goal.returns-in_err-answer-clause-kept
returns-in_err-answer-clause-kept c = λ s made all. c.answer.ensures.kept s all

pub returns-clause-kept : goal.returns-clause-kept
returns-clause-kept c = λ s made all.
    c.keep.ensures.kept s (subst (λ (l : LoadMap). IsSnapshotOf s l) (sym c.answer.ensures.load) made) (c.answer.ensures.kept s all)
