use Rattle.fleet_answers.proofs.Prelude.{AreKnown, LoadMap, names_asked, subst, sym}
use Rattle.fleet_answers.proofs.caches.SnapshotCache.answer.Goals as goal

pub answer-requires-in-Err-clause-known : goal.answer-requires-in-Err-clause-known
answer-requires-in-Err-clause-known c = subst (λ (l : LoadMap). AreKnown l (names_asked c.args.question.now)) (sym c.in-Err.ensures.load) c.requires.known
