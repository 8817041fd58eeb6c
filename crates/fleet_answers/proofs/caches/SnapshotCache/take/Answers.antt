use Rattle.fleet_answers.proofs.{Prelude.{All, Cached, IsCachedFor, List, subst, sym}, Touched.{all_but}}
use Rattle.fleet_answers.proofs.caches.SnapshotCache.take.Goals as goal

pub returns-clause-taken : goal.returns-clause-taken
returns-clause-taken c = λ s all.
    subst (λ (one : Cached). IsCachedFor s c.args.self.now.touched.items one) (sym c.remove.ensures.value)
    (all c.in_ok-at.at c.remove.result c.in_ok-at.ensures.there)

pub returns-clause-kept : goal.returns-clause-kept
returns-clause-kept c = λ s all.
    subst (λ (ones : List Cached). All (IsCachedFor s c.args.self.now.touched.items) ones) (sym c.remove.ensures.items)
    (all_but (IsCachedFor s c.args.self.now.touched.items) c.args.self.now.cached.items c.in_ok-at.at all)
