use Rattle.fleet_answers.proofs.{Prelude.{All, IsCachedFor, List, PlaceParts, subst, sym}, Touched.{all_more}}
use Rattle.fleet_answers.proofs.caches.SnapshotCache.note.Goals as goal

pub returns-in-Ok : goal.returns-in-Ok
returns-in-Ok c = record {
  noted = λ s t but all.
      let ones = c.args.self.now.cached.items in
      c.shorten.ensures.kept t
      (subst (λ (ps : List PlaceParts). All (IsCachedFor t ps) ones) (sym c.in-Ok.ensures.appended)
      (all_more s t c.args.self.now.touched.items c.args.places.now but ones all));
}
