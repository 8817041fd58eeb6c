use Rattle.fleet_answers.proofs.{Prelude.{All, Cached, IsCachedFor, List, subst, sym}, Touched.{all_but}}
use Rattle.fleet_answers.proofs.caches.SnapshotCache.make_room.Goals as goal

pub returns-then-len-ge-MOST_SNAPSHOTS : goal.returns-then-len-ge-MOST_SNAPSHOTS
returns-then-len-ge-MOST_SNAPSHOTS c = record {
  kept = λ s all.
      let touched = c.args.self.now.touched.items in
      subst (λ (ones : List Cached). All (IsCachedFor s touched) ones) (sym c.remove.ensures.items)
      (all_but (IsCachedFor s touched) c.args.self.now.cached.items 0 all);
}
