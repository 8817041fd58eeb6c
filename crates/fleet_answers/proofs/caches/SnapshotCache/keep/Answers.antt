use Rattle.std.proofs.Common.{◌≡◌}
use Rattle.fleet_answers.proofs.{Prelude.{arith, is_ok, IsCachedFor, length}, Touched.{all_pushed, newest}}
use Rattle.fleet_answers.proofs.caches.SnapshotCache.keep.Goals as goal

pub returns : goal.returns
returns c = record {
  kept = λ s made all.
      let cache = c.make_room.new.self in
      let touched = cache.touched in
      let mark : c.len-mark.result ≡ length touched.items = omega (arith, c.len-mark.ensures, touched.ok) in
      all_pushed (IsCachedFor s touched.items) (is_ok c.push.result) cache.cached.items c.push.new.self.items (record { snapshot = c.args.snapshot; mark = c.len-mark.result })
      c.push.ensures.items (c.make_room.ensures.kept s all) (newest s touched.items c.args.snapshot c.len-mark.result mark made);
}
