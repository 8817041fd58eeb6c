use Rattle.std.proofs.Common.{◌++◌, ◌≡◌}
use Rattle.path_maps.proofs.Prelude.{length, news_zipped}
use Rattle.path_maps.proofs.changes.find_news.Given as goal

abbrev pub invariant-loop-placed : goal.invariant-loop-placed
invariant-loop-placed l = l.places.items ++ news_zipped l.both ≡ news_zipped l.initial.both

abbrev pub decreases-loop-placed : goal.decreases-loop-placed
decreases-loop-placed l = length l.both
