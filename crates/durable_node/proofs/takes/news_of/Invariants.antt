use Rattle.std.proofs.Common.{◌≡◌, ◌++◌, length}
use Rattle.durable_node.specs.News.{news_left, news_of}
use Rattle.durable_node.proofs.takes.news_of.Given as goal

abbrev pub invariant-loop-placed : goal.invariant-loop-placed
invariant-loop-placed l = l.news.items ++ news_left l.both ≡ news_of l.fn.store l.fn.other

abbrev pub decreases-loop-placed : goal.decreases-loop-placed
decreases-loop-placed l = length l.both
