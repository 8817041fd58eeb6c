use Rattle.std.proofs.Common.{◌++◌, ◌∙◌, ap, List}
use Rattle.edit_sums.specs.declared.entries.Edit.{Edit}
use Rattle.std.specs.FinMap as finmap
use Rattle.durable_node.specs.News.{news_left}
use Rattle.durable_node.specs.NewsLaws.{news_beside}
use Rattle.durable_node.proofs.takes.news_of.Goals as goal

pub loop-placed-init : goal.loop-placed-init
loop-placed-init c = ap (λ (l : List Edit). l ++ news_left c.entries_zipped-both.result) c.new-news.ensures.items ∙ ap news_left c.entries_zipped-both.ensures.entries ∙ news_beside c.args.store.now (finmap.entries c.args.other.now)
