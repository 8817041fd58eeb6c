use Rattle.name_closure.proofs.{News.{news_are}, Prelude.{filter_same, is_at, is_some-lookup, keys, list_any, not, rules}}
use Rattle.name_closure.proofs.rounds.new_of.Goals as goal

pub returns : goal.returns
returns g c = record {
  fresh =
      news_are g.K.Ord.cmp g.met.K.Ord.total g.met.K.Key.exact (keys c.args.found.now) c.args.nodes.items c.retain.new.self.items c.each_once.result.items
      (filter_same _ (λ n. not (list_any (is_at (g.K.Ord.cmp n)) (keys c.args.found.now))) _ (λ x b f' k. search (rules, is_some-lookup)) _ _ c.retain.ensures.filtered)
      c.each_once.ensures.ascending c.each_once.ensures.members;
}
