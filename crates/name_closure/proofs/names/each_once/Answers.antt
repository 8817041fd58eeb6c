use Rattle.name_closure.proofs.{News.{few_ascend, once_ascends, once_back, once_there}, Prelude.{arith, dedup_is}}
use Rattle.name_closure.proofs.names.each_once.Goals as goal

pub returns-then-len-gt1-clause-ascending : goal.returns-then-len-gt1-clause-ascending
returns-then-len-gt1-clause-ascending g c =
    once_ascends g.K.Ord.cmp g.met.K.Ord.total g.met.K.Key.exact g.K.PartialEq.eq g.met.K.Eq.laws g.met.K.Ord.matches_eq c.args.nodes.items
    c.sort_unstable.new.self.items c.dedup.new.self.items c.sort_unstable.ensures.permutation c.sort_unstable.ensures.sorted
    (dedup_is g.K.PartialEq.eq _ _ c.dedup.ensures.filtered)

pub returns-then-len-gt1-clause-members : goal.returns-then-len-gt1-clause-members
returns-then-len-gt1-clause-members g c = λ n. (
  once_back g.K.Ord.cmp g.met.K.Ord.total g.met.K.Key.exact g.K.PartialEq.eq g.met.K.Eq.laws g.met.K.Ord.matches_eq c.args.nodes.items
      c.sort_unstable.new.self.items c.dedup.new.self.items c.sort_unstable.ensures.permutation c.sort_unstable.ensures.sorted
      (dedup_is g.K.PartialEq.eq _ _ c.dedup.ensures.filtered) n,
  once_there g.K.Ord.cmp g.met.K.Ord.total g.met.K.Key.exact g.K.PartialEq.eq g.met.K.Eq.laws g.met.K.Ord.matches_eq c.args.nodes.items
      c.sort_unstable.new.self.items c.dedup.new.self.items c.sort_unstable.ensures.permutation c.sort_unstable.ensures.sorted
      (dedup_is g.K.PartialEq.eq _ _ c.dedup.ensures.filtered) n,
)

pub returns-else-len-gt1-clause-ascending : goal.returns-else-len-gt1-clause-ascending
returns-else-len-gt1-clause-ascending g c = few_ascend g.K.Ord.cmp c.args.nodes.items (omega (arith, c.if-len-gt1.false, c.len.ensures))
