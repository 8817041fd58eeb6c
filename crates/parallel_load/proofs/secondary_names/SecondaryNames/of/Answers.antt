use Rattle.parallel_load.proofs.{Prelude.{nat_cmp}, SecondaryNames.{in_order}, SideBySide.{sorted_is_non_decreasing}}
use Rattle.parallel_load.proofs.secondary_names.SecondaryNames.of.Goals as goal

pub invariant_of-result : goal.invariant_of-result
invariant_of-result c = sorted_is_non_decreasing nat_cmp c.sort_unstable.new.self.items c.sort_unstable.ensures.sorted

pub returns : goal.returns
returns c = record { second = in_order c.args.names.now c.in_ok-pairs.pairs.items c.sort_unstable.new.self.items c.sort_unstable.ensures.permutation c.in_ok-pairs.ensures.second }
