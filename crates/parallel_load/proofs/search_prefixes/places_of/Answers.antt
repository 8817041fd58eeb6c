use Rattle.parallel_load.proofs.{Prelude.{IsPartitionPoint-from_clause, rules}, SideBySide.{below, below_first, below_or_begins, below_or_begins_first, stand_within}}
use Rattle.parallel_load.proofs.search_prefixes.places_of.Goals as goal

pub returns-clause-all : goal.returns-clause-all
returns-clause-all g c =
    let search_prefix = c.args.search_prefix.now in
    let pairs = c.args.pairs.now in
    stand_within search_prefix pairs c.requires.ascending _ _
    (IsPartitionPoint-from_clause (below search_prefix pairs c.requires.ascending) pairs _ c.partition_point-start.ensures.partitioned (below_first search_prefix pairs c.requires.ascending) (λ a r f called. (search rules, search rules)))
    (IsPartitionPoint-from_clause (below_or_begins search_prefix pairs c.requires.ascending) pairs _ c.partition_point-end.ensures.partitioned (below_or_begins_first search_prefix pairs c.requires.ascending) (λ a r f called. (search rules, search rules)))
