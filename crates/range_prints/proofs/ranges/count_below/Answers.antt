use Rattle.range_prints.proofs.{Bounds.{below_first, parted}, Prelude.{IsPartitionPoint-from_clause, rules}}
use Rattle.range_prints.specs.Ranges.{is_below}
use Rattle.range_prints.proofs.ranges.count_below.Goals as goal

pub returns : goal.returns
returns c =
    let place = c.args.place.now in
    let versions = c.args.versions.now in
    let point = IsPartitionPoint-from_clause (λ v. is_below place v.0) versions _ c.partition_point.ensures.partitioned (below_first place versions c.requires.sorted) (λ a r f called. (search rules, search rules)) in
    let both = parted (is_below place) versions _ c.partition_point.ensures.bound point in
    record { most = c.partition_point.ensures.bound; below = both.0; others = both.1 }
