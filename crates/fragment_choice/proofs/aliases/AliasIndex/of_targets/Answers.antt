use Rattle.fragment_choice.proofs.Indexing.{index_of}
use Rattle.fragment_choice.proofs.aliases.AliasIndex.of_targets.Goals as goal

pub invariant_of-result : goal.invariant_of-result
invariant_of-result c = index_of c.args.view c.args.targets.now c.in_ok-aliases.aliases c.in_ok-aliases.owners c.requires.targets c.in_ok-aliases.ensures.index
