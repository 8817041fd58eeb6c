use Rattle.fragment_choice.proofs.{Levels.{IsLevel}, Prelude.{AreAliasesWithin}}
use Rattle.fragment_choice.proofs.aliases.AliasIndex.all_after.Given as goal

abbrev pub invariant-loop-depth : goal.invariant-loop-depth
invariant-loop-depth l = record {
  level : IsLevel l.self l.name l.depth l.level.items;
  after : AreAliasesWithin l.self l.name l.depth l.others.keys;
}
