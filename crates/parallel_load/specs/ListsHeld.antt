-- Where a load holds what its units name: definitions for private clauses.
-- Source: this project's own.
use Rattle.parallel_load.specs.{declared.kept.ListsHeld.{ListsHeld, TheVariants.{Alone, Nowhere, Unit as OfUnit}}, Prelude.{[], Coded, coded_list, DependencyList, List}}
use Rattle.setting_rules.specs.contracts.dependency_lists.DependencyList as list

abbrev pub coded_lists : Coded (List DependencyList)
coded_lists = coded_list (list.the_row).coded

-- the lists
abbrev pub lists_held : ListsHeld → List DependencyList
lists_held (OfUnit unit) = unit.deps
lists_held (Alone lists) = lists
lists_held Nowhere = []
