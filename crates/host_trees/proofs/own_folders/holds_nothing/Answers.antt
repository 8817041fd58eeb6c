use Rattle.host_trees.proofs.{Owned.{nothing_seen}, Prelude.{sym, ◌∙◌}}
use Rattle.host_trees.proofs.own_folders.holds_nothing.Goals as goal

pub returns-in-None : goal.returns-in-None
returns-in-None c = record {
  nothing = λ t. nothing_seen c.args.view.now c.args.level c.args.dir.now (sym c.entries_in-entries.ensures.entries ∙ c.in-None.ensures.first.0);
}
