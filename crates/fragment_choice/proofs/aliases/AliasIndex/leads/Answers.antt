use Rattle.fragment_choice.proofs.{Levels.{leads_if}, Prelude.{sym, ◌∙◌}}
use Rattle.fragment_choice.proofs.aliases.AliasIndex.leads.Goals as goal

pub returns-in-Alias : goal.returns-in-Alias
returns-in-Alias c = record { test = leads_if c.args.self.now c.args.to.now c.args.from.now c.in-Alias.alias c.eq.result c.eq.ensures (sym c.in-Alias.is ∙ c.in_ok-alias.ensures.choice) }
