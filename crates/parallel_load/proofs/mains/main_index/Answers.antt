use Rattle.parallel_load.proofs.{Indexing.{alias_main, no_main, unit_main}, Prelude.{ap, option_copied, sym, ◌∙◌}}
use Rattle.parallel_load.proofs.mains.main_index.Goals as goal

pub returns-in-None : goal.returns-in-None
returns-in-None c = record { main = unit_main c.args.names.now c.args.index c.args.kept.now c.requires.index (sym (ap option_copied c.in-None.is) ∙ c.main.ensures.alias) }

pub returns-in-Ok : goal.returns-in-Ok
returns-in-Ok c = record { main = alias_main c.args.names.now _ c.args.kept.now _ c.in-Ok.at (sym (ap option_copied c.in-Some.is) ∙ c.main.ensures.alias) c.in-Ok.ensures.found }

pub returns-in-Err : goal.returns-in-Err
returns-in-Err c = record { main = no_main c.args.names.now c.requires.sorted c.args.index _ c.args.kept.now _ c.in-Err.field-0 c.requires.index (sym (ap option_copied c.in-Some.is) ∙ c.main.ensures.alias) c.in-Err.ensures.absent }
