use Rattle.std.proofs.Common.{sym, ◌∙◌}
use Rattle.std.specs.Option.{option_copied}
use Rattle.exchange_bytes.proofs.Whole.{last_fits}
use Rattle.exchange_bytes.proofs.writing.put_told.Goals as goal

pub returns-then-is_last_bound-clause-fits : goal.returns-then-is_last_bound-clause-fits
returns-then-is_last_bound-clause-fits c = last_fits (option_copied c.args.last) c.args.place.now (sym c.is_last_bound.ensures.last ∙ c.if-is_last_bound.true) c.requires.last
