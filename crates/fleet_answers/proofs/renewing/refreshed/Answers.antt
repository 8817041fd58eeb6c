use Rattle.fleet_answers.proofs.{Asked.{none_touched, untouched}, Prelude.{sym, ◌∙◌}}
use Rattle.fleet_answers.proofs.renewing.refreshed.Goals as goal

pub returns-then-is_empty-clause-snapshot : goal.returns-then-is_empty-clause-snapshot
returns-then-is_empty-clause-snapshot c =
    untouched c.args.snapshot c.args.store.now c.args.touched.now (none_touched c.args.touched.now (sym c.is_empty.ensures ∙ c.if-is_empty.true)) c.requires.before
