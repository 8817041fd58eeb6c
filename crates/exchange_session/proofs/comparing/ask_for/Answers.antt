use Rattle.exchange_session.proofs.Prelude.{◌∙◌}
use Rattle.exchange_session.proofs.Telling.{asked, of_entries}
use Rattle.exchange_session.proofs.comparing.ask_for.Goals as goal

pub returns : goal.returns
returns c = record { ask = asked c.args.own.now c.args.range _ (of_entries _ _ (c.from_versions-versions.ensures.versions ∙ c.in_ok-owned.ensures.versions ∙ c.within.ensures.within)) }
