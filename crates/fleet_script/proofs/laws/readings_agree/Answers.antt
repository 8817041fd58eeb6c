use Rattle.fleet_script.proofs.Reading.{same_edits_same_outcomes, same_edits_same_stores, stores_are_least}
use Rattle.fleet_script.proofs.laws.readings_agree.Goals as goal

pub returns : goal.returns
returns c = record { outcomes = same_edits_same_outcomes; stores = same_edits_same_stores; least = stores_are_least }
