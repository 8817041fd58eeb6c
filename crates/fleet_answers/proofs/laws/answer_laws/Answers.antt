use Rattle.fleet_answers.proofs.Prelude.{hosts_without_places_have_the_fleets_answers, one_answer, other_hosts_change_nothing, snapshots_stay, units_are_those_shown}
use Rattle.fleet_answers.proofs.laws.answer_laws.Goals as goal

pub returns : goal.returns
returns c = record { one = one_answer; others = other_hosts_change_nothing; fleets = hosts_without_places_have_the_fleets_answers; shown = snapshots_stay; units = units_are_those_shown }
