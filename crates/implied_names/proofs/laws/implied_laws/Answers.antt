use Rattle.implied_names.proofs.Prelude.{activators_come_first, implied_are_names, implied_are_naming, nothing_by_default, perpetual_units_are_names, services_wait_for_the_system, set_services_are_triggered}
use Rattle.implied_names.proofs.laws.implied_laws.Goals as goal

pub returns : goal.returns
returns c = record { services = services_wait_for_the_system; none = nothing_by_default; activators = activators_come_first; sockets = set_services_are_triggered; kinds = implied_are_naming; names = implied_are_names; perpetual = perpetual_units_are_names }
