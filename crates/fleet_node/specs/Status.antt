-- The exit status of the program.
-- Source: this project's own.
use Rattle.std.specs.Prelude.{ℕ, Err, Ok, Result}
use Rattle.fleet_node.specs.declared.faults.FleetFault.{FleetFault}

-- 0 for what was done, 1 for what was not
abbrev pub status_of : Result (Unit {0}) FleetFault → ℕ
status_of (Ok u) = 0
status_of (Err fault) = 1
