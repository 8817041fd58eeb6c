use Rattle.std.proofs.Common.{◌≡◌}
use Rattle.std.specs.List.{flat_map}
use Rattle.manager_additions.specs.Additions.{unless_device}
use Rattle.manager_additions.proofs.additions.without_devices.Given as goal

abbrev pub invariant-loop-name : goal.invariant-loop-name
invariant-loop-name l = l.counted ≡ flat_map unless_device l.yielded
