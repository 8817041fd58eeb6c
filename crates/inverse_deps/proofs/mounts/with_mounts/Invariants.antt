use Rattle.inverse_deps.proofs.Prelude.{HasAdded, IsByMounts, take}
use Rattle.inverse_deps.proofs.mounts.with_mounts.Given as goal

abbrev pub invariant-loop-mount : goal.invariant-loop-mount
invariant-loop-mount l = HasAdded l.own (IsByMounts l.loaded l.index (take l.mount-index l.mounts)) l.row.items
