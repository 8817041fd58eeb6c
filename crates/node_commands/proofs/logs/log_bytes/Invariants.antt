use Rattle.std.proofs.Common.{◌≡◌, take}
use Rattle.node_commands.specs.Texts.{log_text}
use Rattle.node_commands.proofs.logs.log_bytes.Given as goal

abbrev pub invariant-loop-each : goal.invariant-loop-each
invariant-loop-each l = l.out.items ≡ log_text (take l.each-index l.logged)
