use Rattle.std.proofs.Common.{◌≡◌, take}
use Rattle.node_commands.specs.Texts.{history_text}
use Rattle.node_commands.proofs.histories.history_bytes.Given as goal

abbrev pub invariant-loop-each : goal.invariant-loop-each
invariant-loop-each l = l.out.items ≡ history_text (take l.each-index l.logged)
