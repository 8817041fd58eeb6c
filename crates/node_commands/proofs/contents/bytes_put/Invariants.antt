use Rattle.std.proofs.Common.{◌≡◌, option_map, take}
use Rattle.node_commands.specs.Puts.{bytes_put}
use Rattle.node_commands.proofs.contents.bytes_put.Given as goal

abbrev pub invariant-loop-each : goal.invariant-loop-each
invariant-loop-each l = option_map (λ b. b.now) l.put ≡ bytes_put l.version (take l.each-index l.logged)
