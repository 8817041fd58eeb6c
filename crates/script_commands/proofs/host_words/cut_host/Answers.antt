use Rattle.script_commands.proofs.{FirstAt.{with_host, without_host}, Prelude.{arith, common_steps}}
use Rattle.script_commands.proofs.host_words.cut_host.Goals as goal

pub returns-in-None-clause-host : goal.returns-in-None-clause-host
returns-in-None-clause-host c = without_host c.args.word.now c.in-None.ensures.position

pub returns-in-Some-clause-host : goal.returns-in-Some-clause-host
returns-in-Some-clause-host c = grind (arith, common_steps, c.new-in-Some-2.ensures.bytes, with_host c.args.word.now c.in-Some.at c.in-Some.ensures.position)
