use Rattle.script_words.proofs.WordLemmas.{first_space}
use Rattle.script_words.proofs.words.count_to_space.Goals as goal

pub returns-clause-count : goal.returns-clause-count
returns-clause-count c = first_space c.args.line.now c.find_byte.result c.unwrap_or.result c.find_byte.ensures c.unwrap_or.ensures
