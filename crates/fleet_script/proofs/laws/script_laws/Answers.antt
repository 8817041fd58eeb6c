use Rattle.fleet_script.proofs.{Prelude.{blank, length, stores_are_sums, valid_blank}, WholeScripts.{blank_stays_honest, counters_are_lines, counts_on, no_line_is_refused_for_versions, nodes_have_the_numbers, one, prefixes_are_of_the_whole, run_valid, stays_honest}}
use Rattle.fleet_script.proofs.laws.script_laws.Goals as goal

pub returns : goal.returns
returns c = record {
  one = one;
  prefix = prefixes_are_of_the_whole;
  honest = blank_stays_honest;
  sums = λ lines written world r k node at. stores_are_sums (length world.nodes) world.events (run_valid lines blank written world valid_blank r).told k node at;
  counters = counters_are_lines;
  lines = no_line_is_refused_for_versions;
  numbers = nodes_have_the_numbers;
  begun = stays_honest;
  counts = counts_on;
}
