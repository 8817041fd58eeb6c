use Rattle.script_commands.proofs.Prelude.{cat_is_read_back, crowd_is_read_back, empty_put_is_read_back, files_is_read_back, just_its_words_are_read, link_is_read_back, list_is_read_back, merge_is_read_back, node_is_read_back, others_are_refused, part_is_read_back, plan_is_read_back, profile_is_read_back, put_is_read_back, remove_is_read_back, same_is_read_back, send_is_read_back, show_is_read_back, sweep_is_read_back, text_is_read_back, tree_is_read_back, units_is_read_back, workers_is_read_back}
use Rattle.script_commands.proofs.laws.commands_read_back.Goals as goal

pub returns : goal.returns
returns c = record {
  node = node_is_read_back;
  put = put_is_read_back;
  empty_put = empty_put_is_read_back;
  link = link_is_read_back;
  remove = remove_is_read_back;
  merge = merge_is_read_back;
  part = part_is_read_back;
  send = send_is_read_back;
  sweep = sweep_is_read_back;
  files = files_is_read_back;
  text = text_is_read_back;
  cat = cat_is_read_back;
  show = show_is_read_back;
  list = list_is_read_back;
  plan = plan_is_read_back;
  units = units_is_read_back;
  tree = tree_is_read_back;
  workers = workers_is_read_back;
  profile = profile_is_read_back;
  same = same_is_read_back;
  crowd = crowd_is_read_back;
  words = just_its_words_are_read;
  others = others_are_refused;
}
