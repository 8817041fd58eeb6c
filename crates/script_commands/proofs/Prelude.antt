-- What the proofs use of std, of the crates below and of the definitions.
pub use Rattle.edit_sums.specs.Contents.{file_of}
pub use Rattle.script_commands.specs.{Each.{values_then}, Faults.{fault_of_content}, Files.{IsNoFile, too_large, without_memory}, Hosts.{host_in, is_at}, Places.{places_of}, Prelude.{Content, ContentFault, File, is_file, IsBadText, Spells}, ReadLaws.{just_its_words_are_read, others_are_refused}, WrittenLaws.{cat_is_read_back, crowd_is_read_back, empty_put_is_read_back, files_is_read_back, link_is_read_back, list_is_read_back, merge_is_read_back, node_is_read_back, part_is_read_back, plan_is_read_back, profile_is_read_back, put_is_read_back, remove_is_read_back, same_is_read_back, send_is_read_back, show_is_read_back, sweep_is_read_back, text_is_read_back, tree_is_read_back, units_is_read_back, workers_is_read_back}}
pub use Rattle.std.{proofs.{Common.{[], arith, Bool, cond, drop, Err, false, Global, inl, inr, length, List, MatchOption, nat_lt, None, not, Ok, Option, position, refl, Result, Some, subst, suc, true, Vec, ℕ, ◌∙◌}, lemmas.{Bool.Decides.{nat_tests}, Grind.{common_steps}}}, specs.List.{list_any, position_or_len}}
