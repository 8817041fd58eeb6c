-- What the proofs use of std, of the crates below and of the definitions.
pub use Rattle.load_path.specs.{declared.paths.PathFault.TheVariants.{Depth}, Paths.{below_directory, directories, is_slash, located, located_from, path_below, path_within}, TextLaws.{are_their_texts, below_at, below_none, located-start, located_here, located_later, located_sound}}
pub use Rattle.std.{proofs.{Common.{[], ap, arith, Bor, drop, Err, is_some, length, List, MatchOption, None, Option, position, refl, Some, sym, take, true, ℕ, ⊎_elim, ◌∙◌}, lemmas.{Bool.{cases_Bool, cond-false, cond-true, Decides.{Decides-eqb}, ltb-false, ltb-true}, List.{append_cancel_left, Splits.{slice_split-cons_no, slice_split-cons_yes, slice_split_first, slice_split_none}, Sums.{fails_before_first}, take_rest}, Slice.Eq.{strip_prefix_is}}}, specs.{List.{onto_first, position_or_len, slice_split}, Option.{option_copied, option_map_or}}}
