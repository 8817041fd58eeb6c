-- What the proofs use of std, of the crates below and of the definitions.
pub use Rattle.crowds.specs.{Crowds.{crowd_path, crowd_place, crowd_places, edit_at, places_with}, Prelude.{Absorbed, Edit, Edited, edits_of, EntryMap, HistoryEvent, Opening, PathParts, place_cmp, PlaceParts, SeatNow, sum_of}, Workers.{AreFresh, AreGathered, HasWorked, HaveWorked, is_own, own_edits}}
pub use Rattle.edit_sums.specs.{Contents.{file_of}, declared.contents.Content.TheVariants.{File}, Entries.{Entry, IsBelow}, GreatestLaws.{get-sum_of, greatest_at-above, greatest_at-found, same_place, tied}, Limits.{is_file}, Prelude.{IsAmong, place_cmp-IsAntisymmetric, place_cmp_total}, Sums.{edit_of, entry_of, greatest_at}}
pub use Rattle.list_laws.specs.Members.{IsAmong-append_cases, IsAmong-append_left, IsAmong-append_right}
pub use Rattle.load_path.specs.{Paths.{is_component, is_component_byte, IsPath, path_of}, TextLaws.{are_their_texts}}
pub use Rattle.node_histories.specs.Histories.{all_edits, edits_in, EndsWith, IsLegal, store_of, takes_in}
pub use Rattle.shared_node.specs.{Prelude.{Content, Replicated}, Seats.{AllAgree}}
pub use Rattle.std.{proofs.{Common.{[], All, ap, append_assoc, arith, Bool, codes, cond, Err, false, get_or, IfOk, inl, inr, is_some, length, length-append, List, map, nat_le, nat_lt, None, Ok, Option, refl, Result, rules, slice_get, Some, subst, suc, sym, T, true, zero, ℕ, ◌∙◌}, lemmas.{Bool.{and_from, and_parts, Decides.{leb_tells, nat_tests}, eq-eqb, le-leb, le-ltb, lt-ltb, ltb-true, ne_eqb}, Fmt.{digits_decimal, length-decimal-le}, List.{Elements.{All-cons, All-nil}, length-map, map-append, Sums.{count_by-le-length, sum_by-append, sum_by-cons, sum_by_push}}, Option.{slice_get-get_or}, Result.{IfOk-weaker}, Str.Parse.{IsDigitsTest, numerals_by_value}}, Math.{Dec.{leb}, Nat.{suc-mul}}}, specs.{Char.{is_ascii_digit}, FinMap.{Entries.{below_all}, find, FinMap, is_sorted}, Fmt.{decimal}, List.{list_all, range_with_len, sum_by}, Ordering.{eq_by_cmp, is_lt}, Prelude.{count_by}}}
