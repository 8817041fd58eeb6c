-- What the definitions use of std and of the crates below.
pub use Rattle.dropins.specs.{declared.{folder_lists.Folder.{Folder, TheVariants.{Requires, Wants}}, precedence.Search.{Search, TheVariants.{DropIns, Links}}}, FolderLists.{folders}, PrecedenceLaws.{folders_decide}, Taken.{as_found, as_link, Candidate, Candidate.{At, Mask}, content_as_drop_in, dirs_by, dirs_with, ending, entry_name, is_conf, IsDropInOf, IsLinkOf, IsTakenOver, name_dirs, Owner, Owner.{OfName, OfType}, Stands, type_dirs}}
pub use Rattle.edit_sums.specs.declared.{contents.Content.TheVariants.{File, Gone, Link}, entries.Edit.{Edit}}
pub use Rattle.fragment_choice.specs.{Choices.{alias_of, alias_to, choice, content_says, is_bad_kind, is_null, is_self, last_component, link_says, own_choice, own_path, own_place, says, shapes_agree}, declared.{choices.{Cause.{Cause}, Choice.{Choice, TheVariants.{Masked}}}, resolutions.Resolution.{Resolution}}, LikenessLaws.{aliases_are_alike}, Resolutions.{ended_or, main, resolution}, UndefinedLaws.{decided}, UnitNames.{AreNames}}
pub use Rattle.list_laws.specs.{Ascending.{one_ascending}, FirstSaid.{first_said, or_assoc, or_none}, Members.{IsAmong}}
pub use Rattle.load_path.specs.Paths.{has_folder}
pub use Rattle.load_places.specs.{declared.{places.Scope.{Scope, TheVariants.{Host}}, viewers.Viewer.{Viewer}}, Levels.{first_level, IsLevel, of_fleet, of_host}, PlaceLaws.{paths_order_a_scope, scope_cmp-IsAntisymmetric}, Places.{scope_cmp}, Prelude.{Profile}}
pub use Rattle.path_maps.specs.{Folders.{path_at}, HostLaws.{content_viewed, fleets_sights, places_are_in_views, same_sights, ShowsNothing}, HostViews.{content_at, host_view_of, HostViewMap, level_of, scope_at, view, viewed_at}, Prelude.{Content, Entry, EntryMap, Fleet, path_cmp, path_cmp-IsAntisymmetric, path_cmp_total, PathParts, PlaceParts, shown, visible_at}, ScopeLaws.{get-scope_of}, Scopes.{entries_of, scope_of, shown_at, within}, Sights.{path_after}, Together.{from_first}}
pub use Rattle.std.{proofs.{Common.{[], ap, arith, Bool, codes, cond, false, inl, inr, is_some, IsSome, List, map, nat_eq, None, not, Option, option_and_then, refl, slice_get, Some, subst, suc, sym, true, unwrap_or, zero, ℕ, ◌∙◌}, lemmas.{Bool.{Decides.{nat_tests}, or_right}, Slice.Eq.{bytes_eq-Decides}}}, specs.{List.{ends_with, filter_map, Sorted.{IsStrictlySortedBy}}, Option.{option_map, option_or}, Ordering.{eq_by_cmp, match_ordering}}}
pub use Rattle.unit_name.specs.{declared.names.Shape.{Shape, TheVariants.{Instance, Plain, Template}}, Forms.{template_of, with_instance}, NameLaws.{templates_keep_parts}, Names.{instance, is_name, IsName, kind, Name, name_cmp, shape}}
