-- What the definitions use of std and of the crates below.
pub use Rattle.edit_sums.specs.declared.contents.Content.TheVariants.{File, Gone, Link}
pub use Rattle.list_laws.specs.{Ascending.{one_ascending}, Filters.{filter_twice}, FirstSaid.{IsFirst}, Members.{among_from_contains, contains_from_among, first_there, IsAmong-append_cases, IsAmong-append_left, IsAmong-append_right, later_there, none_there, only_one}}
pub use Rattle.load_places.specs.{LevelLaws.{level_is}, Levels.{first_level, IsLevel, levels}, Prelude.{first_is, first_said, none_says}}
pub use Rattle.path_maps.specs.{Folders.{path_at}, HostLaws.{content_viewed, fleets_level, fleets_place, fleets_shown, fleets_sights, same_sights, ShowsNothing}, HostViews.{content_at, host_view_of, HostViewMap, level_of, view, viewed_at, viewed_place}, Prelude.{Content, Entry, EntryMap, Fleet, Host, IsAmong, of_fleet, of_host, path_cmp, path_cmp-IsAntisymmetric, path_cmp_total, PathParts, PlaceParts, Profile, shown}, Scopes.{PathMap, scope_of, shown_at, within}, Sights.{path_after}}
pub use Rattle.std.{proofs.{Common.{[], add-one, All, ap, append-nil, append_assoc, arith, Bool, codes, cond, drop, false, filter, fold, get_or, inl, inr, IsTrue, length, length-append, List, map, nat_lt, None, not, Option, refl, slice_get, slice_index, Some, subst, suc, sym, take, true, zero, ℕ, ⊎_elim, ◌∙◌}, lemmas.{Bool.{cases_Bool, cases_lt, Decides.{nat_tests}, eqb-true, or_parts, or_right, true≢false}, Grind.{flat_map-append, fold-append}, List.{append_cancel_right, Concat.{flat_map_single}, drop_more, Elements.{All-append, All-cons, All-contains, All-head, All-nil, All-push, All-tail, All-weaker, Contains-append_cases, Contains-append_left, Contains-append_right, Contains-push, filter_agree}, Folds.{list_any-append, list_any_none}, Kept.{AllPairs-cons}, length-take-le, map-append, Quantifiers.{all_pairs_push}, take-append-drop, take_more}, Option.{get_or_from_slice_get, none-some, same_Some, slice_get-get_or, slice_get_within}, Slice.Eq.{bytes_eq-Decides}}}, specs.{BTreeSet.{contains}, Cmp.Lexicographic.{nat_list_cmp_total}, List.{AllPairs, Contains, flat_map, list_any, Sorted.{IsStrictlySortedBy}}, Option.{option_and_then, option_map, option_or}, Str.{bytes_eq}}}
pub use Rattle.unit_name.specs.{declared.{kinds.Kind.{Kind, TheVariants.{Automount, Device, Mount, Path, Scope, Service, Slice, Socket, Swap, Target, Timer}}, names.Shape.{Shape, TheVariants.{Instance, Plain, Template}}}, Forms.{name_with, template_at, template_name, template_of}, NameLaws.{made_of_name, parts_of_names_fit, prefixes_may_be_cut, suffix_is_word, templates_keep_parts}, Names.{instance, is_empty, IsName, kind, Name, name_cmp, prefix, shape, suffix, word}}
