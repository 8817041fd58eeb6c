-- What the definitions use of std and of the crates below.
pub use Rattle.edit_sums.specs.declared.contents.Content.TheVariants.{File, Gone, Link}
pub use Rattle.list_laws.specs.{Ascending.{one_ascending_list}, FirstSaid.{first_said, first_same}}
pub use Rattle.load_places.specs.{LevelLaws.{all_none, first_at, lesser_ranks_go_first, levels_of_directories, none_said, said_by}, Levels.{first_level, IsLevel, levels}}
pub use Rattle.path_maps.specs.{Folders.{path_at}, HostLaws.{content_viewed, fleets_sights, nothing_viewed, other_hosts_are_not_in_view, places_are_in_views, same_place, same_sights, ShowsNothing, what_is_viewed_there_is_its_own}, HostViews.{AreForOne, content_at, host_view_of, HostViewMap, own_scope, view, viewed_at, viewed_place}, Prelude.{Content, Entry, EntryMap, Fleet, Host, is_equal, IsAmong, level_for, of_fleet, of_host, path_cmp, path_cmp-IsAntisymmetric, PathParts, PlaceParts, Profile, shown, Viewer, visible_at}, Scopes.{PathMap, scope_of, shown_at, within}, Sights.{path_after}}
pub use Rattle.std.{proofs.{Common.{[], All, ap, arith, Bool, codes, cond, false, inl, inr, is_some, IsSome, IsTrue, le-leb, leb, length, List, map, None, not, Option, refl, Some, subst, suc, sym, true, unwrap_or, zero, ℕ, ◌∙◌}, lemmas.{Bool.{cases_lt, false_from_ne_true, leb-true, or_right, true≢false}, Cmp.{tied_itself}, Option.{cond_some, none-some, same_Some}, Slice.Eq.{bytes_eq-Decides}}}, specs.{BTreeMap.{BTreeMap, get}, Cmp.Lexicographic.{nat_list_cmp_total}, Coded.{Coded, coded_list, coded_option, coded_ℕ}, Global.{Vec}, List.{after_last, cons_option, filter_map, Sorted.{IsStrictlySortedBy}}, Map.{keys_of}, Option.{option_and_then, option_map, option_or}, Ordering.{eq_by_cmp, is_eq}, Str.{bytes_eq}}}
pub use Rattle.unit_name.specs.{declared.{kinds.Kind.{Kind as UnitKind, TheVariants.{Automount, Device, Mount, Path, Scope, Service, Slice, Socket, Swap, Target as TargetKind, Timer}}, names.Shape.{Shape, Shape as UnitShape, TheVariants.{Instance, Plain, Template}}}, Forms.{if_short, instance_at, instance_name, is_instance, template_at, template_of, with_instance}, NameLaws.{fits, instance_has_parts, instances_have_the_template, kind_of-word, made_of_name, name_cmp-IsAntisymmetric, parts_of_names_fit, templates_keep_parts}, Names.{instance, is_name, IsName, kind, kind_of, Name, name_cmp, prefix, shape, suffix, word}}
