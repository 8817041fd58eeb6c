-- What the proofs use of std, of the crates below and of the definitions.
pub use Rattle.fragment_choice.specs.{ChoiceLaws.{least_level_chooses, masks_hide, own_paths_decide, templates_come_last}, Choices.{alias_of, choice, content_says, is_bad_kind, is_null, is_same, is_self, is_slash, last_component, link_says, own_choice, own_path, own_place, says, shapes_agree, target_says}, declared.{choices.{Cause.TheVariants.{Kind, Loop, Shape, Target}, Choice.{Choice, TheVariants.{Alias, Bad, Fragment, Masked, NotFound}}}, resolutions.Resolution.{Resolution}}, FragmentLaws.{fragments_are_files, fragments_are_own, fragments_have_no_folder}, HostLaws.{choices_are_the_fleets, hosts_without_places_choose_alike, hosts_without_places_resolve_alike}, Indexes.{Adds, alias_in, aliases_in, AreAliasesWithin, AreMapsOf, AreOwners, Collects, Gathers, HaveLinks, is_alias, IsAny, IsIndexOf, IsLeadingInstance, IsLeadingInstanceOfAny, IsOwnAt, IsOwnEntry, IsOwnLink, LeadsToAny, names_in, owners_at, Puts}, LeadsLaws.{leads_and_choice_decide, leads_decide_mains}, LikenessLaws.{aliases_are_alike, mains_are_alike}, LinkCaseLaws.{good_links_make_aliases, kinds_make_bad, no_link_is_a_loop, shapes_make_bad, targets_make_bad}, LinkedNames.{is_link, unit_of}, LinkLaws.{alias_keeps, alias_said, alias_same, aliases_have_links, ByLink, has_template, instances_keep_their_part, IsPassed, own_link, passed, template_alias}, LinkTargetLaws.{link_targets_decide, link_targets_show, own_aliases_decide, own_words_decide, views_decide_link_targets}, LinkTargets.{HasOwnLinkTargets, lead_by, lead_of, link_targets, link_targets_with, NamedWords, own_alias, said_of, target_at, target_part, targets_in, words_of}, PlaceChoiceLaws.{first_files_are_fragments, other_hosts_dont_count}, Prelude.{Content, Entry, File, first_said, Gone, HostViewMap, Instance, instance, instances_have_the_template, is_name, IsAmong, IsLevel, IsName, kind, levels, Link, Name, name_cmp, name_cmp-IsAntisymmetric, path_at, path_cmp, path_cmp-IsAntisymmetric, PathParts, PlaceParts, Plain, shape, shown, Template, template_of, templates_keep_parts, UnitShape, view, viewed_at, viewed_place, with_instance}, ResolutionLaws.{choices_decide, following_finds_the_end, mains_are_their_own, no_alias_stands, resolution_resolves}, Resolutions.{Chain, Chain.{here, step}, ended_or, follow, IsEnd, Leads, resolution, Resolves, Resolves.{ends_at, goes_on}}, UndefinedLaws.{undefined_is_not_found}, UnitNameLaws.{mains_decide, one_list_of_names}, UnitNames.{AreNames, IsOtherName}}
pub use Rattle.load_places.specs.LevelLaws.{level_is}
pub use Rattle.std.{proofs.{Common.{All, append-nil, append_assoc}, lemmas.{List.{drop_all, Elements.{All-append, All-cons, All-head, All-nil, All-tail, filter_map-append}, map-append}, Slice.Eq.{slice_eq-Decides}}, Math.Seq.{drop-cons}}, specs.{Bool.{beq}, List.{cons_option, filter_map}, Map.{keys_of}, Option.{option_copied, option_map}}}
pub use Rattle.join_law.specs.declared.versions.Version.{Version}
pub use Rattle.list_laws.specs.{Insertions.{put_kept, put_sound, put_there}, Members.{IsAmong-append_cases, IsAmong-append_left, IsAmong-append_right}}
pub use Rattle.load_places.specs.LevelLaws.{passed_over, said_there}
pub use Rattle.path_maps.specs.Folders.{is_in}
pub use Rattle.std.{proofs.{Common.{[], ap, arith, Bool, cond, drop, eq-eqb, Err, false, filter, get_or, IfOk, inl, inr, IsTrue, length, List, map, None, not, Ok, OnOk, Option, refl, Result, rules, Some, subst, suc, sym, take, true, unwrap_or, zero, ℕ, ◌∙◌}, lemmas.{Bool.{and_from, eqb-false, eqb-true}, List.{map-id, Sums.{suffix_len_is}, take_all, take_more}, Map.Iter.{iter_end}, Option.{none-some, same_Some}, Result.{IfOk-weaker, on_ok_weaker}}}, specs.{BTreeMap.{BTreeMap, get, is_at, Updates, UpdatesBy}, BTreeSet.{insert_key}, declared.cmp.Ordering.{Ordering, TheVariants.{Equal, Greater, Less}}, FinMap.Entries.{find}, Global.{Vec}, List.{suffix_len}, Map.{lookup}, Option.{option_and_then, option_or}, Ordering.{is_eq}}}
unfoldable pub use Rattle.std.specs.List.Sorted.{IsStrictlySortedBy}
pub use Rattle.unit_name.specs.NameLaws.{name_eq-Decides}
