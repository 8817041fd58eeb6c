-- What the definitions use of std and of the crates below.
pub use Rattle.crowds.specs.Crowds.{crowd_places, places_with}
pub use Rattle.edit_sums.specs.Sums.{visible_at}
pub use Rattle.fleet_answers.specs.{AnswerLaws.{one_answer}, Answers.{IsAnswer, viewer_asked}, declared.questions.{Answer.{Answer}, LinkedUnit.{LinkedUnit}, Question.{Question}}, Prelude.{other_hosts_are_not_in_view, Request}}
pub use Rattle.fragment_choice.specs.declared.choices.Cause.TheVariants.{Loop, Shape, Target}
pub use Rattle.host_trees.specs.{Reads.{IsCrossed, ReadsItsTree, ShowsTree}, TreeLaws.{one_tree}, Trees.{IsTree}}
pub use Rattle.path_maps.specs.{Prelude.{Fleet}, Scopes.{within}}
pub use Rattle.join_law.specs.declared.versions.Version.{Version}
pub use Rattle.load_places.specs.Texts.{place_text}
pub use Rattle.script_commands.specs.{declared.commands.{Fault.{Fault, TheVariants.{Memory}}, LineRefusal.{LineRefusal, TheVariants.{Arguments, Bad, BadByte, BadLink, BadText, Component, Conflict, Cycle, Depth, Directory, EmptyPrefix, FileTooLarge, HostName, Kind, Length, LineTooLong, ManualStart, Masked, NodeTaken, NotFound, Nothing, NotVisible, Requisite, Seats, Template, TooManyUnits, UnknownCommand, UnknownNode, UnknownPiece, VersionsSpent, Workers, WriterTaken}}}, Each.{each_read}, Faults.{fault_of_name}, Hosts.{host_asked}, Outcomes.{is_spent, Outcome}, Prelude.{HostFault, NameFault, place_of, PlaceFault}}
pub use Rattle.profiles.specs.declared.profiles.Profile.{Profile, TheVariants.{Files}}
pub use Rattle.start_plan.specs.{declared.requests.{Plan.{Plan}, Refusal.{Refusal as PlanRefusal}}, Prelude.{Cause, Loaded, LoadedUnit, Status}}
pub use Rattle.std.{proofs.Common.{[], ap, codes, Err, false, inl, inr, length, List, map, MatchOption, MatchResult, None, Ok, Option, refl, Result, Some, subst, sym, ℕ, ◌∙◌}, specs.{Fmt.{decimal}, List.{Contains, ends_with, flat_map, Sorted.{IsStrictlySortedBy}}, Prelude.{nat_eq}}}
pub use Rattle.unit_loads.specs.{declared.units.UnitNote.{TheVariants.{Setting}, UnitNote}, HostLaws.{files_show, HaveTheSameFiles, hosts_without_places_have_these_files, same_mains, turned}, Prelude.{AreNames, Choice, Content, content_at, DependencyList, DepKind, Entry, entry_place, EntryMap, File, file_name, first_there, Gone, Host, host_view_of, HostViewMap, IsDropInAt, later_there, level_for, Link, mains_decide, Name, name_cmp, of_fleet, of_host, one_list_of_names, one_order, PathParts, PlaceParts, Resolution, resolution, Row, shown, ShowsNothing, Viewer, word}}
pub use Rattle.unit_name.specs.Names.{name_of}
