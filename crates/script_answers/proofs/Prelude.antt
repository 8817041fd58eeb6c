-- What the proofs use of std, of the crates below and of the definitions.
pub use Rattle.dropins.specs.{BorrowedLaws.{borrowed_are_drop_ins}, Taken.{AreDropInsOf, IsDropInAtOf}}
pub use Rattle.fragment_choice.specs.{FragmentLaws.{fragments_are_files}, ResolutionLaws.{mains_are_their_own}}
pub use Rattle.path_maps.specs.{HostLaws.{what_is_in_view_has_a_place}, HostViews.{view}}
pub use Rattle.replica_store.specs.Replicas.{Replicated}
pub use Rattle.place_texts.specs.{PlaceTextLaws.{texts_are_rendered_once}, PlaceTexts.{file_lines}}
pub use Rattle.script_answers.specs.{CrowdLaws.{crowds_are_rendered_once}, declared.asking.Form.{Form}, FileHostLaws.{hosts_without_places_are_rendered_the_fleets_files, other_hosts_change_no_files}, FileLaws.{files_are_rendered_once}, Files.{AreFiles, borrowed_text, cat_text, entry_lines, file_bytes, IsCat, IsFile, IsFileAt, RefusesName, RendersFilesOf}, Hosts.{by_files, ForHost, RefusesHost}, Plans.{fault_of_plan, start_line, stop_line}, Prelude.{Answer, AreNames, Content, content_at, Entry, entry_place, EntryMap, Fault, fault_of_name, first_there, host_asked, host_view_of, HostFault, HostName, HostViewMap, IsAnswer, IsCrossed, IsTree, later_there, LinkedUnit, LoadedUnit, Name, name_of, NameFault, Outcome, PathParts, PlaceParts, PlanRefusal, Question, ReadsItsTree, Resolution, shown, ShowsTree, Viewer, viewer_asked}, PulledLines.{depth_line}, Renders.{AreWritten, form_of, IsOutcomeOf, question_by, RendersQuestion, RendersWords}, RendersLaws.{questions_are_rendered_once}, Requests.{IsNameFault, names_in, request_of, request_with}, Texts.{entry_line, spaced_names}, TreeTexts.{AppendsCrossed, AreCrossed, crossed_line, crossed_lines, IsTreeText, standing_lines, tree_lines}, UnitLines.{note_line}}
pub use Rattle.script_commands.specs.{Each.{values_then}, Faults.{fault_of_host}, Hosts.{IsHostFault}, Outcomes.{IsSaid}}
pub use Rattle.std.{proofs.{Common.{[], ap, append-nil, append_assoc, arith, codes, Err, get_or, Global, inl, inr, length, List, map, MatchBool, MatchResult, Ok, Option, refl, Result, Some, subst, suc, sym, take, Vec, zero, ℕ, ◌∙◌}, lemmas.{List.{Concat.{flat_map-append}, get_or_default, take_more}, Result.{IfOk-weaker}}}, specs.{List.{Contains, flat_map}, Option.{option_and_then, option_copied}}}
pub use Rattle.unit_loads.specs.Prelude.{drop_in_paths_are_files, folders, main, viewed_at}
pub use Rattle.unit_name.specs.Names.{IsFaultOf}
