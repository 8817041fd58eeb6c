-- What the proofs use of std, of the crates below and of the definitions.
pub use Rattle.edit_sums.specs.{CounterLaws.{counter_among, high_among-edits_of}, EntryLaws.{entry_cmp_total}, SumLaws.{join-least, join-left, join-nothing, join-right, join_assoc, join_idem, store_below_antisym, store_below_refl, store_below_trans, sum_of-least, sum_of-same_edits}, Sums.{is_other}}
pub use Rattle.fleet_script.specs.{Does.{AtNode, AtPiece, AtPlace, AtPlaces, Does, Gives, if_any, IsRead, MergesInto, Names, PartsAt, Reads, Refuses, RefusesPlace, Removes, RemovesAt, RendersPlaces, Sends, SendsTo, SetsProfile, Sweeps, WithFile, WithTarget, WithText, Writes}, Ends.{AnswersFrom, IsAnswered, IsAnsweredFrom, IsPrefixFrom, IsPrefixWritten, PrefixFrom}, Holds.{AreMerged, Continues, given_of, Goes, HasNoNode, FirstIsHeld, HasNoSite, Holds, into_first, IsBlank, IsGivenAt, IsNamed, IsNodeNamed, IsPiece, IsSite, Keeps, kept_in, out_of_first}, Prelude.{AreSameEdits, BadLink, BadText, begun, blank, changed_line, changed_places, Command, command_of, Component, Content, cut, Depth, digest_of, Directory, entries_line, EntryMap, error_line, Fault, FileTooLarge, Gone, happened, has_writer, held, high_of, HostName, is_file, is_passed_over, is_target, is_used, IsAboveEdits, IsPlaceFault, IsSaid, IsStoreBelow, IsValid, IsWorkerCount, join, LineRefusal, lines_of, LineTooLong, Memory, merged, merged_all, next_edit, node_named, NodeTaken, Nothing, numbers_from, ok_line, Outcome, outcome_text, parted, piece_named, place_of, PlaceFault, PlaceParts, places_of, Profile, Refused, RendersCrowd, RendersFiles, RendersInquiry, RendersText, Replicated, ScriptWorld, state, swept, took, UnknownNode, UnknownPiece, VersionsSpent, visible_at, with_node, with_profile, writer_at, WriterTaken}, Readings.{IsAskedByOneProfile, IsReading, of_node, SameEditsSameOutcomes, SameEditsSameStores, StoresAreLeast}, ScriptLaws.{CountersAreLines, NoLineIsRefusedForVersions, PrefixesAreOfTheWhole, NodesHaveTheNumbers, StaysHonest, CountsOn, VersionsAreNeverSpent}, Scripts.{Answers, AnswersCommand, AnswersLine, AnswersPrefix, Run, Says}}
pub use Rattle.place_texts.specs.PlaceTextLaws.{texts_are_rendered_once, texts_spend_nothing}
pub use Rattle.replica_store.specs.Replicas.{next_version, with_put}
pub use Rattle.script_answers.specs.{CrowdLaws.{crowds_are_rendered_once, crowds_spend_nothing}, FileLaws.{files_are_rendered_once, files_spend_nothing}, Renders.{form_of, question_by}, RendersLaws.{questions_are_rendered_once, questions_spend_nothing}}
pub use Rattle.script_commands.specs.{declared.commands.{Command.TheVariants.{Ask, Cat, Crowd, Files, Link, Merge, Node, Part, Put, Remove, Same, Send, Sweep, Text, Workers}, LineRefusal.TheVariants.{Arguments, UnknownCommand, Workers as NoWorkerCount}}, Faults.{fault_of_edit, fault_of_place}, Files.{bad_text, IsFileOf, IsLinkTo, IsNoFile, IsNoLink, too_large, without_memory}, Outcomes.{is_spent}, Prelude.{EditFault, words_of}, ReadLaws.{others_are_refused}, WrittenLaws.{BeginsWithVerb}}
pub use Rattle.script_pipes.specs.{KnownBytes.{AppendsPrefix, AreAll}, KnownBytesLaws.{Appends-append, Appends-nothing, AreAll-some}}
pub use Rattle.script_words.specs.{LinesLaws.{lines_of-nil}, TextLaws.{spells_one}}
pub use Rattle.script_worlds.specs.{Counts.{IsPutUpTo}, CountsLaws.{counted, put_blank, put_next, put_same, puts_merged_all}, NodeLaws.{has_writer-push, named_within, node_named-push}, Prelude.{Ask, Cut, Edit, edits_of, Give, IsAmong, IsHonest, sum_of, with_edit}, Validity.{puts}, ValidityLaws.{held_answered, held_given, held_given_elsewhere, held_merged, held_merged_elsewhere, held_past, held_put, held_put_elsewhere, held_begun, held_with_node, honest_put, puts_begun, puts_with_node, state_with_node, took_with_node, used_begun, used_put, used_with_node, valid_answered, valid_begun, valid_blank, valid_given, valid_merged, valid_put, valid_with_node, valid_with_profile}, Worlds.{answered, Member, next_ask, next_piece, with_node as with_new_node}}
pub use Rattle.std.{proofs.{Common.{[], ap, append-nil, append_assoc, arith, Bool, codes, cond, Err, false, get_or, Global, IfOk, inl, inr, is_err, is_ok, is_some, IsSome, length, length-append, List, map, MatchOption, MatchResult, nat_lt, None, not, Ok, OnErr, OnOk, Option, refl, Result, rules, set, slice_get, Some, subst, suc, sym, take, true, Vec, zero, ℕ, ◌∙◌}, lemmas.{Bool.{Decides.{nat_tests}, eq-eqb, eqb-true, ne_eqb, true≢false}, List.{length-take, map-id, nil_from_length, set-get_or, Splits.{length-slice_split}, Sums.{count_by-le-length, sum_by-cons}, take_all, take_at}, Map.Text.{is_eq-slice_cmp}, Result.{IfOk-weaker}}, Math.Seq.{take-append-add}}, specs.{Cmp.{Equal-is, Lexicographic.{slice_cmp}, nat_cmp_is, tied_itself}, declared.cmp.Ordering.TheVariants.{Equal}, FinMap.{nat_cmp-IsAntisymmetric}, Io.KnownBytes.{Appends}, List.{slice_split}, Ordering.{is_eq, nat_cmp}, Prelude.{count_by, IsErrOf, MatchBool}, Str.{bytes_eq, Lines.{lines_of_parts}}}}
pub use Rattle.world_law.specs.{CutLaws.{whole_answer}, Cuts.{AreToldApart, VersionMap}, Prelude.{edit_of, Entry, entry_of, get_from_edits_of, IsAmong-append_cases, Version}, WorldLaws.{answer_is, piece_stays, stores_are_sums, took_stays}}
pub use Rattle.script_homes.specs.Homes.{IsHeldNext, StaysKept}
