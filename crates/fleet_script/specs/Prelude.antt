-- What the definitions use of std and of the crates below.
pub use Rattle.delta_gossip.specs.Prelude.{AreSameEdits, changed_places, IsStoreBelow, join, Replicated, took}
pub use Rattle.edit_sums.specs.Sums.{edits_of, high_of, IsAboveEdits, IsHonest, visible_at}
pub use Rattle.place_texts.specs.PlaceTexts.{RendersText}
pub use Rattle.profiles.specs.declared.profiles.Profile.{Profile}
pub use Rattle.script_answers.specs.{Crowds.{RendersCrowd}, Files.{RendersFiles}, Prelude.{BadLink, BadText, Component, Content, Depth, Directory, EntryMap, Fault, File, FileTooLarge, Gone, HostName, LineRefusal, LineTooLong, Link, Memory, NodeTaken, Nothing, Outcome, PlaceParts, UnknownNode, UnknownPiece, VersionsSpent, Workers, WriterTaken}, Renders.{RendersInquiry}, Texts.{changed_line, entries_line, error_line, files_text, ok_line, outcome_text}}
pub use Rattle.script_commands.specs.{Commands.{command_of}, declared.commands.{Command.{Command}, Fault.TheVariants.{Refused}}, Outcomes.{IsSaid}, Places.{IsPlaceFault, places_of}, Prelude.{is_file, is_target, IsBadText, place_of, PlaceFault, Spells}}
pub use Rattle.script_pipes.specs.{Failures.{FailedSince}, KnownBytes.{AreAll, IsOver}}
pub use Rattle.script_words.specs.Lines.{is_passed_over, lines_of}
pub use Rattle.script_worlds.specs.{Counts.{IsCountedTo}, Validity.{is_used, IsValid, puts}, Worlds.{begun, blank, happened, has_writer, held, merged, merged_all, next_edit, numbers_from, node_named, parted, piece_named, ScriptWorld, state, swept, with_node, with_profile, writer_at}}
pub use Rattle.std.{proofs.Common.{[], Bool, codes, Err, false, length, List, MatchOption, MatchResult, nat_lt, None, Ok, Option, Result, slice_get, slice_set, Some, take, ℕ}, specs.{Cmp.Lexicographic.{slice_cmp}, declared.alloc.Global.{Global}, Io.KnownBytes.{Appends, Keeps}, Ordering.{nat_cmp}, Prelude.{MatchBool, slice_index_or, Vec}}}
pub use Rattle.worker_rounds.specs.WorkerCounts.{IsWorkerCount}
pub use Rattle.world_law.specs.Cuts.{cut, digest_of}
