-- What the proofs use of std, of the crates below and of the definitions.
pub use Rattle.node_histories.specs.{declared.{book.Law.{Law}, published_copy.PublishedCopy.{PublishedCopy}}, Histories.{counter_of, EndsChanging, EndsWith, opening_of}, HistoryLaws.{same_edits_same_store, takes_of-snoc, takes_of-within}, PrefixLaws.{prefix_self, prefix_trans}, Prelude.{Edit}}
pub use Rattle.shared_node.specs.{declared.{faults.NodeFault.{NodeFault, TheVariants.{Disagree, Memory, NoSeat, Pending, TakesSpent, VersionsSpent}}, reader_view.ReaderView.{ReaderView}, serving.Step.{Step}}, Faults.{AtFault}, Prelude.{Absorbed, Edited, HistoryEvent, is_take_of, Replicated, takes_in, takes_of}, ReaderViews.{Fits, Knows, latest, newest, nothing, reader_view_of, Shows}, Seats.{Agrees, AllAgree, SeatNow}, Steps.{calls_of, step_at, step_at_fault}}
pub use Rattle.std.{proofs.{Common.{[], ap, arith, cond, drop, eq-eqb, Err, get_or, get_or-set_other, get_or-set_same, IfErr, IfOk, length, length-set, List, MatchResult, None, Ok, Option, refl, Result, rules, set, slice_get, slice_index, slice_set, Some, subst, suc, sym, take, zero, ℕ, ⊎_elim, ◌∙◌}, lemmas.{Bool.{ne_eqb}, List.{get_or_read, Sums.{sum_by_more}}}, Math.Decide.{ℕ_discrete}}, specs.List.{sum_by}}
