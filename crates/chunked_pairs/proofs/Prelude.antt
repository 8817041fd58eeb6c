-- What the proofs use of std, of the crates below and of the definitions.
pub use Rattle.chunked_pairs.specs.{Chunks.{AllKeys, all_pairs, AreChained, AreChunks, AreParted, cut_run, FallsTo, given_back, in_runs, IsRun, later, run_at, swapped, viewed, with_run, without_last}, Cursors.{IsAfter, StandsFirst}, Prelude.{[], after_last, and_parts, ap, append-nil, append_assoc, arith, below_all, cond, drop, Equal, find, get_or, Greater, is_eq, is_less, is_lt, is_sorted, IsAt, IsGap, IsTotalOrder, IsTrue, last_has, length, length-append, Less, List, map, None, Option, Ordering, refl, search_finds, Some, subst, suc, sym, take, tied_itself, turned, zero, ℕ, ◌∙◌}}
pub use Rattle.chunked_pairs.specs.{ChunkLaws.{chained_after, chained_from, falls_at, falls_gap, falls_within, find_falls, find_later, first_run, keys_fall, last_some, run_is, separators_sorted, sorted_all}, EditLaws.{back_pairs, chained_init, chained_last, chunks_back, chunks_cut, cut_back, cut_front, cut_length, cut_same, cut_separator, falls_back, falls_front, insert_cut, last_more, later_last, length_with, run_part, with_same}, Searches.{find_above, find_none, find_second, from_below, keys_append, keys_parts, not_below, not_equal}}
pub use Rattle.sorted_pairs.specs.PlaceLaws.{find_at, find_before, find_gap}
pub use Rattle.std.{proofs.{Common.{add-one, Bool, eq-eqb, eqb-true, false, OnErr, OnOk, Result, rules, set}, lemmas.{Fn.{always_returns_same}, List.{length-drop, length-take, take-append-drop, take_all}, Result.{on_err_weaker, on_ok_weaker}}}, specs.{Prelude.{IsSome, Vec}, List.{insert}, Option.{IfNone, option_to_list}, Vec.{vec_len}}}
