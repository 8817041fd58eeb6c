-- What the proofs use of std and of the crates below.
pub use Rattle.edit_sums.specs.SumLaws.{join-left, store_below_refl, store_below_trans}
pub use Rattle.edit_sums.specs.Sums.{EntryMap, IsStoreBelow, join}
pub use Rattle.exchange_session.specs.Prelude.{everything, filter, IsAmong, is_within, place_cmp, PlaceParts, print, Range, Version, VersionMap, versions_of, within}
pub use Rattle.list_laws.specs.{Members.{IsAmong-append_left, IsAmong-append_right}, Truths.{from_T}}
pub use Rattle.load_places.specs.PlaceLaws.{place_cmp-IsAntisymmetric, place_cmp_total}
pub use Rattle.range_prints.specs.Ranges.{ArePartsOf, times_within}
pub use Rattle.std.{proofs.{Common.{[], All, ap, append-nil, arith, Bool, cond, false, None, Option, slice_get, Some, get_or, inl, inr, IsTrue, length, List, map, refl, subst, suc, sym, true, zero, ℕ, ◌∙◌}, lemmas.{Bool.Decides.{Decides-eqb}, Cmp.{tied_itself}, List.{nil_from_length, Elements.{All-append, All-cons, All-push, All-weaker}}}}, specs.FinMap.{Entries.{find, is_sorted}, FinMap, same_map}}
pub use Rattle.edit_sums.specs.GreatestLaws.{tied}
pub use Rattle.range_prints.specs.{Asked.{AreWithin, digest_within, IsSameCut}, AskedLaws.{same_cut}}
pub use Rattle.std.specs.{List.{list_any}, Ordering.{eq_by_cmp}}
pub use Rattle.world_law.specs.{Cuts.{at_places, cut, is_asked}, Worlds.{cut_for, EventWorld, happens, Node}}
pub use Rattle.edit_sums.specs.{Contents.{content_cmp}, Entries.{Entry, IsBelow, larger}, EntryLaws.{below_antisym, below_refl, below_trans, larger-least, larger-right}, GreatestLaws.{get-join, passed}, SumLaws.{same_store}}
pub use Rattle.join_law.specs.VersionOrderLaws.{version_cmp-IsAntisymmetric, version_cmp_total}
pub use Rattle.range_prints.specs.AskedLaws.{find-those, told}
pub use Rattle.std.specs.Bool.{Decides}
pub use Rattle.std.specs.{declared.cmp.Ordering.{Ordering, TheVariants.{Equal, Greater, Less}}, Option.{option_map}, Ordering.{is_gt, ordering_then}}
pub use Rattle.list_laws.specs.Orderings.{turned}
pub use Rattle.world_law.specs.{CutLaws.{get-cut, get-digest_of, get_from_cut}, Cuts.{digest_of, is_newer, is_wanted}}
pub use Rattle.join_law.specs.VersionOrder.{version_cmp}
pub use Rattle.edit_sums.specs.{CounterLaws.{edits_of-found}, declared.entries.Edit.{Edit}, EntryLaws.{larger-left, larger-None, larger_cases}, Sums.{edit_of, edits_of, entry_of}}
pub use Rattle.world_law.specs.Cuts.{AreToldApart}
pub use Rattle.edit_sums.specs.{GreatestLaws.{get_from_edits_of}, SumLaws.{join-right}}
pub use Rattle.list_laws.specs.Members.{IsAmong-append_cases}
pub use Rattle.std.{proofs.Common.{Err, Ok, Result}, specs.Prelude.{MatchOption, OnOk}}
