-- What the definitions use of std and of the crates below.
pub use Rattle.edit_sums.specs.{Entries.{Entry}, GreatestLaws.{passed, tied}, SumLaws.{same_store}, Sums.{EntryMap}}
pub use Rattle.join_law.specs.declared.versions.Version.{Version}
pub use Rattle.load_places.specs.{declared.places.{Scope.{Scope}}, PlaceLaws.{place_cmp_total}, Places.{place_cmp, PlaceParts, scope_bytes, scope_sort}}
pub use Rattle.std.proofs.Common.{[], ap, Bool, cond, false, List, None, not, Option, refl, Some, sym, true, ℕ, ◌∙◌}
pub use Rattle.std.specs.{FinMap.Entries.{find}, Hash.{u32, u64, u8}, List.{filter, fold}, Ordering.{eq_by_cmp, is_lt}}
pub use Rattle.world_law.specs.{CutLaws.{get-cut}, Cuts.{cut, digest_of, is_asked, is_newer, is_wanted, VersionMap}}
